-- Which spans are nodes of a tree, and the versions of nodes and slots. All is said over a past as plain data.
--
-- A span is given by its height and its first time.
use Rattle.std.specs.Prelude.{ℕ, ℤ, pos, ◌+ℤ◌, Bool, true, false, not, ◌&&◌, ◌||◌, nat_lt, List, [], ◌∷◌, length, if◌then◌else◌}
use Rattle.std.specs.List.{list_any}
use Rattle.btr_base.specs.declared.point.Point.{Point}
use Rattle.btr_base.specs.Range.{covered}
use Rattle.btr_base.specs.Bag.{within}
use Rattle.btr_base.specs.Span.{width}
use Rattle.btr_base.specs.declared.limits.TheConstants.{LEAF_POINTS}
use Rattle.btr_tree.specs.History.{Commit, Past, Opened, ◌▷◌, bag}

-- The points of a span.
abbrev pub points_of : ℕ → ℤ → List Point → List Point
points_of height start b = within start (start +ℤ pos (width height)) b

-- There is a point.
abbrev pub has_points : List Point → Bool
has_points [] = false
has_points (p ∷ ps) = true

-- The commit adds a point in the span, or its cut covers a point that is there.
abbrev pub touches : Commit → ℕ → ℤ → List Point → Bool
touches c height start b =
    has_points (points_of height start c.added) || list_any (λ p. covered c.cut p.time) (points_of height start b)

-- A span with more points than a leaf holds is an inner node.
abbrev pub is_inner : ℕ → ℤ → List Point → Bool
is_inner height start b = nat_lt LEAF_POINTS (length (points_of height start b))

-- A span is a node if it has a point and the span above it is an inner node.
abbrev pub is_node : (List Point → Bool) → ℕ → ℤ → List Point → Bool
is_node above height start b = above b && has_points (points_of height start b)

-- No span is above the root.
abbrev pub above_root : List Point → Bool
above_root b = true

-- The version of the newest commit that touches the span, or before which `counts_from` did not hold; if there is none, the
-- date that the base has for the span.
abbrev pub last_change : (List Point → Bool) → ℕ → ℤ → Past → ℕ
last_change counts_from height start (Opened b dates) = dates height start
last_change counts_from height start (c ▷ h) =
    if touches c height start (bag h) || not (counts_from (bag h)) then c.version else last_change counts_from height start h

-- The version of a node: that of the newest commit that touches its span, or before which the span was no node.
abbrev pub node_version : (List Point → Bool) → ℕ → ℤ → Past → ℕ
node_version above height start h = last_change (is_node above height start) height start h

-- The version of a slot: that of the newest commit that touches it, or before which the span above it was no inner node.
abbrev pub slot_version : ℕ → ℤ → ℕ → ℤ → Past → ℕ
slot_version above_height above_start height start h =
    last_change (is_inner above_height above_start) height start h

-- The past up to a version: its commits that are no newer, and its base.
abbrev pub up_to : ℕ → Past → Past
up_to version (Opened b dates) = Opened b dates
up_to version (c ▷ h) = if nat_lt version c.version then up_to version h else c ▷ h
