-- Pages of nodes: the 4096 bytes of each, and the table that a page keeps.
use Rattle.std.specs.Prelude.{◌≡◌, ℕ, ◌-◌, ◌^◌, ◌<◌, ◌≤◌, ℤ, pos, ◌+ℤ◌, ◌≤ℤ◌, ◌<ℤ◌}
use Rattle.std.specs.Prelude.{List, [], ◌++◌, length, take, drop, replicate, codes, Option, Some, None}
use Rattle.std.specs.Int.{Width, w32, w64, w128, to_be_bytes, cast_unsigned}
use Rattle.std.specs.Int.RustNames.{FitsSigned}
use Rattle.std.specs.List.{flat_map, sum_by, AllByRecursion}
use Rattle.btr_base.specs.declared.point.Point.{Point}
use Rattle.btr_base.specs.Span.{SpanValue, width, IsSpan}
use Rattle.btr_base.specs.Bag.{IsInOrder}
use Rattle.btr_base.specs.Agg.{IsSummary}
use Rattle.btr_node.specs.declared.page.PageHeader.{PageHeader}
use Rattle.btr_node.specs.declared.page.PageSlot.{PageSlot}
use Rattle.btr_node.specs.declared.page.NodePage.{NodePage}
use Rattle.btr_node.specs.declared.page.NodePage.TheVariants.{Leaf, Inner}

-- ---- the bytes

-- A number in all the bytes of its width, the highest byte first.
unfoldable pub number : Width → ℕ → List ℕ
number w n = to_be_bytes w n

-- A signed number: its two's complement in eight bytes.
abbrev pub signed : ℤ → List ℕ
signed z = number w64 (cast_unsigned w64 z)

-- A list of n zeros.
unfoldable pub zeros : ℕ → List ℕ
zeros n = replicate n 0

-- The fields of both kinds, in 32 bytes, and 24 zeros.
unfoldable pub header_bytes : PageHeader → List ℕ
header_bytes f =
    signed f.start ++ number w32 f.height ++ number w32 f.stream ++ number w64 f.version ++ number w64 f.count ++ zeros 24

-- The time and the value of a point, in 16 bytes.
unfoldable pub point_bytes : Point → List ℕ
point_bytes p = signed p.time ++ signed p.value

-- The ends of an aggregate, or zeros where there is no point.
abbrev pub ends_or : Option (ℤ × ℤ) → ℤ × ℤ
ends_or None = (pos 0, pos 0)
ends_or (Some e) = e

-- A slot, in 56 bytes: the count, the sum in 16 bytes, the least and the greatest value, the version and the child.
unfoldable pub slot_bytes : PageSlot → List ℕ
slot_bytes s =
    number w64 s.agg.count
    ++ number w128 (cast_unsigned w128 s.agg.total)
    ++ signed (ends_or s.agg.ends).0
    ++ signed (ends_or s.agg.ends).1
    ++ number w64 s.version
    ++ number w64 s.child

-- The fields that both kinds have.
abbrev pub header : NodePage → PageHeader
header (Leaf start height stream version count points) =
    record { start = start; height = height; stream = stream; version = version; count = count }
header (Inner start height stream version count slots) =
    record { start = start; height = height; stream = stream; version = version; count = count }

-- The span that a page is about.
abbrev pub span_of_page : NodePage → SpanValue
span_of_page page = record { start = (header page).start; height = (header page).height }

-- The slots of a page: none of a leaf.
abbrev pub slots_of_page : NodePage → List PageSlot
slots_of_page (Leaf start height stream version count points) = []
slots_of_page (Inner start height stream version count slots) = slots

-- The 4096 bytes of a page: a mark, the fields of both kinds, and all places for points, or all slots and zeros.
unfoldable pub page_bytes : NodePage → List ℕ
page_bytes (Leaf start height stream version count points) =
    codes "BTR-LEAF"
    ++ header_bytes (header (Leaf start height stream version count points))
    ++ flat_map point_bytes points
page_bytes (Inner start height stream version count slots) =
    codes "BTR-NODE"
    ++ header_bytes (header (Inner start height stream version count slots))
    ++ flat_map slot_bytes slots
    ++ zeros 448

-- ---- places that are not used

-- The place of no point.
abbrev pub unused_place : Point
unused_place = record { time = pos 0; value = pos 0 }

-- The 252 places of a leaf with these points: the points, at most 252, and unused places after them.
abbrev pub places_with : List Point → List Point
places_with points = points ++ replicate (252 - length points) unused_place

-- ---- the table

-- The page is of a span of the tree, and of a version that a stream can have.
pub record IsHeader (f : PageHeader) : Type 0 where
  pub span : IsSpan (record { start = f.start; height = f.height })
  pub version_from : 1 ≤ f.version
  pub version_to : f.version ≤ 4294967295

-- The point's time lies in the span.
abbrev pub IsInside : ℤ → ℕ → Point → Type 0
IsInside start height p = (start ≤ℤ p.time) × (p.time <ℤ (start +ℤ pos (width height)))

-- The place of no point: zeros.
abbrev pub IsUnused : Point → Type 0
IsUnused p = (p.time ≡ pos 0) × (p.value ≡ pos 0)

-- A leaf: the first places are its points, in order and in its span, and the others are unused.
pub record IsLeafPage (f : PageHeader) (points : List Point) : Type 0 where
  pub fields : IsHeader f
  pub count_from : 1 ≤ f.count
  pub count_to : f.count ≤ 252
  pub in_order : IsInOrder (take f.count points)
  pub inside : AllByRecursion (IsInside f.start f.height) (take f.count points)
  pub unused : AllByRecursion IsUnused (drop f.count points)

-- A slot of a node of this version. A slot without points has no child. Another has one, and a version from 1 on.
pub record IsSlot (version : ℕ) (s : PageSlot) : Type 0 where
  pub version_to : s.version ≤ version
  pub no_child : s.agg.count ≡ 0 → s.child ≡ 0
  pub has_version : 1 ≤ s.agg.count → 1 ≤ s.version
  pub has_child : 1 ≤ s.agg.count → 1 ≤ s.child

-- An inner node: it has more points than a leaf can have, and the counts of its slots add up to its count.
pub record IsInnerPage (f : PageHeader) (slots : List PageSlot) : Type 0 where
  pub fields : IsHeader f
  pub height_from : 1 ≤ f.height
  pub count_from : 253 ≤ f.count
  pub count_to : f.count ≤ 2 ^ 32
  pub total : sum_by (λ s. s.agg.count) slots ≡ f.count
  pub each : AllByRecursion (IsSlot f.version) slots

-- The page keeps the table.
abbrev pub Keeps : NodePage → Type 0
Keeps (Leaf start height stream version count points) =
    IsLeafPage (header (Leaf start height stream version count points)) points
Keeps (Inner start height stream version count slots) =
    IsInnerPage (header (Inner start height stream version count slots)) slots

-- The bytes are those of this page, which keeps the table: the grammar of pages.
pub record Spells (bytes : List ℕ) (page : NodePage) : Type 0 where
  pub keeps : Keeps page
  pub bytes_are : bytes ≡ page_bytes page

-- ---- what every value of the types is

-- Each number fits its width.
pub record FitsHeader (f : PageHeader) : Type 0 where
  pub start : FitsSigned w64 f.start
  pub height : f.height < 2 ^ 32
  pub stream : f.stream < 2 ^ 32
  pub version : f.version < 2 ^ 64
  pub count : f.count < 2 ^ 64

pub record FitsPoint (p : Point) : Type 0 where
  pub time : FitsSigned w64 p.time
  pub value : FitsSigned w64 p.value

-- The sum of an aggregate lies from the count times the least value to the count times the greatest.
pub record FitsSlot (s : PageSlot) : Type 0 where
  pub summary : IsSummary s.agg
  pub count : s.agg.count < 2 ^ 64
  pub total : FitsSigned w128 s.agg.total
  pub version : s.version < 2 ^ 64
  pub child : s.child < 2 ^ 64

-- A leaf has 252 places, an inner node 64 slots.
abbrev pub Fits : NodePage → Type 0
Fits (Leaf start height stream version count points) =
    FitsHeader (header (Leaf start height stream version count points)) × (length points ≡ 252) × AllByRecursion FitsPoint points
Fits (Inner start height stream version count slots) =
    FitsHeader (header (Inner start height stream version count slots)) × (length slots ≡ 64) × AllByRecursion FitsSlot slots
