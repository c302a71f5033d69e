-- The forms of a line: one definition for each, over the words that follow its name (of a question: its name and the id).
use Rattle.std.specs.Prelude.{ℕ, List, [], ◌∷◌, if◌then◌else◌, codes, bytes_eq, Option, Some, None, option_map, option_and_then}
use Rattle.btr_base.specs.declared.point.Point.{Point}
use Rattle.btr_base.specs.Bag.{sort}
use Rattle.btr_base.specs.Decimal.{signed_of}
use Rattle.btr_hist.specs.declared.query.StreamQuery.{StreamQuery}
use Rattle.btr_hist.specs.declared.query.StreamQuery.TheVariants.{Points, Nearest, Aligned, Windows, Changes, Info}
use Rattle.btr_text.specs.declared.script.Line.{Line}
use Rattle.btr_text.specs.declared.script.Line.TheVariants.{Create, Insert, Delete, Feed, Flush, Discard, Retire, Ask, Streams}
use Rattle.btr_text.specs.Distiller.{distiller_form, refresh_form}
use Rattle.btr_text.specs.Cell.{cell_form}
use Rattle.btr_text.specs.Word.{unsigned_of, power_of, toward_of, id_of, at_of}

-- ---- commits and feeds

-- The point that a time and a value say.
abbrev pub point_of : List ℕ → List ℕ → Option Point
point_of t v = option_and_then (λ time. option_map (λ value. record { time = time; value = value }) (signed_of v)) (signed_of t)

-- The points that pairs of words say: a time and a value each.
abbrev pub points_of : List (List ℕ) → Option (List Point)
points_of [] = Some []
points_of (t ∷ []) = None
points_of (t ∷ v ∷ ws) = option_and_then (λ p. option_map (λ ps. p ∷ ps) (points_of ws)) (point_of t v)

-- An id, and points in order: `ID T V [T V ..]`.
abbrev pub added_form : List (List ℕ) → Option (ℕ × List Point)
added_form (id ∷ t ∷ ws) = option_and_then (λ i. option_map (λ ps. (i, sort ps)) (points_of (t ∷ ws))) (id_of id)
added_form _ = None

-- `create ID`.
abbrev pub create_form : List (List ℕ) → Option Line
create_form (id ∷ []) = option_map (λ i. Create i) (id_of id)
create_form _ = None

-- `insert ID T V [T V ..]`.
abbrev pub insert_form : List (List ℕ) → Option Line
insert_form ws = option_map (λ a. Insert a.0 a.1) (added_form ws)

-- `delete ID S E`.
abbrev pub delete_form : List (List ℕ) → Option Line
delete_form (id ∷ s ∷ e ∷ []) =
    option_and_then (λ i. option_and_then (λ from. option_map (λ to. Delete i from to) (signed_of e)) (signed_of s)) (id_of id)
delete_form _ = None

-- `feed ID T V [T V ..]`.
abbrev pub feed_form : List (List ℕ) → Option Line
feed_form ws = option_map (λ a. Feed a.0 a.1) (added_form ws)

-- `flush ID`.
abbrev pub flush_form : List (List ℕ) → Option Line
flush_form (id ∷ []) = option_map (λ i. Flush i) (id_of id)
flush_form _ = None

-- `discard ID`.
abbrev pub discard_form : List (List ℕ) → Option Line
discard_form (id ∷ []) = option_map (λ i. Discard i) (id_of id)
discard_form _ = None

-- `retire ID FIRST`.
abbrev pub retire_form : List (List ℕ) → Option Line
retire_form (id ∷ first ∷ []) = option_and_then (λ i. option_map (λ n. Retire i n) (unsigned_of first)) (id_of id)
retire_form _ = None

-- ---- questions about one stream, after their name and the id

-- `range ID S E AT`.
abbrev pub range_form : List (List ℕ) → Option StreamQuery
range_form (s ∷ e ∷ at ∷ []) =
    option_and_then (λ from. option_and_then (λ to. option_map (λ v. Points from to v) (at_of at)) (signed_of e)) (signed_of s)
range_form _ = None

-- `nearest ID T next AT` or `nearest ID T prev AT`.
abbrev pub nearest_form : List (List ℕ) → Option StreamQuery
nearest_form (t ∷ way ∷ at ∷ []) =
    option_and_then (λ time. option_and_then (λ toward.
    option_map (λ v. Nearest time toward v) (at_of at)) (toward_of way)) (signed_of t)
nearest_form _ = None

-- `aligned ID S E P AT`.
abbrev pub aligned_form : List (List ℕ) → Option StreamQuery
aligned_form (s ∷ e ∷ p ∷ at ∷ []) =
    option_and_then (λ from. option_and_then (λ to. option_and_then (λ power.
    option_map (λ v. Aligned from to power v) (at_of at)) (power_of p)) (signed_of e)) (signed_of s)
aligned_form _ = None

-- `windows ID S E W AT`.
abbrev pub windows_form : List (List ℕ) → Option StreamQuery
windows_form (s ∷ e ∷ w ∷ at ∷ []) =
    option_and_then (λ from. option_and_then (λ to. option_and_then (λ width.
    option_map (λ v. Windows from to width v) (at_of at)) (unsigned_of w)) (signed_of e)) (signed_of s)
windows_form _ = None

-- `changes ID V1 V2 P`.
abbrev pub changes_form : List (List ℕ) → Option StreamQuery
changes_form (v1 ∷ v2 ∷ p ∷ []) =
    option_and_then (λ old. option_and_then (λ new.
    option_map (λ power. Changes old new power) (power_of p)) (unsigned_of v2)) (unsigned_of v1)
changes_form _ = None

-- `info ID AT`.
abbrev pub info_form : List (List ℕ) → Option StreamQuery
info_form (at ∷ []) = option_map (λ v. Info v) (at_of at)
info_form _ = None

-- The question of this name that words say.
abbrev pub query_form : List ℕ → List (List ℕ) → Option StreamQuery
query_form name ws =
    if bytes_eq name (codes "range") then range_form ws
    else if bytes_eq name (codes "nearest") then nearest_form ws
    else if bytes_eq name (codes "aligned") then aligned_form ws
    else if bytes_eq name (codes "windows") then windows_form ws
    else if bytes_eq name (codes "changes") then changes_form ws
    else if bytes_eq name (codes "info") then info_form ws
    else None

-- A question of this name, with the id of its stream.
abbrev pub ask_form : List ℕ → List (List ℕ) → Option Line
ask_form name (id ∷ ws) = option_and_then (λ i. option_map (λ q. Ask i q) (query_form name ws)) (id_of id)
ask_form name _ = None

-- ---- lines

-- `streams`.
abbrev pub streams_form : List (List ℕ) → Option Line
streams_form [] = Some Streams
streams_form _ = None

-- The line that words say, if they fit a form. Each word of a form is ASCII, so no other text fits one.
abbrev pub line_of : List (List ℕ) → Option Line
line_of [] = None
line_of (name ∷ ws) =
    if bytes_eq name (codes "create") then create_form ws
    else if bytes_eq name (codes "insert") then insert_form ws
    else if bytes_eq name (codes "delete") then delete_form ws
    else if bytes_eq name (codes "feed") then feed_form ws
    else if bytes_eq name (codes "flush") then flush_form ws
    else if bytes_eq name (codes "discard") then discard_form ws
    else if bytes_eq name (codes "distiller") then distiller_form ws
    else if bytes_eq name (codes "cell") then cell_form ws
    else if bytes_eq name (codes "refresh") then refresh_form ws
    else if bytes_eq name (codes "retire") then retire_form ws
    else if bytes_eq name (codes "streams") then streams_form ws
    else ask_form name ws
