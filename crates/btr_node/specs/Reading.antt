-- What the private functions promise: the values that stand at places of a page's bytes, whatever the bytes are.
use Rattle.std.specs.Prelude.{◌≡◌, ℕ, ◌+◌, ◌*◌, ◌<◌, ◌&&◌, nat_lt, ℤ, pos, ◌*ℤ◌, int_le, if◌then◌else◌}
use Rattle.std.specs.Prelude.{zero, suc, List, [], ◌∷◌, take, drop, Some}
use Rattle.std.specs.Int.{w32, w64, w128, from_be_bytes, cast_signed}
use Rattle.btr_base.specs.declared.point.Point.{Point}
use Rattle.btr_base.specs.Agg.{AggValue, no_points}
use Rattle.btr_node.specs.declared.page.PageHeader.{PageHeader}
use Rattle.btr_node.specs.declared.page.PageSlot.{PageSlot}
use Rattle.btr_node.specs.Page.{ends_or}

-- The number of four, eight or sixteen bytes from an index on.
abbrev pub u32_in : ℕ → List ℕ → ℕ
u32_in at bytes = from_be_bytes w32 (take 4 (drop at bytes))

abbrev pub u64_in : ℕ → List ℕ → ℕ
u64_in at bytes = from_be_bytes w64 (take 8 (drop at bytes))

abbrev pub u128_in : ℕ → List ℕ → ℕ
u128_in at bytes = from_be_bytes w128 (take 16 (drop at bytes))

-- The fields of both kinds, after the mark.
unfoldable pub header_in : List ℕ → PageHeader
header_in bytes = record {
  start = cast_signed w64 (u64_in 8 bytes);
  height = u32_in 16 bytes;
  stream = u32_in 20 bytes;
  version = u64_in 24 bytes;
  count = u64_in 32 bytes;
}

unfoldable pub point_in : ℕ → List ℕ → Point
point_in at bytes =
    record { time = cast_signed w64 (u64_in at bytes); value = cast_signed w64 (u64_in (at + 8) bytes) }

-- The aggregate of these numbers, or that of no points where they are those of none.
unfoldable pub agg_from : ℕ → ℤ → ℤ → ℤ → AggValue
agg_from count total least greatest =
    if nat_lt 0 count && int_le (pos count *ℤ least) total && int_le total (pos count *ℤ greatest)
    then record { count = count; total = total; ends = Some (least, greatest) } else no_points

-- These numbers are those of the aggregate of them.
abbrev pub IsExact : ℕ → ℤ → ℤ → ℤ → Type 0
IsExact count total least greatest =
    let a = agg_from count total least greatest in
    (a.count ≡ count) × (a.total ≡ total) × ((ends_or a.ends).0 ≡ least) × ((ends_or a.ends).1 ≡ greatest)

unfoldable pub agg_in : ℕ → List ℕ → AggValue
agg_in at bytes =
    agg_from (u64_in at bytes)
    (cast_signed w128 (u128_in (at + 8) bytes))
    (cast_signed w64 (u64_in (at + 24) bytes))
    (cast_signed w64 (u64_in (at + 32) bytes))

unfoldable pub slot_in : ℕ → List ℕ → PageSlot
slot_in at bytes = record {
  agg = agg_in at bytes;
  version = u64_in (at + 40) bytes;
  child = u64_in (at + 48) bytes;
}

-- The numbers of the slot that stand at an index are those of an aggregate.
unfoldable pub IsExactAt : ℕ → List ℕ → Type 0
IsExactAt at bytes =
    IsExact (u64_in at bytes)
    (cast_signed w128 (u128_in (at + 8) bytes))
    (cast_signed w64 (u64_in (at + 24) bytes))
    (cast_signed w64 (u64_in (at + 32) bytes))

-- The numbers of the first `number` slots are those of aggregates.
abbrev pub AreExact : ℕ → List ℕ → Type 0
AreExact number bytes = (k : ℕ) → k < number → IsExactAt (64 + 56 * k) bytes

-- `number` items of one width from an index on, each read at its own.
unfoldable pub items_in : {X : Type 0} → (ℕ → List ℕ → X) → ℕ → ℕ → ℕ → List ℕ → List X
items_in item width zero at bytes = []
items_in item width (suc number) at bytes = item at bytes ∷ items_in item width number (at + width) bytes
