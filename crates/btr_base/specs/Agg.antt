-- Aggregates of points: their count, the sum of their values, and the least and the greatest value.
use Rattle.std.specs.Prelude.{◌≡◌, ℕ, ◌+◌, ◌<◌, ℤ, pos, negsuc, ◌+ℤ◌, ◌*ℤ◌, ◌≤ℤ◌, List, [], ◌∷◌, Option, Some, None}
use Rattle.std.specs.Int.{int_min, int_max}
use Rattle.btr_base.specs.declared.point.Point.{Point}
use Rattle.btr_base.specs.Bag.{within}

-- The count of points, the sum of their values, and the least and the greatest value, if there is a point.
pub record AggValue : Type 0 where
  pub count : ℕ
  pub total : ℤ
  pub ends : Option (ℤ × ℤ)

-- The lower of the least values and the higher of the greatest values, of those that exist.
abbrev pub join_ends : Option (ℤ × ℤ) → Option (ℤ × ℤ) → Option (ℤ × ℤ)
join_ends None b = b
join_ends (Some a) None = Some a
join_ends (Some a) (Some b) = Some (int_min a.0 b.0, int_max a.1 b.1)

-- The aggregate of no points.
abbrev pub no_points : AggValue
no_points = record { count = 0; total = pos 0; ends = None }

-- The aggregate of one point with this value.
abbrev pub one_point : ℤ → AggValue
one_point value = record { count = 1; total = value; ends = Some (value, value) }

-- The aggregate of both together.
abbrev pub joined : AggValue → AggValue → AggValue
joined a b =
    record { count = a.count + b.count; total = a.total +ℤ b.total; ends = join_ends a.ends b.ends }

-- The aggregate of a list of points.
abbrev pub agg : List Point → AggValue
agg [] = no_points
agg (p ∷ ps) = joined (one_point p.value) (agg ps)

-- The aggregate of the points from a time up to, and without, another.
abbrev pub agg_within : ℤ → ℤ → List Point → AggValue
agg_within from to b = agg (within from to b)

-- The value is an `i64`.
abbrev pub IsValue : ℤ → Type 0
IsValue v = (negsuc 9223372036854775807 ≤ℤ v) × (v ≤ℤ pos 9223372036854775807)

-- There are ends exactly if there is a point. The sum lies from the count times the least value to the count times the greatest.
abbrev pub EndsFit : ℕ → ℤ → Option (ℤ × ℤ) → Type 0
EndsFit n total None = (n ≡ 0) × (total ≡ pos 0)
EndsFit n total (Some e) =
    (0 < n) × ((pos n *ℤ e.0) ≤ℤ total) × (total ≤ℤ (pos n *ℤ e.1)) × IsValue e.0 × IsValue e.1

-- What every aggregate keeps.
abbrev pub IsSummary : AggValue → Type 0
IsSummary s = EndsFit s.count s.total s.ends
