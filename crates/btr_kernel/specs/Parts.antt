-- The aggregates that the sliding aggregate keeps of a list of points.
use Rattle.std.specs.Prelude.{◌≡◌, ℕ, ◌+◌, ◌-◌, ◌<◌, ◌≤◌, List, length, slice_range, slice_index_or}
use Rattle.btr_base.specs.declared.point.Point.{Point}
use Rattle.btr_base.specs.Agg.{AggValue, agg}
use Rattle.btr_kernel.specs.declared.sliding.Sliding.{Sliding}

-- The aggregates of the last point before an index, of the last two, and so on.
abbrev pub AreLasts : ℕ → List Point → List AggValue → Type 0
AreLasts mid b lasts =
    (k : ℕ) (d : AggValue) → k < length lasts → slice_index_or lasts k d ≡ agg (slice_range b (mid - (k + 1)) mid)

-- The aggregates are those of points before `mid`, and of the points from `mid` to `end`.
pub record IsSliding (b : List Point) (s : Sliding) : Type 0 where
  pub ends : s.end ≤ length b
  pub order : s.mid ≤ s.end
  pub few : length s.lasts.items ≤ s.mid
  pub lasts : AreLasts s.mid b s.lasts.items
  pub back : s.back ≡ agg (slice_range b s.mid s.end)
