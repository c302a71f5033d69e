-- Places in a list of points, and the window of the sweep.
use Rattle.std.specs.Prelude.{ℕ, ℤ, int_lt, List, length}
use Rattle.std.specs.List.{filter}
use Rattle.btr_base.specs.declared.point.Point.{Point}

-- How many points are before a time. In a list in order this is the index of the first point that is not.
abbrev pub place_of : ℤ → List Point → ℕ
place_of t b = length (filter (λ p. int_lt p.time t) b)
