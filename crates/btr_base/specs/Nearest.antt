-- The point nearest to a time, in one of the two directions.
use Rattle.std.specs.Prelude.{ℤ, int_le, int_lt, List, Option, None, slice_get}
use Rattle.std.specs.List.{filter, last_or}
use Rattle.btr_base.specs.declared.point.Point.{Point}
use Rattle.btr_base.specs.declared.toward.Toward.{Toward}
use Rattle.btr_base.specs.declared.toward.Toward.TheVariants.{Forward, Backward}

-- Forward the first point at or after the time, backward the last one before it.
abbrev pub nearest : Toward → ℤ → List Point → Option Point
nearest Forward t b = slice_get (filter (λ p. int_le t p.time) b) 0
nearest Backward t b = last_or None (filter (λ p. int_lt p.time t) b)
