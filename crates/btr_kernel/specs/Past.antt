-- Ranges that begin earlier.
use Rattle.std.specs.Prelude.{ℕ, pos, ◌-ℤ◌}
use Rattle.std.specs.Int.{int_max}
use Rattle.btr_base.specs.declared.limits.TheConstants.{FIRST}
use Rattle.btr_base.specs.Range.{RangeValue}

-- The range with its begin so much earlier, at the earliest the first time of the domain.
abbrev pub begun_earlier : ℕ → RangeValue → RangeValue
begun_earlier lead r = record { from = int_max FIRST (r.from -ℤ pos lead); to = r.to }
