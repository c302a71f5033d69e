-- The points of a kernel of aligned windows, one window after the other.
use Rattle.std.specs.Prelude.{ℕ, ℤ, int_lt, if◌then◌else◌, Option, None}
use Rattle.std.specs.Option.{option_map}
use Rattle.btr_base.specs.declared.cell.Cell.{Cell}
use Rattle.btr_base.specs.declared.point.Point.{Point}
use Rattle.btr_hist.specs.Kernel.{cell_value}

-- The point at the start of a window, if that is not before a time and the window has a value.
abbrev pub cell_point : ℕ → ℤ → Cell → Option Point
cell_point which from c =
    if int_lt c.start from then None
    else option_map (λ v. record { time = c.start; value = v }) (cell_value which c.agg)
