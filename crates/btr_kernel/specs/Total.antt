-- The kernels that are computed from the aggregate of the first input's window.
use Rattle.std.specs.Prelude.{ℤ, pos, Bool, true, false, Option, Some, None}
use Rattle.std.specs.Int.{int_div_euclid}
use Rattle.std.specs.Option.{option_map}
use Rattle.btr_base.specs.Agg.{AggValue}
use Rattle.btr_hist.specs.declared.kernel.Kernel.{Kernel}
use Rattle.btr_hist.specs.declared.kernel.Kernel.TheVariants.{Sum, Mean, Least, Greatest, Count}

-- The kernel looks at the aggregate of the first input's window alone.
abbrev pub is_total : Kernel → Bool
is_total Sum = true
is_total Mean = true
is_total Least = true
is_total Greatest = true
is_total Count = true
is_total kernel = false

-- What such a kernel computes from the aggregate. Another kernel computes nothing from it.
abbrev pub of_total : Kernel → AggValue → Option ℤ
of_total Sum all = Some all.total
of_total Mean all = Some (int_div_euclid all.total (pos all.count))
of_total Least all = option_map (λ e. e.0) all.ends
of_total Greatest all = option_map (λ e. e.1) all.ends
of_total Count all = Some (pos all.count)
of_total kernel all = None
