-- Kernels: what a distiller computes at a time, from the points of its inputs.
use Rattle.std.specs.Prelude.{ℕ, ◌^◌, nat_eq, nat_le, ℤ, pos, negsuc, ◌+ℤ◌, ◌-ℤ◌, ◌*ℤ◌, int_le, Bool, true, false, not, ◌&&◌}
use Rattle.std.specs.Prelude.{List, [], ◌∷◌, map, Option, Some, None, if◌then◌else◌}
use Rattle.std.specs.Int.{int_div_euclid, int_rem_euclid}
use Rattle.std.specs.Ordering.{int_eq}
use Rattle.std.specs.List.{filter}
use Rattle.std.specs.Option.{option_map, option_and_then, is_some}
use Rattle.btr_base.specs.declared.point.Point.{Point}
use Rattle.btr_base.specs.declared.toward.Toward.TheVariants.{Backward}
use Rattle.btr_base.specs.Bag.{within}
use Rattle.btr_base.specs.Agg.{AggValue, agg}
use Rattle.btr_base.specs.Nearest.{nearest}
use Rattle.btr_base.specs.Changes.{points_at}
use Rattle.btr_hist.specs.declared.kernel.Kernel.{Kernel}
use Rattle.btr_hist.specs.declared.kernel.Kernel.TheVariants.{Affine, Sum, Mean, Least, Greatest, Count, Delta, Minus, Angle, Hold, Cell}
use Rattle.btr_hist.specs.declared.kernel.Spec.{Spec}

-- The distinct times of a list, each once.
abbrev pub distinct : List ℤ → List ℤ
distinct [] = []
distinct (t ∷ ts) = t ∷ filter (λ u. not (int_eq t u)) (distinct ts)

-- The distinct times of points.
abbrev pub anchors : List Point → List ℤ
anchors b = distinct (map (λ p. p.time) b)

-- The points of the window that ends with a time: from `lead` nanoseconds before it up to it, both included.
abbrev pub window : ℕ → ℤ → List Point → List Point
window lead t b = within (t -ℤ pos lead) (t +ℤ pos 1) b

-- The greatest value, if there is a point.
abbrev pub greatest : List Point → Option ℤ
greatest b = option_map (λ e. e.1) (agg b).ends

-- The greatest value at a time.
abbrev pub value_at : ℤ → List Point → Option ℤ
value_at t b = greatest (points_at t b)

-- The greatest value at the last time before a time.
abbrev pub value_before : ℤ → List Point → Option ℤ
value_before t b = option_and_then (λ p. value_at p.time b) (nearest Backward t b)

-- The first less the second, if both are there.
abbrev pub difference : Option ℤ → Option ℤ → Option ℤ
difference (Some x) (Some y) = Some (x -ℤ y)
difference x y = None

-- An angle in thousandths of a degree, turned into the range from -180 degrees up to, and without, 180 degrees.
abbrev pub turned : ℤ → ℤ
turned r = int_rem_euclid (r +ℤ pos 180000) (pos 360000) -ℤ pos 180000

-- What a kernel computes at a time, from the points of the windows of its two inputs that end with it. A kernel of aligned windows
-- computes nothing there.
abbrev pub computed : Kernel → ℤ → List Point → List Point → Option ℤ
computed (Affine a b d) t first second = option_map (λ x. int_div_euclid ((a *ℤ x) +ℤ b) d) (value_at t first)
computed Sum t first second = Some (agg first).total
computed Mean t first second = Some (int_div_euclid (agg first).total (pos (agg first).count))
computed Least t first second = option_map (λ e. e.0) (agg first).ends
computed Greatest t first second = greatest first
computed Count t first second = Some (pos (agg first).count)
computed Delta t first second = difference (value_at t first) (value_before t first)
computed Minus t first second = difference (value_at t first) (value_at t second)
computed Angle t first second = option_map turned (difference (value_at t first) (value_at t second))
computed Hold t first second = difference (value_at t first) (value_before (t +ℤ pos 1) second)
computed (Cell which p) t first second = None

-- The value, if it is an `i64`.
abbrev pub stored : ℤ → Option ℤ
stored v = if int_le (negsuc 9223372036854775807) v && int_le v (pos 9223372036854775807) then Some v else None

-- The value that a kernel gives at a time, if it gives one.
abbrev pub value : Kernel → ℤ → List Point → List Point → Option ℤ
value kernel t first second = option_and_then stored (computed kernel t first second)

-- What a kernel of aligned windows gives of the aggregate of a window, by number, and that its windows are `2^p` ns wide.
pub record WindowKernel : Type 0 where
  pub which : ℕ
  pub p : ℕ

-- The kernel, if it is one of aligned windows.
abbrev pub window_kernel : Kernel → Option WindowKernel
window_kernel (Cell which p) = Some (record { which = which; p = p })
window_kernel kernel = None

-- What an aggregate says by number: 1 the sum, 2 the mean, rounded down, 3 the least value, 4 the greatest value, 5 the count.
abbrev pub aggregate_value : ℕ → AggValue → Option ℤ
aggregate_value which a =
    if nat_eq which 1 then Some a.total
    else if nat_eq which 2 then Some (int_div_euclid a.total (pos a.count))
    else if nat_eq which 3 then option_map (λ e. e.0) a.ends
    else if nat_eq which 4 then option_map (λ e. e.1) a.ends
    else if nat_eq which 5 then Some (pos a.count)
    else None

-- The value of a window with this aggregate, if it has a point and the value is an `i64`.
abbrev pub cell_value : ℕ → AggValue → Option ℤ
cell_value which a = if nat_eq a.count 0 then None else option_and_then stored (aggregate_value which a)

-- The kernel has a second input.
abbrev pub has_second : Kernel → Bool
has_second Minus = true
has_second Angle = true
has_second Hold = true
has_second kernel = false

-- The kernel divides by nothing less than 1.
abbrev pub divides_well : Kernel → Bool
divides_well (Affine a b d) = int_le (pos 1) d
divides_well kernel = true

-- A kernel of aligned windows gives one of the five values of an aggregate, has windows of at most 2^62 ns, and does not look back.
abbrev pub windows_fit : Option WindowKernel → ℕ → Bool
windows_fit None lead = true
windows_fit (Some c) lead = (nat_le 1 c.which && nat_le c.which 5) && (nat_le c.p 62 && nat_eq lead 0)

-- The spec has as many inputs as its kernel, a divisor of at least 1, a lead of at most 2^60 ns, slots of at most 2^62 ns, and
-- windows that fit.
abbrev pub is_good : Spec → Bool
is_good spec =
    (if has_second spec.kernel then is_some spec.second else not (is_some spec.second))
    && (divides_well spec.kernel
    && (nat_le spec.lead (2 ^ 60) && (nat_le spec.grain 62 && windows_fit (window_kernel spec.kernel) spec.lead)))
