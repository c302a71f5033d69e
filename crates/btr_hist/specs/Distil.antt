-- Distillates: the points of an output, and the commit that brings them from some versions of its inputs to others.
use Rattle.std.specs.Prelude.{◌≡◌, ℕ, ◌+◌, ◌^◌, ℤ, pos, ◌+ℤ◌, ◌-ℤ◌, int_le, int_lt, Bool, true, ◌&&◌, List, ◌++◌, map}
use Rattle.std.specs.Prelude.{Option, Some, None}
use Rattle.std.specs.List.{filter, filter_map}
use Rattle.std.specs.Option.{option_map}
use Rattle.std.specs.Ordering.{int_eq}
use Rattle.btr_base.specs.declared.limits.TheConstants.{FIRST}
use Rattle.btr_base.specs.declared.point.Point.{Point}
use Rattle.btr_base.specs.Point.{InDomain, AreInDomain}
use Rattle.btr_base.specs.Range.{RangeValue, IsRange, contains, covered}
use Rattle.btr_base.specs.Bag.{IsInOrder}
use Rattle.btr_base.specs.Agg.{agg_within}
use Rattle.btr_base.specs.Windows.{window_of, window_at, begin_of}
use Rattle.btr_base.specs.Changes.{points_at, changes}
use Rattle.btr_base.specs.Cut.{lengthened, union}
use Rattle.btr_base.specs.Commit.{Change}
use Rattle.btr_hist.specs.declared.kernel.Spec.{Spec}
use Rattle.btr_hist.specs.Kernel.{distinct, anchors, window, value, WindowKernel, window_kernel, cell_value}

-- The points of the inputs of a distiller. With one input the second has none.
pub record Inputs : Type 0 where
  pub first : List Point
  pub second : List Point

-- The points of the inputs are bags of the domain.
pub record AreBags (i : Inputs) : Type 0 where
  pub first_in_order : IsInOrder i.first
  pub first_in_domain : AreInDomain i.first
  pub second_in_order : IsInOrder i.second
  pub second_in_domain : AreInDomain i.second

-- ---- kernels that give a value at each time of their first input

-- The value of an output at a time, if there is one.
abbrev pub value_of : Spec → Inputs → ℤ → Option ℤ
value_of spec i t = value spec.kernel t (window spec.lead t i.first) (window spec.lead t i.second)

-- The points with these times and the values that f gives.
abbrev pub points_from : (ℤ → Option ℤ) → List ℤ → List Point
points_from f ts = filter_map (λ t. option_map (λ v. record { time = t; value = v }) (f t)) ts

-- At each distinct time of the first input the value, if there is one.
abbrev pub kernel_points : Spec → Inputs → List Point
kernel_points spec i = points_from (value_of spec i) (anchors i.first)

-- A function of a time and two inputs looks at nothing but the windows that end with the time.
abbrev pub IsLocal : ℕ → (Inputs → ℤ → Option ℤ) → Type 0
IsLocal lead f =
    (t : ℤ) (i j : Inputs) → window lead t i.first ≡ window lead t j.first → window lead t i.second ≡ window lead t j.second
    → f i t ≡ f j t

-- ---- kernels that give a value for each aligned window of their input

-- The start of the aligned window around a time, `2^p` ns wide.
abbrev pub window_start : ℕ → ℤ → ℤ
window_start p t = begin_of FIRST (2 ^ p) t

-- The value of the window that begins at a time, if there is one.
abbrev pub cell_at : WindowKernel → List Point → ℤ → Option ℤ
cell_at c b t = cell_value c.which (agg_within t (t +ℤ pos (2 ^ c.p)) b)

-- At the start of each window with a point the value of the window, if there is one.
abbrev pub cell_points : WindowKernel → List Point → List Point
cell_points c b = points_from (cell_at c b) (distinct (map (λ q. window_start c.p q.time) b))

-- The aligned windows that a range meets, from the start of the first to the end of the last.
abbrev pub whole : ℕ → RangeValue → RangeValue
whole p r = record {
  from = window_start p r.from;
  to = window_at FIRST (2 ^ p) (window_of FIRST (2 ^ p) (r.to -ℤ pos 1) + 1);
}

-- ---- outputs

-- The points of an output over all time, by the kind of its kernel.
abbrev pub points_by : Option WindowKernel → Spec → Inputs → List Point
points_by None spec i = kernel_points spec i
points_by (Some c) spec i = cell_points c i.first

abbrev pub output_points : Spec → Inputs → List Point
output_points spec i = points_by (window_kernel spec.kernel) spec i

-- An output may look at the points of its inputs at the second time for its points at the first: those from `lead` nanoseconds before
-- it up to it, or those of the aligned window that begins at it.
abbrev pub looks_by : Option WindowKernel → ℕ → ℤ → ℤ → Bool
looks_by None lead t u = int_le (t -ℤ pos lead) u && int_lt u (t +ℤ pos 1)
looks_by (Some c) lead t u = int_eq (window_start c.p u) t

abbrev pub looks_at : Spec → ℤ → ℤ → Bool
looks_at spec t u = looks_by (window_kernel spec.kernel) spec.lead t u

-- The times at which an output may differ if an input differs in a range: these times, and after them for as long as the output looks
-- back, or the aligned windows that the range meets.
abbrev pub widened_by : Option WindowKernel → ℕ → RangeValue → RangeValue
widened_by None lead r = lengthened lead r
widened_by (Some c) lead r = whole c.p r

abbrev pub widened : Spec → RangeValue → RangeValue
widened spec r = widened_by (window_kernel spec.kernel) spec.lead r

-- The points that a function of two inputs gives at a time depend on nothing but the points at the times that it looks at.
abbrev pub DependsOn : (ℤ → ℤ → Bool) → (Inputs → List Point) → Type 0
DependsOn looks f =
    (t : ℤ) (i j : Inputs) → AreBags i → AreBags j
    → filter (λ p. looks t p.time) i.first ≡ filter (λ p. looks t p.time) j.first
    → filter (λ p. looks t p.time) i.second ≡ filter (λ p. looks t p.time) j.second → points_at t (f i) ≡ points_at t (f j)

-- A range that is widened is a range, and contains each time of the domain that looks at a time of the range.
pub record IsWidened (looks : ℤ → ℤ → Bool) (widen : RangeValue → RangeValue) : Type 0 where
  pub is_range : (r : RangeValue) → IsRange r → IsRange (widen r)
  pub contained : (r : RangeValue) (t u : ℤ) → IsRange r → contains r u ≡ true → looks t u ≡ true → InDomain t
      → contains (widen r) t ≡ true

-- The times at which the output may differ: where an input differs, widened.
abbrev pub affected : Spec → Inputs → Inputs → List RangeValue
affected spec old new =
    union (map (widened spec) (changes spec.grain old.first new.first ++ changes spec.grain old.second new.second))

-- The commit that brings the output from the old inputs to the new: it replaces the points at the affected times.
abbrev pub distillate : Spec → Inputs → Inputs → Change
distillate spec old new = record {
  cut = affected spec old new;
  added = filter (λ p. covered (affected spec old new) p.time) (output_points spec new);
}
