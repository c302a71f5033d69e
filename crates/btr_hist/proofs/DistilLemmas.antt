-- The main lemmas on distillates: the points of an output, the cut, the added points, and that a distillate is right.
use Rattle.std.specs.Prelude.{◌≡◌, ℕ, ◌+◌, ◌^◌, ◌≤◌, nat_le, ℤ, pos, ◌+ℤ◌, ◌-ℤ◌, ◌≤ℤ◌, int_le, int_lt, Bool, true, not, ◌&&◌}
use Rattle.std.specs.Prelude.{List, [], ◌∷◌, ◌++◌, length, map, cond, Option, Some, None}
use Rattle.std.specs.Option.{option_map, is_some}
use Rattle.std.specs.Ordering.{int_eq}
use Rattle.std.proofs.Common.{refl, sym, ap, ◌∙◌, arith, subst}
use Rattle.std.proofs.lemmas.Bool.{le-ltb}
use Rattle.std.proofs.lemmas.Bool.Decides.{nat_tests}
use Rattle.std.proofs.lemmas.Int.{ints}
use Rattle.std.proofs.lemmas.List.{length-append, length-map}
use Rattle.btr_base.specs.declared.limits.TheConstants.{MAX_POINTS}
use Rattle.btr_base.specs.declared.point.Point.{Point}
use Rattle.btr_base.specs.Point.{in_domain, InDomain, AreInDomain}
use Rattle.btr_base.specs.Range.{covered}
use Rattle.btr_base.specs.Bag.{IsInOrder}
use Rattle.btr_base.specs.Changes.{points_at, changes}
use Rattle.btr_base.specs.Commit.{after}
use Rattle.btr_base.proofs.ListLemmas.{each-weaker, each-filter, filter-passes}
use Rattle.btr_base.proofs.ChangesLemmas.{changes-length}
use Rattle.btr_base.proofs.CutLemmas.{lengthened-is_range, lengthened-contains, union-length}
use Rattle.btr_hist.specs.declared.kernel.Spec.{Spec}
use Rattle.btr_hist.specs.declared.rejection.Rejection.TheVariants.{OutOfDomain, TooMany}
use Rattle.btr_hist.specs.Kernel.{anchors, window, value, WindowKernel, window_kernel, windows_fit, has_second, divides_well, is_good}
use Rattle.btr_hist.specs.Distil.{Inputs, AreBags, IsLocal, value_of, points_from, kernel_points, points_by, looks_by, widened_by}
use Rattle.btr_hist.specs.Distil.{output_points, looks_at, widened, DependsOn, IsWidened, affected, distillate}
use Rattle.btr_hist.specs.Laws.{HasSmallWindows}
use Rattle.btr_hist.specs.Legal.{when, first_out_of_domain, points_rejection, distillate_change_rejection}
use Rattle.btr_hist.proofs.KernelLemmas.{each-anchors, filter-anchors, filter-points_from, points_from-same, none-first}
use Rattle.btr_hist.proofs.KernelLemmas.{TimesRise, rise-in_order, rise-accepted, kernel-times, kernel-in_domain, kernel-length}
use Rattle.btr_hist.proofs.CellLemmas.{cells-depend, cells-times, cells-in_domain, cells-length, whole-widened}
use Rattle.btr_hist.proofs.LocalityLemmas.{points_at-agree, IsBag, local-right}

-- ---- kernels are local

pub value_of-local : (spec : Spec) → IsLocal spec.lead (value_of spec)
value_of-local spec t i j h k =
    ap (λ w. value spec.kernel t w (window spec.lead t i.second)) h ∙ ap (value spec.kernel t (window spec.lead t j.first)) k

window-itself : (lead : ℕ) (t : ℤ) → (int_le (t -ℤ pos lead) t && int_lt t (t +ℤ pos 1)) ≡ true
window-itself lead t = grind (arith, ints)

time-is : (t u : ℤ) → int_eq u t ≡ true → t ≡ u
time-is t u h = grind (arith, ints)

kernel-at : (spec : Spec) (i : Inputs) (t : ℤ) → points_at t (kernel_points spec i) ≡ points_from (value_of spec i) (anchors (points_at t i.first))
kernel-at spec i t =
    filter-points_from (value_of spec i) (λ u. int_eq u t) (anchors i.first)
    ∙ ap (points_from (value_of spec i)) (filter-anchors (λ u. int_eq u t) i.first)

-- ---- what is used of a good spec

pub record IsGood (spec : Spec) : Type 0 where
  pub grain : spec.grain ≤ 62
  pub windows : HasSmallWindows (window_kernel spec.kernel)

last-test : (a b c d : Bool) (n : ℕ) → (a && (b && (c && (nat_le n 62 && d)))) ≡ true → (n ≤ 62) × (d ≡ true)
last-test a b c d n h = (grind (arith, nat_tests), grind (arith, nat_tests))

small-windows : (k : Option WindowKernel) (lead : ℕ) → windows_fit k lead ≡ true → HasSmallWindows k
small-windows None lead h = tt
small-windows (Some c) lead h = grind (arith, nat_tests)

pub good-is : (spec : Spec) → is_good spec ≡ true → IsGood spec
good-is spec h =
    let kernel = window_kernel spec.kernel in
    let last = last-test (cond (has_second spec.kernel) (is_some spec.second) (not (is_some spec.second))) (divides_well spec.kernel) (nat_le spec.lead (2 ^ 60)) (windows_fit kernel spec.lead) spec.grain h in
    record { grain = last.0; windows = small-windows kernel spec.lead last.1 }

-- ---- the points of an output, by the kind of its kernel

kernel-depends : (spec : Spec) → DependsOn (looks_by None spec.lead) (points_by None spec)
kernel-depends spec t i j h k first second =
    let here = points_at-agree (looks_by None spec.lead t) t i.first j.first (window-itself spec.lead t) first in
    let value : value_of spec i t ≡ value_of spec j t = value_of-local spec t i j first second in
    let same = each-weaker (λ q. int_eq q.time t ≡ true) (λ q. value_of spec i q.time ≡ value_of spec j q.time) (λ q e. subst (λ u. value_of spec i u ≡ value_of spec j u) (time-is t q.time e) value) (points_at t j.first) (filter-passes (λ q. int_eq q.time t) j.first) in
    kernel-at spec i t
    ∙ ap (λ b. points_from (value_of spec i) (anchors b)) here
    ∙ points_from-same (value_of spec i) (value_of spec j) (anchors (points_at t j.first)) (each-anchors (λ u. value_of spec i u ≡ value_of spec j u) (points_at t j.first) same)
    ∙ sym (kernel-at spec j t)

depends-by : (k : Option WindowKernel) (spec : Spec) → DependsOn (looks_by k spec.lead) (points_by k spec)
depends-by None spec = kernel-depends spec
depends-by (Some c) spec = cells-depend c spec

rise-by : (k : Option WindowKernel) (spec : Spec) (i : Inputs) → AreBags i → TimesRise (points_by k spec i)
rise-by None spec i h = kernel-times spec i h.first_in_order
rise-by (Some c) spec i h = cells-times c i.first h.first_in_order h.first_in_domain

in_domain-by : (k : Option WindowKernel) (spec : Spec) (i : Inputs) → AreBags i → AreInDomain (points_by k spec i)
in_domain-by None spec i h = kernel-in_domain spec i h.first_in_domain
in_domain-by (Some c) spec i h = cells-in_domain c i.first h.first_in_domain

length-by : (k : Option WindowKernel) (spec : Spec) (i : Inputs) → length (points_by k spec i) ≤ length i.first
length-by None spec i = kernel-length spec i
length-by (Some c) spec i = cells-length c i.first

none-by : (k : Option WindowKernel) (spec : Spec) (second : List Point) → points_by k spec (record { first = []; second = second }) ≡ []
none-by None spec second = refl
none-by (Some c) spec second = refl

-- ---- the points of an output

-- The points of an output at a time depend on nothing but the times that it looks at.
pub output-depends : (spec : Spec) → DependsOn (looks_at spec) (output_points spec)
output-depends spec = depends-by (window_kernel spec.kernel) spec

output-rise : (spec : Spec) (i : Inputs) → AreBags i → TimesRise (output_points spec i)
output-rise spec i h = rise-by (window_kernel spec.kernel) spec i h

pub output-in_order : (spec : Spec) (i : Inputs) → AreBags i → IsInOrder (output_points spec i)
output-in_order spec i h = rise-in_order (output_points spec i) (output-rise spec i h)

pub output-in_domain : (spec : Spec) (i : Inputs) → IsGood spec → AreBags i → AreInDomain (output_points spec i)
output-in_domain spec i good h = in_domain-by (window_kernel spec.kernel) spec i h

pub output-bag : (spec : Spec) (i : Inputs) → IsGood spec → AreBags i → IsBag (output_points spec i)
output-bag spec i good h =
    record { in_order = output-in_order spec i h; in_domain = output-in_domain spec i good h }

-- An output has no points if its first input has none.
pub output-none : (spec : Spec) (second : List Point) → output_points spec (record { first = []; second = second }) ≡ []
output-none spec second = none-by (window_kernel spec.kernel) spec second

-- A version may hold the points of an output, if its first input has no more than a version may hold.
pub output-accepted : (spec : Spec) (i : Inputs) → IsGood spec → AreBags i → length i.first ≤ MAX_POINTS → points_rejection (output_points spec i) ≡ None
output-accepted spec i good h few =
    let fewer = length-by (window_kernel spec.kernel) spec i in
    rise-accepted (output_points spec i) (output-rise spec i h) (output-in_domain spec i good h) (omega arith)

-- ---- the cut

window-late : (lead : ℕ) (t u : ℤ) → (int_le (t -ℤ pos lead) u && int_lt u (t +ℤ pos 1)) ≡ true → u ≤ℤ t
window-late lead t u h = grind (arith, ints)

window-early : (lead : ℕ) (t u : ℤ) → (int_le (t -ℤ pos lead) u && int_lt u (t +ℤ pos 1)) ≡ true → t ≤ℤ (u +ℤ pos lead)
window-early lead t u h = grind (arith, ints)

kernel-widened : (lead : ℕ) → IsWidened (looks_by None lead) (widened_by None lead)
kernel-widened lead = record {
  is_range = λ r is. lengthened-is_range lead r is;
  contained = λ r t u is inside seen domain.
      lengthened-contains lead r u t inside (window-late lead t u seen) (window-early lead t u seen) domain.1;
}

widened-by : (k : Option WindowKernel) (lead : ℕ) → HasSmallWindows k → IsWidened (looks_by k lead) (widened_by k lead)
widened-by None lead small = kernel-widened lead
widened-by (Some c) lead small = whole-widened c lead small

-- A change is widened to each time that looks at it.
pub widened-is : (spec : Spec) → IsGood spec → IsWidened (looks_at spec) (widened spec)
widened-is spec good = widened-by (window_kernel spec.kernel) spec.lead good.windows

-- The cut has at most as many ranges as the inputs have points, old and new.
pub affected-length : (spec : Spec) (old new : Inputs) → length (affected spec old new) ≤ (length old.first + length new.first) + (length old.second + length new.second)
affected-length spec old new =
    let first = changes spec.grain old.first new.first in
    let second = changes spec.grain old.second new.second in
    let fewer = union-length (map (widened spec) (first ++ second)) in
    let longer = length-map (first ++ second) (widened spec) in
    let both = length-append first second in
    let of_first = changes-length spec.grain old.first new.first in
    let of_second = changes-length spec.grain old.second new.second in
    omega arith

-- ---- the added points

pub added-in_domain : (spec : Spec) (old new : Inputs) → IsGood spec → AreBags new → AreInDomain (distillate spec old new).added
added-in_domain spec old new good h =
    each-filter (λ p. InDomain p.time) (λ p. covered (affected spec old new) p.time) (output_points spec new) (output-in_domain spec new good h)

-- ---- the law

-- The distillate brings the output from the old inputs to the new.
pub distillate-right : (spec : Spec) (old new : Inputs) → IsGood spec → AreBags old → AreBags new → after (output_points spec old) (distillate spec old new) ≡ output_points spec new
distillate-right spec old new good h k =
    local-right (looks_at spec) (widened spec) (output_points spec) spec.grain old new (widened-is spec good) (output-depends spec) good.grain h k (output-bag spec old good h) (output-bag spec new good k)

-- ---- a distillate is neither out of the domain nor too large

test-passes : (t : ℤ) → InDomain t → in_domain t ≡ true
test-passes t h =
    let low = h.0 in
    let high = h.1 in
    grind (arith, ints)

-- None of the points of the domain is outside it.
pub no_first : (b : List Point) → AreInDomain b → first_out_of_domain b ≡ None
no_first [] h = refl
no_first (p ∷ b) h =
    ap {A = Bool} {B = Option Point} (λ s. cond (not s) (Some p) (first_out_of_domain b)) (test-passes p.time h.0) ∙ no_first b h.1

-- The number of points of each bag is at most the greatest number of points of a version.
pub record HaveFew (i : Inputs) : Type 0 where
  pub first : length i.first ≤ MAX_POINTS
  pub second : length i.second ≤ MAX_POINTS

-- Nothing in a distillate itself is rejected, if each version of the inputs has no more points than a version may have.
pub distillate-change_accepted : (spec : Spec) (old new : Inputs) → IsGood spec → AreBags new → HaveFew old → HaveFew new → distillate_change_rejection (distillate spec old new) ≡ None
distillate-change_accepted spec old new good bags h k =
    let c = distillate spec old new in
    let few = affected-length spec old new in
    let old_first = h.first in
    let old_second = h.second in
    let new_first = k.first in
    let new_second = k.second in
    none-first _ _ (ap (option_map (λ (p : Point). OutOfDomain p.time)) (no_first c.added (added-in_domain spec old new good bags))) (ap (λ s. when s (TooMany (length c.cut))) (le-ltb (2 ^ 34) (length c.cut) (omega arith)))
