-- Lemmas on plans, over plain data: the cut from the changes of the inputs, and the points in it.
use Rattle.std.specs.Prelude.{◌≡◌, ℕ, ◌^◌, ◌≤◌, max, nat_le, Bool, true, not, ◌&&◌, ◌||◌, cond, List, ◌++◌, map, Some, None}
use Rattle.std.specs.List.{filter, AllByRecursion}
use Rattle.std.specs.Option.{is_some}
use Rattle.std.proofs.Common.{refl, sym, ap, ◌∙◌, arith}
use Rattle.std.proofs.lemmas.Bool.Decides.{nat_tests}
use Rattle.std.proofs.lemmas.List.{map-append}
use Rattle.btr_base.specs.declared.point.Point.{Point}
use Rattle.btr_base.specs.Range.{RangeValue, IsRange, covered}
use Rattle.btr_base.specs.Bag.{sort}
use Rattle.btr_base.specs.Changes.{changes}
use Rattle.btr_base.specs.Cut.{lengthened, union}
use Rattle.btr_base.proofs.ListLemmas.{each-append}
use Rattle.btr_base.proofs.PointLemmas.{filter-in_order, sort-of_order}
use Rattle.btr_base.proofs.RangeLemmas.{covered-append}
use Rattle.btr_base.proofs.ChangesLemmas.{changes-cut}
use Rattle.btr_base.proofs.CutLemmas.{union-cut, union-covered, union-is}
use Rattle.btr_hist.specs.declared.kernel.Kernel.{Kernel}
use Rattle.btr_hist.specs.declared.kernel.Kernel.TheVariants.{Affine, Sum, Mean, Least, Greatest, Count, Delta, Minus, Angle, Hold, Cell}
use Rattle.btr_hist.specs.declared.kernel.Spec.{Spec}
use Rattle.btr_hist.specs.Kernel.{is_good, anchors, has_second, divides_well, WindowKernel, window_kernel, windows_fit}
use Rattle.btr_hist.specs.Distil.{Inputs, AreBags, value_of, points_from, points_by, output_points, looks_at, widened_by, widened, affected, distillate}
use Rattle.btr_hist.proofs.KernelLemmas.{filter-points_from}
use Rattle.btr_hist.proofs.CellLemmas.{whole-changes}
use Rattle.btr_hist.proofs.LocalityLemmas.{widened-each}
use Rattle.btr_hist.proofs.DistilLemmas.{good-is, widened-is, output-in_order}

-- The union of unions is that of all ranges.
union-unions : (a b : List RangeValue) → AllByRecursion IsRange a → AllByRecursion IsRange b → union (union a ++ union b) ≡ union (a ++ b)
union-unions a b h k =
    let each = each-append IsRange (union a) (union b) (union-cut a h).each (union-cut b k).each in
    union-is (union (union a ++ union b)) (a ++ b) (union-cut (union a ++ union b) each) (each-append IsRange a b h k) (λ t.
    union-covered (union a ++ union b) t each
    ∙ covered-append (union a) (union b) t
    ∙ ap (λ c. c || covered (union b) t) (union-covered a t h)
    ∙ ap (λ c. covered a t || c) (union-covered b t k)
    ∙ sym (covered-append a b t))

-- The changes of both inputs, widened and united, are the cut of the definition.
pub affected-is : (spec : Spec) (old new : Inputs) (first second cut : List RangeValue) → is_good spec ≡ true → first ≡ union (map (widened spec) (changes spec.grain old.first new.first)) → second ≡ union (map (widened spec) (changes spec.grain old.second new.second)) → cut ≡ union (first ++ second) → cut ≡ affected spec old new
affected-is spec old new first second cut good f s is =
    let fit = good-is spec good in
    let wide = widened-is spec fit in
    let longer = λ (rs : List RangeValue). map (widened spec) rs in
    let a = changes spec.grain old.first new.first in
    let b = changes spec.grain old.second new.second in
    let each_a = widened-each (looks_at spec) (widened spec) a wide (changes-cut spec.grain old.first new.first fit.grain).each in
    let each_b = widened-each (looks_at spec) (widened spec) b wide (changes-cut spec.grain old.second new.second fit.grain).each in
    is
    ∙ ap (λ rs. union (rs ++ second)) f
    ∙ ap (λ rs. union (union (longer a) ++ rs)) s
    ∙ union-unions (longer a) (longer b) each_a each_b
    ∙ ap union (sym (map-append (widened spec) a b))

-- The points of an output in a cut are in order, so that sorting keeps them.
pub added-is : (spec : Spec) (i : Inputs) (cut : List RangeValue) (points : List Point) → AreBags i → points ≡ filter (λ p. covered cut p.time) (output_points spec i) → sort points ≡ filter (λ p. covered cut p.time) (output_points spec i)
added-is spec i cut points bags is =
    let inside = λ (p : Point). covered cut p.time in
    ap sort is ∙ sort-of_order (filter inside (output_points spec i)) (filter-in_order inside (output_points spec i) (output-in_order spec i bags))

-- The commit of the cut and the points in it is the distillate.
pub plan-is : (spec : Spec) (old new : Inputs) (cut : List RangeValue) (added : List Point) → cut ≡ affected spec old new → added ≡ filter (λ p. covered cut p.time) (output_points spec new) → record { cut = cut; added = added } ≡ distillate spec old new
plan-is spec old new cut added c a =
    let inside : added ≡ filter (λ p. covered (affected spec old new) p.time) (output_points spec new) = a ∙ ap (λ rs. filter (λ p. covered rs p.time) (output_points spec new)) c in
    λ i. record { cut = c i; added = inside i }

-- The points in the cut are those that a kernel of anchors has at the anchors in it.
pub mapped-is : (spec : Spec) (i : Inputs) (cut : List RangeValue) (added : List Point) → window_kernel spec.kernel ≡ None → added ≡ filter (λ p. covered cut p.time) (output_points spec i) → added ≡ points_from (value_of spec i) (filter (covered cut) (anchors i.first))
mapped-is spec i cut added none is =
    is
    ∙ ap (λ k. filter (λ p. covered cut p.time) (points_by k spec i)) none
    ∙ filter-points_from (value_of spec i) (covered cut) (anchors i.first)

-- ---- by the kind of the kernel

-- A kernel that is not `Cell` is not one of windows.
pub not-windows : (k : Kernel) → ((which p : ℕ) → k ≡ Cell which p → ⊥) → window_kernel k ≡ None
not-windows (Affine a b d) h = refl
not-windows Sum h = refl
not-windows Mean h = refl
not-windows Least h = refl
not-windows Greatest h = refl
not-windows Count h = refl
not-windows Delta h = refl
not-windows Minus h = refl
not-windows Angle h = refl
not-windows Hold h = refl
not-windows (Cell which p) h = absurd (h which p refl)

last-test : (a b c d : Bool) (n : ℕ) → (a && (b && (c && (nat_le n 62 && d)))) ≡ true → d ≡ true
last-test a b c d n h = grind arith

-- What is used of a good kernel of windows.
pub record AreWindowsGood (c : WindowKernel) : Type 0 where
  pub which : (1 ≤ c.which) × (c.which ≤ 5)
  pub width : c.p ≤ 62

fit-is : (c : WindowKernel) (lead : ℕ) → windows_fit (Some c) lead ≡ true → AreWindowsGood c
fit-is c lead h = record { which = (grind (arith, nat_tests), grind (arith, nat_tests)); width = grind (arith, nat_tests) }

pub windows-good : (spec : Spec) (c : WindowKernel) → is_good spec ≡ true → window_kernel spec.kernel ≡ Some c → AreWindowsGood c
windows-good spec c good is =
    let last = last-test (cond (has_second spec.kernel) (is_some spec.second) (not (is_some spec.second))) (divides_well spec.kernel) (nat_le spec.lead (2 ^ 60)) (windows_fit (window_kernel spec.kernel) spec.lead) spec.grain good in
    fit-is c spec.lead (ap (λ k. windows_fit k spec.lead) (sym is) ∙ last)

-- The slots that hold all changed windows are the changes, widened.
pub widened-cells : (spec : Spec) (c : WindowKernel) (a b : List Point) → is_good spec ≡ true → window_kernel spec.kernel ≡ Some c → changes (max spec.grain c.p) a b ≡ union (map (widened spec) (changes spec.grain a b))
widened-cells spec c a b good is =
    whole-changes spec.grain c.p a b (good-is spec good).grain (windows-good spec c good is).width
    ∙ ap (λ k. union (map (widened_by k spec.lead) (changes spec.grain a b))) (sym is)

pub widened-anchors : (spec : Spec) (a b : List Point) → window_kernel spec.kernel ≡ None → union (map (lengthened spec.lead) (changes spec.grain a b)) ≡ union (map (widened spec) (changes spec.grain a b))
widened-anchors spec a b none =
    ap (λ k. union (map (widened_by k spec.lead) (changes spec.grain a b))) (sym none)
