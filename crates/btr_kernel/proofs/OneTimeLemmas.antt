-- Lemmas on the points of an output at one time.
use Rattle.std.specs.Prelude.{◌≡◌, ℤ, ◌<ℤ◌, true, List, [], ◌∷◌, slice_get}
use Rattle.std.specs.Ordering.{int_eq}
use Rattle.std.specs.List.{filter, AllByRecursion}
use Rattle.std.specs.Option.{option_to_list}
use Rattle.std.proofs.Common.{refl, ap, ◌∙◌, arith}
use Rattle.std.proofs.lemmas.Int.{ints}
use Rattle.btr_base.specs.declared.point.Point.{Point}
use Rattle.btr_base.specs.Point.{InDomain, AreInDomain}
use Rattle.btr_base.specs.Range.{RangeValue, covered}
use Rattle.btr_base.specs.Changes.{points_at}
use Rattle.btr_base.proofs.ListLemmas.{each-weaker, filter-passes}
use Rattle.btr_hist.specs.declared.kernel.Spec.{Spec}
use Rattle.btr_hist.specs.Distil.{Inputs, kernel_points}
use Rattle.btr_hist.proofs.KernelLemmas.{TimesRise, filter-rise, kernel-times, kernel-in_domain}
use Rattle.btr_base.specs.Bag.{IsInOrder}
use Rattle.btr_kernel.proofs.KernelPointLemmas.{filter-each}

not-later : (t u v : ℤ) → int_eq u t ≡ true → int_eq v t ≡ true → u <ℤ v → ⊥
not-later t u v h k lt = grind (arith, ints)

-- Points whose times rise and are all the same are at most one.
at_most-one : (t : ℤ) (b : List Point) → TimesRise b → AllByRecursion (λ p. int_eq p.time t ≡ true) b → option_to_list (slice_get b 0) ≡ b
at_most-one t [] rise each = refl
at_most-one t (p ∷ []) rise each = refl
at_most-one t (p ∷ q ∷ b) rise each = absurd (not-later t p.time q.time each.0 each.1.0 rise.0.0)

-- The first of the points in a range of one time is the point at that time, if there is one.
pub one-point : (spec : Spec) (i : Inputs) (t : ℤ) (rs : List RangeValue) (points : List Point) → IsInOrder i.first → AreInDomain i.first → ((u : ℤ) → InDomain u → covered rs u ≡ int_eq u t) → points ≡ filter (λ p. covered rs p.time) (kernel_points spec i) → option_to_list (slice_get points 0) ≡ points_at t (kernel_points spec i)
one-point spec i t rs points order inside only is =
    let all = kernel_points spec i in
    let here : points ≡ points_at t all = is ∙ filter-each (λ p. covered rs p.time) (λ p. int_eq p.time t) all (each-weaker (λ p. InDomain p.time) (λ p. covered rs p.time ≡ int_eq p.time t) (λ p h. only p.time h) all (kernel-in_domain spec i inside)) in
    ap (λ l. option_to_list (slice_get l 0)) here
    ∙ at_most-one t (points_at t all) (filter-rise (λ p. int_eq p.time t) all (kernel-times spec i order)) (filter-passes (λ p. int_eq p.time t) all)
