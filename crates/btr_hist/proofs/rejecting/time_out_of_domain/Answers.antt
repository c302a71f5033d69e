use Rattle.std.proofs.Common.{◌≡◌, ℤ, List, [], ◌∷◌, Option, Some, slice_get, IsTrue, ◌≤ℤ◌, w64, rules, sym, ap, ◌∙◌, subst, arith}
use Rattle.std.specs.Option.{option_map}
use Rattle.std.specs.List.{AllByRecursion}
use Rattle.std.proofs.lemmas.Int.{ints, to_z-of_z}
use Rattle.btr_base.specs.declared.limits.TheConstants.{FIRST}
use Rattle.btr_base.specs.declared.point.Point.{Point}
use Rattle.btr_base.specs.Bag.{IsInOrder}
use Rattle.btr_base.specs.Point.{is_not_after}
use Rattle.btr_base.proofs.ListLemmas.{each-weaker}
use Rattle.btr_base.proofs.PointLemmas.{is_not_after-times}
use Rattle.btr_hist.proofs.Steps.{out_of_domain-late}
use Rattle.btr_hist.proofs.rejecting.time_out_of_domain.Goals as goal

-- No point is before the domain, if the first one is not.
none-early : (b : List Point) (q : Point) → IsInOrder b → Some q ≡ slice_get b 0 → FIRST ≤ℤ q.time → AllByRecursion (λ p. FIRST ≤ℤ p.time) b
none-early [] q order e low = cc
none-early (r ∷ b) q order e low =
    let same : q ≡ r = cc in
    let here : FIRST ≤ℤ r.time = subst (λ (p : Point). FIRST ≤ℤ p.time) same low in
    (here, each-weaker (λ s. IsTrue (is_not_after r s)) (λ s. FIRST ≤ℤ s.time) (λ s k. let next = is_not_after-times r s k in omega (arith, ints)) b order.0)

pub returns-in_err-late : goal.returns-in_err-late
returns-in_err-late c =
    let b = c.args.points.now in
    let low = none-early b c.in_ok-first.first.now c.requires c.in_ok-first.ensures.value (omega (arith, ints, c.if-first-lt-FIRST.false)) in
    c.from_residual-in_err-late.ensures
    ∙ ap (option_map (λ (p : Point). p.time)) (c.in_err-late.ensures.value ∙ ap (λ (x : List Point). slice_get x 0) c.parted.ensures.from ∙ sym (out_of_domain-late b low))

pub returns : goal.returns
returns c =
    let b = c.args.points.now in
    let late = c.in_ok-late.late.now in
    let low = none-early b c.in_ok-first.first.now c.requires c.in_ok-first.ensures.value (omega (arith, ints, c.if-first-lt-FIRST.false)) in
    ap {A = ℤ} {B = Option ℤ} Some (to_z-of_z w64 late.time (search rules))
    ∙ ap (option_map (λ (p : Point). p.time)) (c.in_ok-late.ensures.value ∙ ap (λ (x : List Point). slice_get x 0) c.parted.ensures.from ∙ sym (out_of_domain-late b low))
