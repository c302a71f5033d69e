-- The output is up to date, or the plan is its next one.
use Rattle.std.proofs.Common.{◌≡◌, refl, Option, None, Some, IsNone, IfSome, subst, sym}
use Rattle.std.proofs.lemmas.Bool.{true≢false}
use Rattle.btr_distil.specs.Plan.{PlanValue, IsPlanFor, IsDistillateOf}
use Rattle.btr_plan.specs.Next.{IsUpToDate}
use Rattle.btr_plan.proofs.PlanLemmas.{next-made, next-none}
use Rattle.btr_plan.proofs.planning.next_of.Goals as goal

some_is_none : (o : Option PlanValue) (p : PlanValue) → o ≡ Some p → IsNone o → ⊥
some_is_none None p is none = absurd (cc)
some_is_none (Some q) p is none = absurd (true≢false none)

pub returns-in-None : goal.returns-in-None
returns-in-None c = λ h stream follows sight.
    subst (IsUpToDate h stream) (sym c.base.ensures)
    (next-none h stream c.args.sight.now sight (c.requires.none.0 (subst IsNone (sym c.in-None.is) refl)))

pub returns-in-Some : goal.returns-in-Some
returns-in-Some c = λ h stream follows sight.
    let made = subst (λ (o : Option PlanValue). IfSome o (IsPlanFor c.args.sight.now)) c.in-Some.is c.requires.made in
    let distils = subst (λ (o : Option PlanValue). IfSome o (IsDistillateOf c.args.sight.now)) c.in-Some.is c.requires.distillate in
    next-made h stream c.args.sight.now c.in-Some.plan follows sight made distils (λ same.
    some_is_none c.args.plan c.in-Some.plan c.in-Some.is (c.requires.none.1 same))
