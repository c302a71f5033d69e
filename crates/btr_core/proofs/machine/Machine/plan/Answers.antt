-- The actor has the new plan.
use Rattle.std.specs.Ordering.{nat_cmp}
use Rattle.std.specs.BTreeMap.{get}
use Rattle.std.proofs.Common.{◌≡◌, sym, subst, refl, Option, Some}
use Rattle.btr_streams.specs.declared.snapshot.Snapshot.{Snapshot}
use Rattle.btr_plan.specs.declared.planning.Next.{Next}
use Rattle.btr_plan.specs.Next.{IsNext}
use Rattle.btr_core.specs.Machine.{IsAdmitted}
use Rattle.btr_core.proofs.MachineLemmas.{after-plan}
use Rattle.btr_core.proofs.machine.Machine.plan.Goals as goal

pub returns-in_ok-insert-in-Plan-clause-next : goal.returns-in_ok-insert-in-Plan-clause-next
returns-in_ok-insert-in-Plan-clause-next c = λ m of.
    let actor = c.args.actor in
    let s = c.args.self.now in
    let g = m.admitted actor in
    let there : get nat_cmp s.admitted actor ≡ Some c.in-Some.snapshot.now = sym c.in-Some.ensures.value in
    let seen = subst (λ (o : Option Snapshot). IsAdmitted m.history g o) there (of.admitted actor) in
    let next = subst (λ (n : Next). IsNext g c.args.stream n) c.in-Plan.is (c.in_ok-next_plan.ensures g seen.1) in
    after-plan m actor c.args.stream c.in-Plan.plan s _ of next refl refl c.in_ok-insert-in-Plan.ensures.updates
