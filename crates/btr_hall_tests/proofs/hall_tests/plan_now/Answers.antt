use Rattle.std.proofs.Common.{subst}
use Rattle.btr_plan.specs.Next.{IsNext}
use Rattle.btr_hall.specs.Session.{seen_of}
use Rattle.btr_hall.specs.Trace.{history_of}
use Rattle.btr_hall_tests.proofs.hall_tests.plan_now.Goals as goal

pub returns-in-Plan-clause-planned : goal.returns-in-Plan-clause-planned
returns-in-Plan-clause-planned g c = λ h with_h.
    let all = history_of h (seen_of c.admit.new.self) in
    let next = subst (IsNext all c.args.stream) c.in-Plan.is (c.in_ok-plan.ensures all (c.in_ok-snapshot.ensures.snapshot h with_h)) in
    next.of
