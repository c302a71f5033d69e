use Rattle.std.proofs.Common.{subst, IfOk}
use Rattle.btr_hall.specs.Trace.{history_of}
use Rattle.btr_hall.specs.Session.{seen_of}
use Rattle.btr_plan.specs.Next.{IsNext}
use Rattle.btr_work.proofs.RefreshLemmas.{current-refreshed, want-refreshed}
use Rattle.btr_work.proofs.refreshing.land_next.Goals as goal

pub returns-in-Ok-UpToDate-clause-refreshed : goal.returns-in-Ok-UpToDate-clause-refreshed
returns-in-Ok-UpToDate-clause-refreshed g c =
    current-refreshed c.args.hall.now c.args.output c.args.session.now c.in-Ok-UpToDate.version
    (λ h of. subst (IsNext (history_of h (seen_of c.args.session.now)) c.args.output) c.in-Ok-UpToDate.field-0-is
    (subst (λ r. IfOk r (IsNext (history_of h (seen_of c.args.session.now)) c.args.output)) c.in-Ok-UpToDate.is (c.requires.next h of)))

pub returns-in-Ok-NotOutput-clause-refreshed : goal.returns-in-Ok-NotOutput-clause-refreshed
returns-in-Ok-NotOutput-clause-refreshed g c = want-refreshed c.args.hall.now c.args.output c.args.session.now

pub returns-in-Ok-NotOutput-2-clause-refreshed : goal.returns-in-Ok-NotOutput-2-clause-refreshed
returns-in-Ok-NotOutput-2-clause-refreshed g c = want-refreshed c.args.hall.now c.args.output c.args.session.now
