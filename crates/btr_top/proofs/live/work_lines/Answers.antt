-- The work is that of the kind of feeds.
use Rattle.std.specs.Prelude.{IfOk}
use Rattle.std.proofs.Common.{subst, sym}
use Rattle.btr_store.specs.Work.{DoesRightly, IfHolds}
use Rattle.btr_top.specs.declared.live.FeedKind.{FeedKind}
use Rattle.btr_top.specs.Live.{RunsScriptOn}
use Rattle.btr_top.proofs.live.work_lines.Goals as goal

pub returns-in-Own-clause-done : goal.returns-in-Own-clause-done
returns-in-Own-clause-done g c =
    subst (λ (feeds : FeedKind). IfOk c.live_store.result (λ w. IfHolds g.D.Disk c.args.disk (DoesRightly g.D.Disk (RunsScriptOn feeds c.args.materialize c.args.lines.items w.said) w.failed c.args.disk w.disk)))
    (sym c.in-Own.is) c.live_store.ensures.done

pub returns-in-Shared-clause-done : goal.returns-in-Shared-clause-done
returns-in-Shared-clause-done g c =
    subst (λ (feeds : FeedKind). IfOk c.share_store.result (λ w. IfHolds g.D.Disk c.args.disk (DoesRightly g.D.Disk (RunsScriptOn feeds c.args.materialize c.args.lines.items w.said) w.failed c.args.disk w.disk)))
    (sym c.in-Shared.is) c.share_store.ensures.done
