use Rattle.btr_work.proofs.RefreshLemmas.{look-refreshed, knows_after}
use Rattle.btr_work.proofs.refreshing.refresh_output.Goals as goal

pub returns-clause-refreshed : goal.returns-clause-refreshed
returns-clause-refreshed g c =
    look-refreshed c.args.hall.now c.args.output c.args.session.now c.plan_output-next.new.session c.land_next.new.session c.land_next.result c.land_next.ensures.at c.plan_output-next.ensures.looks c.land_next.ensures.refreshed

pub returns-clause-stopped : goal.returns-clause-stopped
returns-clause-stopped g c = λ knows.
    c.land_next.ensures.stopped (knows_after c.args.hall.now c.args.session.now c.plan_output-next.new.session c.plan_output-next.ensures.looks knows)
