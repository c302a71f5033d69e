use Rattle.btr_work.proofs.RefreshLemmas.{landed-refreshed, refused-refreshed, lands-stopped, refuses-stopped}
use Rattle.btr_work.proofs.refreshing.land.Goals as goal

pub returns-in-Ok-clause-refreshed : goal.returns-in-Ok-clause-refreshed
returns-in-Ok-clause-refreshed g c =
    landed-refreshed c.args.hall.now c.args.output c.args.session.now c.land.new.self c.args.plan.now c.in-Ok.receipt c.in-Ok.ensures.same c.in-Ok.ensures.lands c.requires.planned

pub returns-in-Err-clause-refreshed : goal.returns-in-Err-clause-refreshed
returns-in-Err-clause-refreshed g c =
    refused-refreshed c.args.hall.now c.args.output c.args.session.now c.land.new.self c.args.plan.now c.in-Err.fault c.in-Err.ensures.same c.in-Err.ensures.lands c.requires.planned

pub returns-in-Ok-clause-stopped : goal.returns-in-Ok-clause-stopped
returns-in-Ok-clause-stopped g c =
    lands-stopped c.args.hall.now c.args.session.now c.land.new.self c.args.plan.now c.in-Ok.receipt c.in-Ok.receipt.version c.in-Ok.ensures.lands

pub returns-in-Err-clause-stopped : goal.returns-in-Err-clause-stopped
returns-in-Err-clause-stopped g c =
    refuses-stopped c.args.hall.now c.args.session.now c.land.new.self c.args.plan.now c.in-Err.fault c.in-Err.ensures.lands
