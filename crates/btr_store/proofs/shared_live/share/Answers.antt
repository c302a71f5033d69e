-- The session is alone again, and what is said is what was done.
use Rattle.btr_jobs.proofs.DoesLemmas.{stays_alone}
use Rattle.btr_store.proofs.DistilLemmas.{stays_alone as still_alone}
use Rattle.btr_store.proofs.SharesLemmas.{shares_said, shares_none}
use Rattle.btr_store.proofs.LiveLineLemmas.{some_script}
use Rattle.btr_store.proofs.shared_live.share.Goals as goal

pub say_live-requires-clause-alone : goal.say_live-requires-clause-alone
say_live-requires-clause-alone g c =
    stays_alone c.args.session.now c.run_shared.new.session c.in-Ok.ensures.runs.0 c.in-Ok.ensures.runs.1 c.requires.alone

pub returns-in-Ok-clause-alone : goal.returns-in-Ok-clause-alone
returns-in-Ok-clause-alone g c =
    still_alone c.run_shared.new.session c.say_live.new.session c.say_live.ensures.stays
    (stays_alone c.args.session.now c.run_shared.new.session c.in-Ok.ensures.runs.0 c.in-Ok.ensures.runs.1 c.requires.alone)

pub returns-in-Err-clause-alone : goal.returns-in-Err-clause-alone
returns-in-Err-clause-alone g c =
    stays_alone c.args.session.now c.run_shared.new.session c.in-Err.ensures.none.0 c.in-Err.ensures.none.1 c.requires.alone

pub returns-in-Ok-clause-does : goal.returns-in-Ok-clause-does
returns-in-Ok-clause-does g c =
    shares_said c.args.script.threshold c.args.script.beside.materialize c.args.script.lines.items c.args.hall.now c.args.session.now c.run_shared.new.session c.say_live.new.session c.in-Ok.report c.say_live.result c.in-Ok.ensures.runs c.say_live.ensures.stays c.say_live.ensures.says

pub returns-in-Err-clause-does : goal.returns-in-Err-clause-does
returns-in-Err-clause-does g c =
    shares_none c.args.script.threshold c.args.script.beside.materialize c.args.script.lines.items c.args.hall.now c.args.session.now c.run_shared.new.session c.in-Err.error c.in-Err.ensures.none

pub returns-in-Ok-clause-says : goal.returns-in-Ok-clause-says
returns-in-Ok-clause-says g c =
    some_script c.args.script.beside.materialize c.args.script.lines.items c.in-Ok.report c.say_live.result c.in-Ok.ensures.each c.say_live.ensures.some
