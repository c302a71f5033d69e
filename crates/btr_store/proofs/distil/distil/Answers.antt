-- The session is alone again, and what is said is what was done.
use Rattle.btr_hall.proofs.SessionLemmas.{alone_alike}
use Rattle.btr_store.proofs.DistilLemmas.{stays_alone, distils_said, distils_none, turn_said, turn_none}
use Rattle.btr_store.specs.Distil.{SaysOutputs, SaysSomeReport}
use Rattle.btr_store.proofs.TranscriptLemmas.{if_ok}
use Rattle.btr_store.proofs.distil.distil.Goals as goal

pub say_report-requires-clause-alone : goal.say_report-requires-clause-alone
say_report-requires-clause-alone g c =
    alone_alike c.args.session.now c.bring_current.new.session c.in-Ok.ensures.refreshes.1.paths c.requires.alone

pub returns-in-Ok-clause-alone : goal.returns-in-Ok-clause-alone
returns-in-Ok-clause-alone g c =
    stays_alone c.bring_current.new.session c.say_report.new.session c.say_report.ensures.stays
    (alone_alike c.args.session.now c.bring_current.new.session c.in-Ok.ensures.refreshes.1.paths c.requires.alone)

pub returns-in-Err-clause-alone : goal.returns-in-Err-clause-alone
returns-in-Err-clause-alone g c =
    alone_alike c.args.session.now c.bring_current.new.session c.in-Err.ensures.refused.1.paths c.requires.alone

pub returns-in-Ok-clause-does : goal.returns-in-Ok-clause-does
returns-in-Ok-clause-does g c =
    distils_said c.args.hall.now c.args.session.now c.bring_current.new.session c.say_report.new.session c.in-Ok.report c.say_report.result c.in-Ok.ensures.refreshes c.say_report.ensures.stays c.say_report.ensures.says

pub returns-in-Err-clause-does : goal.returns-in-Err-clause-does
returns-in-Err-clause-does g c =
    distils_none c.args.hall.now c.args.session.now c.bring_current.new.session c.in-Err.error c.in-Err.ensures.refused

pub returns-in-Ok-clause-in_turn : goal.returns-in-Ok-clause-in_turn
returns-in-Ok-clause-in_turn g c =
    λ few. turn_said c.args.hall.now c.args.session.now c.bring_current.new.session c.say_report.new.session c.in-Ok.report c.say_report.result (c.in-Ok.ensures.in_turn few) c.say_report.ensures.stays c.say_report.ensures.says

pub returns-in-Err-clause-in_turn : goal.returns-in-Err-clause-in_turn
returns-in-Err-clause-in_turn g c =
    λ few. turn_none c.args.hall.now c.args.session.now c.bring_current.new.session c.in-Err.error c.in-Err.ensures.refused

pub returns-in-Ok-clause-says : goal.returns-in-Ok-clause-says
returns-in-Ok-clause-says g c =
    if_ok c.say_report.result (SaysOutputs c.in-Ok.report) SaysSomeReport (λ t says. (c.in-Ok.report, says)) c.say_report.ensures.some
