-- A round was made, or there was no memory for it, or none was begun.
use Rattle.btr_live.proofs.RoundLemmas.{round_none, round_made}
use Rattle.btr_live.proofs.rounds.make_round.Goals as goal

pub returns-then-load-gt0-clause-round : goal.returns-then-load-gt0-clause-round
returns-then-load-gt0-clause-round g c =
    round_made c.args.hall.now c.args.session.now c.bring_current_here-report.new.session c.bring_current_here-report.result
    c.bring_current_here-report.ensures.refused c.bring_current_here-report.ensures.refreshes

pub returns-else-load-gt0-clause-round : goal.returns-else-load-gt0-clause-round
returns-else-load-gt0-clause-round g c = round_none c.args.hall.now c.args.session.now
