-- Each of these histories is legal.
use Rattle.btr_core.specs.Events.{events_of}
use Rattle.btr_core.proofs.RunLemmas.{all-right}
use Rattle.btr_core.proofs.running.histories_are_right.Goals as goal

pub returns : goal.returns
returns c = all-right c.the_machine_stays_legal.ensures (events_of c.args.events.now)
