use Rattle.btr_hist.proofs.Machine.{run-legal}
use Rattle.btr_hist.proofs.laws.the_machine_stays_legal.Goals as goal

pub returns : goal.returns
returns c events = run-legal events
