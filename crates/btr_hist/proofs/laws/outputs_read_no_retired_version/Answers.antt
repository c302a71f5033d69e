use Rattle.btr_hist.proofs.Machine.{run-present}
use Rattle.btr_hist.proofs.laws.outputs_read_no_retired_version.Goals as goal

pub returns : goal.returns
returns c events = run-present events
