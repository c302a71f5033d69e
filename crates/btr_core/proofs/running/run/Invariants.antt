-- The machine is one of the model, whose replies to the events that are left are those that are missing.
use Rattle.std.proofs.Common.{◌≡◌, ◌++◌, map, drop}
use Rattle.btr_hist.specs.Machine as model
use Rattle.btr_core.specs.Events.{events_of, reply_of}
use Rattle.btr_core.specs.Machine.{IsMachineOf}
use Rattle.btr_core.proofs.running.run.Given as goal

abbrev pub invariant-loop-event : goal.invariant-loop-event
invariant-loop-event l =
    (m : model.Machine) × IsMachineOf m l.machine
    × (map reply_of l.replies.items ++ model.replies m (events_of (drop l.event-index l.events)) ≡ model.replies model.start (events_of l.events))
