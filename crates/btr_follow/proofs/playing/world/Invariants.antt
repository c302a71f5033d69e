-- What was played is of the model, whose lengths after the events that are left are those that are missing.
use Rattle.std.proofs.Common.{◌≡◌, ◌++◌, drop}
use Rattle.btr_follow.specs.World.{World, first_world, lengths_from}
use Rattle.btr_follow.specs.Play.{IsPlayOf}
use Rattle.btr_follow.proofs.playing.world.Given as goal

abbrev pub invariant-loop-event : goal.invariant-loop-event
invariant-loop-event l =
    (w : World) × IsPlayOf w l.play
    × (l.lengths.items ++ lengths_from w (drop l.event-index l.events) ≡ lengths_from first_world l.events)
