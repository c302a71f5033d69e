use Rattle.std.specs.Prelude.{◌≡◌, ℕ, ◌<◌, map, slice_get, Some}
use Rattle.btr_check.specs.Checkpoints.{mark_of}
use Rattle.btr_check.proofs.checkpoints.has_checkpoint.Given as goal

-- None of the checkpoints so far is the one that is looked for.
abbrev pub invariant-loop-checkpoint : goal.invariant-loop-checkpoint
invariant-loop-checkpoint l =
    (k : ℕ) → k < l.checkpoint-index → slice_get (map mark_of l.checkpoints) k ≡ Some (record { gate = l.gate; next = l.next }) → ⊥
