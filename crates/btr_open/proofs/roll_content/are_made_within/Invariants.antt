use Rattle.std.proofs.Common.{◌≡◌, ◌<◌, ℕ}
use Rattle.std.specs.Prelude.{slice_get, Some}
use Rattle.btr_roll.specs.Roll.{RollStreamValue}
use Rattle.btr_open.specs.Start.{IsMadeWithin}
use Rattle.btr_open.proofs.roll_content.are_made_within.Given as goal

-- The streams so far were made by these entries.
abbrev pub invariant-loop-stream : goal.invariant-loop-stream
invariant-loop-stream l =
    (k : ℕ) (s : RollStreamValue) → k < l.stream-index → slice_get l.streams k ≡ Some s → IsMadeWithin l.entries s
