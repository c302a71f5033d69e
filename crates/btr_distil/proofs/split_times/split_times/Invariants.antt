use Rattle.std.proofs.Common.{◌+◌, ◌≤◌, length}
use Rattle.std.specs.Prelude.{max}
use Rattle.btr_distil.proofs.split_times.split_times.Given as goal

-- There are fewer times than parts so far.
abbrev pub invariant-loop-part : goal.invariant-loop-part
invariant-loop-part l = (length l.times.items + 1 ≤ l.part) × (l.part ≤ max 1 l.parts)
