use Rattle.std.proofs.Common.{ℕ, ◌<◌}
use Rattle.std.specs.Prelude.{slice_get, IfSome}
use Rattle.btr_roll.specs.Roll.{KeepsTableAt}
use Rattle.btr_roll.proofs.table.each_keeps_table.Given as goal

abbrev pub invariant-loop-place : goal.invariant-loop-place
invariant-loop-place l = (place : ℕ) → place < l.place → IfSome (slice_get l.streams place) (KeepsTableAt l.streams place)
