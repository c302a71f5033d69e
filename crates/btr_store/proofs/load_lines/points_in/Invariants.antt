-- The loop over the results of batches.
use Rattle.std.proofs.Common.{◌≡◌, ◌+◌, ◌≤◌, length, drop}
use Rattle.btr_store.specs.LoadLines.{points_committed}
use Rattle.btr_store.proofs.load_lines.points_in.Given as goal

-- the points of the batches up to here are counted, and the others are left
abbrev pub invariant-loop-result : goal.invariant-loop-result
invariant-loop-result l = record {
  value : l.count + points_committed l.batch l.rest (drop l.result-index l.results) ≡ points_committed l.batch l.fn.points l.fn.results;
  most : l.count + length l.rest ≤ length l.fn.points;
}
