-- The loop over the results of batches.
use Rattle.btr_store.proofs.LoadLineLemmas.{Pushed}
use Rattle.btr_store.proofs.load_lines.add_batches.Given as goal

-- the lines of the batches up to here were added, and the others are left
abbrev pub invariant-loop-result : goal.invariant-loop-result
invariant-loop-result l = Pushed l.id l.batch l.fn.points l.fn.results l.result-index l.rest l.fn.transcript l.transcript
