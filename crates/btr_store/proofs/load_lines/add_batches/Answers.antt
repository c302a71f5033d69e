-- The line of one batch more, if it was refused.
use Rattle.std.proofs.Common.{refl, []}
use Rattle.btr_store.proofs.TranscriptLemmas.{adds_none}
use Rattle.btr_store.proofs.LoadLineLemmas.{spans_pushed}
use Rattle.btr_store.proofs.load_lines.add_batches.Goals as goal

pub loop-result-init : goal.loop-result-init
loop-result-init c = record { done = []; split = refl; adds = adds_none c.args.transcript.now }

pub loop-result-preserved : goal.loop-result-preserved
loop-result-preserved c =
    spans_pushed c.args.id c.args.batch c.args.points.now c.args.results.now c.loop-result.result-index _ c.loop-result.rest.now c.cut.result.0.now c.cut.result.1.now c.args.transcript.now c.loop-result.transcript c.add_batch.new.transcript
    c.loop-result-test.true c.cut.ensures.here c.cut.ensures.after c.loop-result.invariant c.in_ok-add_batch.ensures
