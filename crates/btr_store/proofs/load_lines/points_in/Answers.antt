-- The points of one batch more, if it was accepted.
use Rattle.btr_store.specs.LoadLines.{points_committed}
use Rattle.btr_store.proofs.LoadLineLemmas.{points_pushed, points_bound}
use Rattle.btr_store.proofs.load_lines.points_in.Goals as goal

pub loop-result-preserved : goal.loop-result-preserved
loop-result-preserved c = record {
  value = points_pushed c.args.batch c.loop-result.rest.now c.cut.result.0.now c.cut.result.1.now c.args.points.now c.args.results.now c.loop-result.result-index _ c.loop-result.count c.points_of-count.result (points_committed c.args.batch c.args.points.now c.args.results.now)
      c.loop-result-test.true c.cut.ensures.here c.cut.ensures.after c.points_of-count.ensures.value c.loop-result.invariant.value;
  most = points_bound c.args.batch c.loop-result.rest.now c.cut.result.0.now c.cut.result.1.now c.loop-result.count c.points_of-count.result _
      c.cut.ensures.here c.cut.ensures.after c.points_of-count.ensures.most c.loop-result.invariant.most;
}
