use Rattle.std.proofs.Common.{◌∙◌, sym}
use Rattle.btr_load.proofs.BatchLemmas.{batches_long}
use Rattle.btr_load.proofs.plan.batch_count.Goals as goal

pub returns : goal.returns
returns c = c.div_ceil.ensures ∙ sym (batches_long c.args.batch c.args.points.now c.requires)
