use Rattle.btr_load.proofs.BatchLemmas.{blank_is}
use Rattle.btr_load.proofs.plan.blank_outcome.Goals as goal

pub returns-clause-planned : goal.returns-clause-planned
returns-clause-planned c =
    blank_is c.args.stream c.args.latest c.batch_count-batches.result c.in_ok-results.results c.in_ok-results.ensures
