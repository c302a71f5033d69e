-- A sealed engine says so.
use Rattle.btr_follow.proofs.TakingLemmas.{tells_seal}
use Rattle.btr_follow.proofs.taking.decide.Goals as goal

pub refuse-requires-clause-seal : goal.refuse-requires-clause-seal
refuse-requires-clause-seal g c =
    tells_seal c.args.engine.now c.args.entry.now c.in-Err.fault c.stage.result c.in-Err.is c.stage.ensures.sealed c.in-Err.ensures.refused
