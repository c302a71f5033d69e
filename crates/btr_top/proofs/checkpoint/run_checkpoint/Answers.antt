-- A store that was not opened is kept.
use Rattle.btr_top.proofs.CheckpointCauses.{refused_cause}
use Rattle.btr_top.proofs.checkpoint.run_checkpoint.Goals as goal

pub returns-in-Err-clause-cause : goal.returns-in-Err-clause-cause
returns-in-Err-clause-cause g c =
    refused_cause g.D.Disk c.args.kind c.args.disk c.open_refusal.result.disk c.open_refusal.result.ending
    (c.open_refusal.ensures.cause c.args.disk c.in-Err.ensures.refused) (c.open_refusal.ensures.kept c.args.disk c.in-Err.ensures.refused)
