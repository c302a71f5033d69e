-- A store that was not opened is kept.
use Rattle.btr_top.specs.Hear.{HearsFrames, SaysSomeHearing}
use Rattle.btr_top.proofs.WorkCauses.{unopened_cause, unopened_says}
use Rattle.btr_top.proofs.hear.hear_frames.Goals as goal

pub returns-in-Err-clause-cause : goal.returns-in-Err-clause-cause
returns-in-Err-clause-cause g c =
    let why = c.open_refusal.ensures.cause c.args.disk c.in-Err.ensures.refused in (
      unopened_cause g.D.Disk (λ said start log own. HearsFrames c.args.frames.now start log said) c.args.disk c.open_refusal.result.disk c.open_refusal.result.ending why (c.open_refusal.ensures.kept c.args.disk c.in-Err.ensures.refused),
      unopened_says g.D.Disk (SaysSomeHearing c.args.frames.now) c.args.disk c.open_refusal.result.disk c.open_refusal.result.ending why,
    )
