-- The command ends as its work says.
use Rattle.btr_store.specs.Live.{SaysSomeScript}
use Rattle.btr_top.specs.Live.{RunsScriptOn}
use Rattle.btr_top.proofs.WorkCauses.{work_cause, unopened_cause, says_if, unopened_says}
use Rattle.btr_top.proofs.live.run_lines.Goals as goal

pub returns-in-Ok-clause-cause : goal.returns-in-Ok-clause-cause
returns-in-Ok-clause-cause g c = (
  work_cause g.D.Disk (λ said start log own. RunsScriptOn c.args.feeds c.args.materialize c.args.lines.items said start log own) c.in-Ok.worked.said c.in-Ok.worked.failed c.args.disk c.in-Ok.worked.disk c.work_result.result.disk c.work_result.result.ending
      c.work_result.ensures.ending c.work_result.ensures.disk c.in-Ok.ensures.plain c.in-Ok.ensures.done,
  says_if (SaysSomeScript c.args.materialize c.args.lines.items) c.in-Ok.worked.said c.in-Ok.worked.failed c.work_result.result.ending c.work_result.ensures.ending c.in-Ok.ensures.says,
)

pub returns-in-Err-clause-cause : goal.returns-in-Err-clause-cause
returns-in-Err-clause-cause g c =
    let why = c.open_refusal.ensures.cause c.args.disk c.in-Err.ensures.refused in (
      unopened_cause g.D.Disk (λ said start log own. RunsScriptOn c.args.feeds c.args.materialize c.args.lines.items said start log own) c.args.disk c.open_refusal.result.disk c.open_refusal.result.ending why (c.open_refusal.ensures.kept c.args.disk c.in-Err.ensures.refused),
      unopened_says g.D.Disk (SaysSomeScript c.args.materialize c.args.lines.items) c.args.disk c.open_refusal.result.disk c.open_refusal.result.ending why,
    )
