-- The lines that were read run.
use Rattle.std.specs.Prelude.{List}
use Rattle.std.proofs.Common.{◌∙◌, subst}
use Rattle.btr_text.specs.declared.script.ScriptLine.{ScriptLine}
use Rattle.btr_top.specs.Live.{ScriptCause}
use Rattle.btr_top.proofs.live.run_script.Goals as goal

pub returns-in-Ok-clause-cause : goal.returns-in-Ok-clause-cause
returns-in-Ok-clause-cause g c =
    subst (λ (lines : List ScriptLine). ScriptCause g.D.Disk c.args.feeds c.args.materialize lines c.args.disk c.run_lines.result.disk c.run_lines.result.ending)
    (c.into_lines.ensures ∙ c.in-Ok.ensures.script) c.run_lines.ensures.cause
