-- The lines that were read are answered.
use Rattle.std.specs.Prelude.{List}
use Rattle.std.proofs.Common.{◌∙◌, subst}
use Rattle.btr_text.specs.declared.script.ScriptLine.{ScriptLine}
use Rattle.btr_top.specs.Ask.{QuestionsCause}
use Rattle.btr_top.proofs.ask.ask_input.Goals as goal

pub returns-in-Ok-clause-cause : goal.returns-in-Ok-clause-cause
returns-in-Ok-clause-cause g c =
    subst (λ (lines : List ScriptLine). QuestionsCause g.D.Disk lines c.args.disk c.ask_lines.result.disk c.ask_lines.result.ending)
    (c.into_lines.ensures ∙ c.in-Ok.ensures.script) c.ask_lines.ensures.cause
