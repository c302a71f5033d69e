-- The lines that were read are answered.
use Rattle.std.specs.Prelude.{List}
use Rattle.std.proofs.Common.{refl, ◌∙◌, subst}
use Rattle.btr_text.specs.Input.{questions_of}
use Rattle.btr_text.specs.declared.script.ScriptLine.{ScriptLine}
use Rattle.btr_top.specs.declared.ending.Ending.TheVariants.{OutOfMemory}
use Rattle.btr_top.specs.Cold.{ColdCause}
use Rattle.btr_top.proofs.ColdCauses.{unread_cause, uncalled_kept}
use Rattle.btr_top.proofs.cold.ask_input_cold.Goals as goal

pub returns-in-Ok-clause-cause : goal.returns-in-Ok-clause-cause
returns-in-Ok-clause-cause g c =
    subst (λ (lines : List ScriptLine). ColdCause g.D.Disk lines c.args.disk c.ask_lines_cold.result.disk c.ask_lines_cold.result.ending)
    (c.into_lines.ensures ∙ c.in-Ok.ensures.script) c.ask_lines_cold.ensures.cause

-- Without memory for the lines the device is not called.
pub returns-in-Err-clause-cause : goal.returns-in-Err-clause-cause
returns-in-Err-clause-cause g c =
    unread_cause g.D.Disk (questions_of c.args.input.now) c.args.disk c.args.disk OutOfMemory (uncalled_kept g.D.Disk c.args.disk (λ reported. g.met.D.Disk.only_now reported c.args.disk)) refl

pub returns-in-Err-clause-kept : goal.returns-in-Err-clause-kept
returns-in-Err-clause-kept g c = uncalled_kept g.D.Disk c.args.disk (λ reported. g.met.D.Disk.only_now reported c.args.disk)
