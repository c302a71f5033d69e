-- The command ends by what was said, or by what kept it from being said.
use Rattle.std.specs.Prelude.{Result}
use Rattle.std.specs.declared.alloc.AllocError.{AllocError}
use Rattle.std.proofs.Common.{sym, ap, ◌∙◌}
use Rattle.btr_store.specs.declared.transcript.Transcript.{Transcript}
use Rattle.btr_top.specs.Work.{ending_of}
use Rattle.btr_top.proofs.command.ending_of.Goals as goal

pub returns-in-Err : goal.returns-in-Err
returns-in-Err c =
    c.unsaid.ensures.of_error c.in-Err.field-0 ∙ ap (λ (s : Result Transcript AllocError). ending_of s c.args.failed) (sym c.in-Err.is)
