-- What was answered from the engine was answered from the device that the engine was opened on.
use Rattle.std.proofs.Common.{sym, subst}
use Rattle.btr_top.specs.declared.ending.Ending.{Ending}
use Rattle.btr_top.specs.Ask.{QuestionsCause}
use Rattle.btr_top.proofs.AskedLines.{ended_answered, ended_unanswered}
use Rattle.btr_top.proofs.ask.ask_opened.Goals as goal
use Rattle.btr_top.proofs.ask.ask_opened.Goals.{in-Ok, in-Err}

pub returns-clause-cause : goal.returns-clause-cause
returns-clause-cause g c =
    elim c.match-answered.branch [
      | in-Ok w ↦ λ old opened.
          subst (λ (e : Ending). QuestionsCause g.D.Disk c.args.lines.items old c.into_parts-disk.result.0 e) (sym w.ending-is)
          (ended_answered g.D.Disk old c.args.engine opened c.args.lines.items w.in-Ok.transcript c.into_parts-disk.result.0 w.ending_of_replies-ending.result w.ending_of_replies-ending.ensures c.into_parts-disk.ensures.disk w.in-Ok.ensures.answered w.in-Ok.ensures.replied)
      | in-Err w ↦ λ old opened.
          ended_unanswered g.D.Disk old c.args.engine opened c.args.lines.items c.into_parts-disk.result.0 c.match-answered.ending w.ending-is c.into_parts-disk.ensures.disk
    ]
