-- The run ends as the talk did, and hands on the moments of its source.
use Rattle.std.specs.Prelude.{List}
use Rattle.std.proofs.Common.{inr, sym, subst, subst₂}
use Rattle.btr_serve.specs.Questions.{question_desk}
use Rattle.btr_serve.specs.ServesQuestions.{ServesQuestions}
use Rattle.btr_top.specs.Command.{IsKept}
use Rattle.btr_top.proofs.ServeCauses.{talk_later}
use Rattle.btr_top.proofs.serve.run_serve_read.Goals as goal

pub returns-in-Ok-clause-cause : goal.returns-in-Ok-clause-cause
returns-in-Ok-clause-cause g c =
    let served = c.in-Ok.served in
    let did = c.answered_result.ensures in
    inr (record {
      end = served.end;
      status = served.status;
      said = did.ending.0;
      serves = subst₂ (λ (d : _) (l : List _). ServesQuestions g.D.Disk g.S.Source g.K.Sink 268435456 c.args.source.now c.serve_questions.new.source c.args.sink.now c.serve_questions.new.sink c.args.disk d served.end served.status l)
          (sym did.disk) (sym did.asked) c.in-Ok.ensures.serves;
      kept = subst (λ (d : _). IsKept g.D.Disk c.args.disk d) (sym did.disk) c.in-Ok.ensures.kept.unwritten;
      says = did.ending.2;
      no_fault = did.ending.3;
      ends = did.ending.1;
    })

pub returns-in-Ok-clause-later : goal.returns-in-Ok-clause-later
returns-in-Ok-clause-later g c =
    let serves = c.in-Ok.ensures.serves in
    let served = c.in-Ok.served in
    talk_later g.S.Source g.K.Sink question_desk 268435456 c.args.source.now c.serve_questions.new.source c.args.sink.now c.serve_questions.new.sink serves.begun serves.now served.end serves.moments served.asked.items serves.talks
