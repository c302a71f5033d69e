-- A piece was answered, or says nothing.
use Rattle.std.proofs.Common.{sym, ◌∙◌, inr}
use Rattle.std.proofs.lemmas.Result.{on_ok_weaker, on_err_weaker}
use Rattle.btr_text.specs.Text.{text as reply_text}
use Rattle.btr_serve.proofs.QuestionLemmas.{did_none, did_some}
use Rattle.btr_serve.proofs.question_desk.QuestionDeskDesk.answer.Goals as goal

pub returns-in-None-clause-done : goal.returns-in-None-clause-done
returns-in-None-clause-done g c begun lines texts =
    did_none begun c.args.self.now lines texts c.args.line.now c.args.text.now.items (sym c.in_ok-read_question.ensures ∙ c.in-None.is) c.requires.empty

pub returns-in-Some-clause-done : goal.returns-in-Some-clause-done
returns-in-Some-clause-done g c =
    on_ok_weaker c.answer_line.result
    (λ one begun lines texts.
    did_some begun c.args.self.now c.answer_line.new.self lines texts c.args.line.now c.answer_line.new.text.items c.in-Some.said one.0 (sym c.in_ok-read_question.ensures ∙ c.in-Some.is) one.1 one.2)
    c.answer_line.ensures.done

pub returns-in-Some-clause-lost : goal.returns-in-Some-clause-lost
returns-in-Some-clause-lost g c =
    on_err_weaker c.answer_line.result
    (λ one begun lines texts did.
    inr (reply_text one.0, did_some begun c.args.self.now c.answer_line.new.self lines texts c.args.line.now (reply_text one.0) c.in-Some.said one.0 (sym c.in_ok-read_question.ensures ∙ c.in-Some.is) (λ i. reply_text one.0) one.1 did))
    c.answer_line.ensures.lost
