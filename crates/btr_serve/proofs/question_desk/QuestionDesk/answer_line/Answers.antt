-- The reply is one more, and its text was appended to nothing.
use Rattle.std.specs.Prelude.{◌++◌}
use Rattle.std.proofs.Common.{refl, ap, ◌∙◌}
use Rattle.std.proofs.lemmas.Result.{on_ok_weaker, on_err_weaker}
use Rattle.btr_text.specs.Text.{text as reply_text}
use Rattle.btr_store.specs.Status.{greater}
use Rattle.btr_serve.proofs.QuestionLemmas.{answers_reply}
use Rattle.btr_serve.proofs.question_desk.QuestionDesk.answer_line.Goals as goal

pub returns-clause-done : goal.returns-clause-done
returns-clause-done c =
    let reply = c.answer_question-reply.result in
    on_ok_weaker c.write_reply.result
    (λ written. (
      reply,
      written ∙ ap (λ l. l ++ reply_text reply) c.requires.empty,
      answers_reply c.args.line reply c.args.self.now _ refl (c.greater-self.ensures ∙ ap (greater c.args.self.now.status) c.status_of_reply.ensures) c.answer_question-reply.ensures,
    ))
    c.write_reply.ensures.ok

pub returns-clause-lost : goal.returns-clause-lost
returns-clause-lost c =
    let reply = c.answer_question-reply.result in
    on_err_weaker c.write_reply.result
    (λ unwritten. (
      reply,
      answers_reply c.args.line reply c.args.self.now _ refl (c.greater-self.ensures ∙ ap (greater c.args.self.now.status) c.status_of_reply.ensures) c.answer_question-reply.ensures,
    ))
    c.write_reply.ensures.err
