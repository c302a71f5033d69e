-- The shelf's answer, or why a node was not fetched.
use Rattle.std.proofs.Common.{refl, sym, ◌∙◌, ap}
use Rattle.btr_hist.specs.declared.answer.Answer.TheVariants as answers
use Rattle.btr_text.specs.declared.reply.LineReply.TheVariants.{No}
use Rattle.btr_text.specs.declared.reply.Reason.{Reason}
use Rattle.btr_live.specs.Replies.{reply_of_answer}
use Rattle.btr_top.proofs.ColdReplies.{shelf_answered, shelf_unfetched}
use Rattle.btr_top.proofs.cold.answer_query.Goals as goal

pub returns-in-Ok-Found-clause-replies : goal.returns-in-Ok-Found-clause-replies
returns-in-Ok-Found-clause-replies g c =
    let nodes = g.N.Nodes in
    let now = c.args.nodes.now in
    let arm = c.in-Ok-Found in
    let a = answers.Found arm.version arm.rows in
    shelf_answered nodes.is_observable (λ o. nodes.IsPage (nodes.contents now)) c.args.shelf.now c.args.query.now (nodes.faults now) (nodes.faults c.answer.new.nodes) a
    (λ o h may. sym arm.field-0-is ∙ arm.ensures.answer o h may) (reply_of_answer a) refl

pub returns-in-Ok-Refused-clause-replies : goal.returns-in-Ok-Refused-clause-replies
returns-in-Ok-Refused-clause-replies g c =
    let nodes = g.N.Nodes in
    let now = c.args.nodes.now in
    let arm = c.in-Ok-Refused in
    shelf_answered nodes.is_observable (λ o. nodes.IsPage (nodes.contents now)) c.args.shelf.now c.args.query.now (nodes.faults now) (nodes.faults c.answer.new.nodes) (answers.Refused arm.refusal)
    (λ o h may. sym arm.field-0-is ∙ arm.ensures.answer o h may) (No c.of_refusal.result) (ap (λ (r : Reason). No r) c.of_refusal.ensures)

pub returns-in-Err-clause-replies : goal.returns-in-Err-clause-replies
returns-in-Err-clause-replies g c =
    let nodes = g.N.Nodes in
    let now = c.args.nodes.now in
    shelf_unfetched nodes.is_observable (λ o. nodes.IsPage (nodes.contents now)) c.args.shelf.now c.args.query.now (nodes.faults now) (nodes.faults c.answer.new.nodes) c.in-Err.fault c.in-Err.ensures.cause
    c.in-Err.ensures.sound (No c.reason_of_fault.result) (ap (λ (r : Reason). No r) c.reason_of_fault.ensures)
