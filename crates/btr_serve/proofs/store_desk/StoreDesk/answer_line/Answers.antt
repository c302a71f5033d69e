-- The line is one more of those that ran, and its reply counts in the status.
use Rattle.std.proofs.Common.{refl}
use Rattle.btr_serve.proofs.DeskLemmas.{runs_reply, says_reply, loses_reply}
use Rattle.btr_serve.proofs.store_desk.StoreDesk.answer_line.Goals as goal

pub returns-clause-done : goal.returns-clause-done
returns-clause-done g c =
    let old = c.args.self.now in
    let reply = c.answer_next-reply.result in
    says_reply c.write_reply.result c.args.line reply old _ c.args.text.now.items c.write_reply.new.out.items c.requires.empty c.write_reply.ensures.ok
    (runs_reply old _ c.args.line reply refl c.answer_next-reply.ensures.batch c.answer_next-reply.ensures.next
    c.status_of_reply.result c.greater-self.ensures c.status_of_reply.ensures)

pub returns-clause-lost : goal.returns-clause-lost
returns-clause-lost g c =
    let old = c.args.self.now in
    let reply = c.answer_next-reply.result in
    loses_reply c.write_reply.result c.args.line reply old _ _ c.write_reply.ensures.err
    (runs_reply old _ c.args.line reply refl c.answer_next-reply.ensures.batch c.answer_next-reply.ensures.next
    c.status_of_reply.result c.greater-self.ensures c.status_of_reply.ensures)
