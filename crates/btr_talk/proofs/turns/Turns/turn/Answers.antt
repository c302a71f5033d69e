use Rattle.std.proofs.Common.{◌∙◌}
use Rattle.std.proofs.lemmas.Result.{err_from_is_err_and}
use Rattle.btr_talk.proofs.TalkLemmas.{line_read, read_ends, goes_on, reply_ends, turned}
use Rattle.btr_talk.proofs.turns.Turns.turn.Goals as goal

pub returns-in_err-more-clause-turned : goal.returns-in_err-more-clause-turned
returns-in_err-more-clause-turned g c =
    let p = err_from_is_err_and c.from_residual.result c.from_residual.ensures.1 in
    λ given before begun t. rw (p.1, p.2) (read_ends g.S.Source g.K.Sink g.X.Desk g.met.X.Desk.stays g.met.X.Desk.later t c.next_line.ensures.asks c.next_line.new.line.items c.next_line.new.self c.in_err-more.field-0.0
    c.in_err-more.ensures.none_lost c.in_err-more.ensures.too_long c.in_err-more.ensures.part c.in_err-more.ensures.cause)

pub returns-in_err-reply-clause-turned : goal.returns-in_err-reply-clause-turned
returns-in_err-reply-clause-turned g c =
    let p = err_from_is_err_and c.from_residual-in_err-reply.result c.from_residual-in_err-reply.ensures.1 in
    λ given before begun t.
    let read = line_read g.S.Source g.K.Sink g.X.Desk g.met.X.Desk.stays g.met.X.Desk.later t c.next_line.ensures.asks c.next_line.new.line.items c.next_line.new.self c.in_ok-more.more c.in_ok-more.ensures.line in
    rw (p.1, p.2) (reply_ends g.S.Source g.K.Sink g.X.Desk g.met.X.Desk.stays g.met.X.Desk.later read c.in_ok-more.ensures.within _ c.deref.ensures.value c.in_err-reply.field-0.0 c.in_err-reply.ensures.stops)

pub returns-clause-turned : goal.returns-clause-turned
returns-clause-turned g c =
    λ given before begun t.
    let read = line_read g.S.Source g.K.Sink g.X.Desk g.met.X.Desk.stays g.met.X.Desk.later t c.next_line.ensures.asks c.next_line.new.line.items c.next_line.new.self c.in_ok-more.more c.in_ok-more.ensures.line in
    turned g.S.Source g.K.Sink g.X.Desk g.met.X.Desk.stays g.met.X.Desk.later c.next_line.new.self c.in_ok-more.more (goes_on g.S.Source g.K.Sink g.X.Desk g.met.X.Desk.stays g.met.X.Desk.later read c.in_ok-more.ensures.within _ c.deref.ensures.value c.in_ok-reply.ensures.replies)
    (c.in_ok-more.ensures.cause.same ∙ t.no_fault) (λ o. (c.in_ok-more.ensures.line o).end)
