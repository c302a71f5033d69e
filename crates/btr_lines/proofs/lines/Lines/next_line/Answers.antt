use Rattle.std.proofs.lemmas.Result.{err_from_is_err_and}
use Rattle.btr_lines.proofs.TakeLemmas.{err-same, takes_if}
use Rattle.btr_lines.proofs.AskLemmas.{begins, exceeds, ends_line, part_no_feed, asked_more, uncalled_later, ends_input, turns}
use Rattle.btr_lines.proofs.lines.Lines.next_line.Goals as goal

pub loop-asked-init : goal.loop-asked-init
loop-asked-init g c = rw c.clear.ensures.items (begins g.S.Source)

pub returns-in_err-take_held-clause-too_long : goal.returns-in_err-take_held-clause-too_long
returns-in_err-take_held-clause-too_long g c =
    let p = err_from_is_err_and c.from_residual.result c.from_residual.ensures.1 in
    λ t. rw (p.1, p.2) (λ e. exceeds g.S.Source c.loop-asked.invariant (c.in_err-take_held.ensures.too_long (err-same _ _ e)) t)

pub returns-then-branch-clause-line : goal.returns-then-branch-clause-line
returns-then-branch-clause-line g c = ends_line g.S.Source c.loop-asked.invariant (takes_if c.if-branch.true c.in_ok-take_held.ensures.takes)

pub returns-in_err-refill-clause-part : goal.returns-in_err-refill-clause-part
returns-in_err-refill-clause-part g c =
    λ e. (part_no_feed g.S.Source c.loop-asked.invariant (takes_if c.if-branch.false c.in_ok-take_held.ensures.takes), c.in_err-refill.ensures.empty)

pub returns-in_err-refill-clause-asks : goal.returns-in_err-refill-clause-asks
returns-in_err-refill-clause-asks g c =
    asked_more g.S.Source c.loop-asked.invariant (takes_if c.if-branch.false c.in_ok-take_held.ensures.takes) c.and.ensures c.refill.ensures.calls

pub returns-in_err-refill-clause-not_called : goal.returns-in_err-refill-clause-not_called
returns-in_err-refill-clause-not_called g c =
    uncalled_later g.S.Source c.loop-asked.invariant (takes_if c.if-branch.false c.in_ok-take_held.ensures.takes)

pub returns-then-not-branch-clause-line : goal.returns-then-not-branch-clause-line
returns-then-not-branch-clause-line g c =
    ends_input g.S.Source c.loop-asked.invariant (takes_if c.if-branch.false c.in_ok-take_held.ensures.takes) _ _
    c.in_ok-refill.ensures.given (λ o. c.in_ok-refill.ensures.end o c.if-not-branch.true)

pub returns-then-not-branch-clause-asks : goal.returns-then-not-branch-clause-asks
returns-then-not-branch-clause-asks g c =
    asked_more g.S.Source c.loop-asked.invariant (takes_if c.if-branch.false c.in_ok-take_held.ensures.takes) c.and.ensures c.refill.ensures.calls

pub returns-then-not-branch-clause-not_called : goal.returns-then-not-branch-clause-not_called
returns-then-not-branch-clause-not_called g c =
    uncalled_later g.S.Source c.loop-asked.invariant (takes_if c.if-branch.false c.in_ok-take_held.ensures.takes)

pub loop-asked-preserved : goal.loop-asked-preserved
loop-asked-preserved g c =
    turns g.S.Source c.loop-asked.invariant (takes_if c.if-branch.false c.in_ok-take_held.ensures.takes) c.and.ensures c.refill.ensures.calls
    c.in_ok-take_held.ensures.within c.in_ok-refill.ensures.given c.in_ok-refill.ensures.cause.same
