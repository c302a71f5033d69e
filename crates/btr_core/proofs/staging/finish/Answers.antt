-- The staged board is accepted, or the board stays.
use Rattle.std.proofs.Common.{◌∙◌, sym, ap, subst, List}
use Rattle.btr_hist.specs.declared.entry.Entry.{Entry}
use Rattle.btr_streams.specs.declared.board.Receipt.{Receipt}
use Rattle.btr_streams.specs.Board.{IsBoardOf}
use Rattle.btr_core.specs.declared.event.Reply.TheVariants.{Accepted}
use Rattle.btr_core.specs.Events.{reply_of}
use Rattle.btr_core.specs.Staging.{Makes}
use Rattle.btr_core.proofs.staging.finish.Goals as goal

pub returns-in-Staged : goal.returns-in-Staged
returns-in-Staged c = λ h next reply of makes.
    let made = subst (Makes h reply next) c.in-Staged.is makes in
    (ap (λ (r : Receipt). reply_of (Accepted r)) c.accept.ensures.receipt ∙ made.0, subst (IsBoardOf next) (sym c.accept.ensures.next) made.1)

pub returns-in-Refused : goal.returns-in-Refused
returns-in-Refused c = λ h next reply of makes.
    let made = subst (Makes h reply next) c.in-Refused.is makes in
    (made.0, subst (λ (l : List Entry). IsBoardOf l c.args.board.now) (sym made.1) of)
