use Rattle.std.specs.Prelude.{◌≤◌, length}
use Rattle.std.proofs.Common.{sym, ◌∙◌, subst}
use Rattle.btr_streams.specs.Board.{Kept, IsBoardOf}
use Rattle.btr_streams.proofs.BoardReads.{number-past}
use Rattle.btr_streams.proofs.board.Board.number.Goals as goal

pub returns-in_err-kept : goal.returns-in_err-kept
returns-in_err-kept c h of =
    let b : Kept = record { streams = c.self.inside.streams; entries = c.self.inside.entries } in
    let was : IsBoardOf h b = subst (IsBoardOf h) (sym c.self.view_is) of in
    let past : length c.self.inside.streams ≤ c.args.stream = c.in_err-kept.ensures in
    c.from_residual.ensures ∙ sym (number-past h b c.args.stream was past c.args.version)
