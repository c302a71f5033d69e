use Rattle.std.specs.Prelude.{◌≤◌, length}
use Rattle.std.proofs.Common.{sym, ap, ◌∙◌, subst}
use Rattle.btr_streams.specs.Board.{Versions, Kept, IsBoardOf, read_at}
use Rattle.btr_streams.proofs.BoardReads.{read-past, read-kept}
use Rattle.btr_streams.proofs.board.Board.reads.Goals as goal

pub returns-in_err-kept : goal.returns-in_err-kept
returns-in_err-kept c h of =
    let b : Kept = record { streams = c.self.inside.streams; entries = c.self.inside.entries } in
    let was : IsBoardOf h b = subst (IsBoardOf h) (sym c.self.view_is) of in
    let past : length c.self.inside.streams ≤ c.args.stream = c.in_err-kept.ensures in
    c.from_residual.ensures ∙ sym (read-past h b c.args.stream was past c.args.version)

pub returns : goal.returns
returns c h of =
    let b : Kept = record { streams = c.self.inside.streams; entries = c.self.inside.entries } in
    let was : IsBoardOf h b = subst (IsBoardOf h) (sym c.self.view_is) of in
    c.read_at.ensures ∙ ap (λ (x : Versions). read_at x.reads c.args.version) c.kept.view_is ∙ sym (read-kept h b c.args.stream was c.in_ok-kept.kept.now c.in_ok-kept.ensures c.args.version)
