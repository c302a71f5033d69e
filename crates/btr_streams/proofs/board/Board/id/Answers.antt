use Rattle.std.specs.Prelude.{◌≤◌, length, Some}
use Rattle.std.proofs.Common.{sym, ap, ◌∙◌, subst}
use Rattle.std.proofs.lemmas.Option.{slice_get_past}
use Rattle.btr_hist.specs.History.{ids}
use Rattle.btr_streams.specs.Board.{Versions, Kept, IsBoardOf}
use Rattle.btr_streams.proofs.BoardNext.{kept-stream}
use Rattle.btr_streams.proofs.BoardReads.{past-ids}
use Rattle.btr_streams.proofs.board.Board.id.Goals as goal

pub returns-in_err-kept : goal.returns-in_err-kept
returns-in_err-kept c h of =
    let b : Kept = record { streams = c.self.inside.streams; entries = c.self.inside.entries } in
    let was : IsBoardOf h b = subst (IsBoardOf h) (sym c.self.view_is) of in
    let past : length c.self.inside.streams ≤ c.args.stream = c.in_err-kept.ensures in
    c.from_residual.ensures ∙ sym (slice_get_past (ids h) c.args.stream (past-ids h b c.args.stream was past))

pub returns : goal.returns
returns c h of =
    let b : Kept = record { streams = c.self.inside.streams; entries = c.self.inside.entries } in
    let was : IsBoardOf h b = subst (IsBoardOf h) (sym c.self.view_is) of in
    let kept = kept-stream h b c.args.stream c.in_ok-kept.kept.now was c.in_ok-kept.ensures in
    ap (λ (x : Versions). Some x.id) c.kept.view_is ∙ sym kept.1.named
