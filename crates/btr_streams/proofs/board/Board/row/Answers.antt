use Rattle.std.proofs.Common.{◌-◌, Some, subst, sym, ap, ◌∙◌}
use Rattle.std.specs.Prelude.{ℕ, Bool, is_some}
use Rattle.btr_streams.specs.Board.{Versions, Kept, IsBoardOf}
use Rattle.btr_streams.proofs.Questions.{row-kept}
use Rattle.btr_streams.proofs.board.Board.row.Goals as goal

pub returns-clause-row : goal.returns-clause-row
returns-clause-row c h of =
    let b : Kept = record { streams = c.self.inside.streams; entries = c.self.inside.entries } in
    let kept : Versions = record { id = c.kept.inside.id; spec = c.kept.inside.spec; trees = c.kept.inside.trees; reads = c.kept.inside.reads; numbers = c.kept.inside.numbers; earliest = c.kept.inside.earliest } in
    let was : IsBoardOf h b = subst (IsBoardOf h) (sym c.self.view_is) of in
    row-kept h b c.args.place kept was (c.in_ok-kept.ensures ∙ ap (λ (x : Versions). Some x) (sym c.kept.view_is))
    ∙ ap (λ (n : ℕ). Some (record { id = c.kept.inside.id; latest = n - 1; output = is_some c.kept.inside.spec })) (sym c.len.ensures)
    ∙ ap (λ (t : Bool). Some (record { id = c.kept.inside.id; latest = c.len.result - 1; output = t })) (sym c.is_some.ensures)
