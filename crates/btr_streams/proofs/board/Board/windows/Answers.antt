use Rattle.std.proofs.Common.{ap, ◌∙◌}
use Rattle.btr_base.specs.Windows.{windows}
use Rattle.btr_hist.specs.declared.answer.Answer.TheVariants.{Found}
use Rattle.btr_hist.specs.declared.answer.Rows.TheVariants.{Cells}
use Rattle.btr_streams.specs.Past.{commits_to}
use Rattle.btr_streams.proofs.BoardTrees.{bag-commits_to}
use Rattle.btr_streams.proofs.board.Board.windows.Goals as goal

pub returns : goal.returns
returns c h of =
    let s = c.args.stream in
    let v = c.args.version in
    let there = c.tree_of.ensures h of in
    let rows = c.in_ok-found.ensures (commits_to h s v) there.tree ∙ ap (λ b. windows c.args.width c.args.between.from c.args.between.to b) (bag-commits_to h s v) in
    ap (λ cells. Found v (Cells cells)) (c.from_cells.ensures ∙ rows)
