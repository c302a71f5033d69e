use Rattle.std.proofs.Common.{sym, ap, subst, ◌∙◌}
use Rattle.btr_tree.specs.History as tree
use Rattle.btr_tree.specs.Root.{IsTree}
use Rattle.btr_base.specs.Changes.{changes}
use Rattle.btr_hist.specs.History.{bag}
use Rattle.btr_hist.specs.declared.answer.Answer.TheVariants.{Found}
use Rattle.btr_hist.specs.declared.answer.Rows.TheVariants.{Ranges}
use Rattle.btr_streams.specs.Past.{commits_to}
use Rattle.btr_streams.proofs.BoardTrees.{bag-commits_to, up_to-commits_to}
use Rattle.btr_streams.proofs.board.Board.changes.Goals as goal

pub returns : goal.returns
returns c h of =
    let s = c.args.stream in
    let old = c.args.old in
    let new = c.args.new in
    let older_tree = c.tree_of-older.ensures h of in
    let newer_tree = c.tree_of-newer.ensures h of in
    let both = sym (up_to-commits_to h s old new c.requires.order newer_tree.has.1) in
    let runs = c.in_ok-found.ensures.runs (commits_to h s old) (commits_to h s new) (subst (IsTree (commits_to h s old)) (sym c.uncounted-older.ensures) older_tree.tree) newer_tree.tree both in
    let older = ap (λ b. changes c.args.p b (tree.bag (commits_to h s new))) (bag-commits_to h s old) in
    let newer = ap (λ b. changes c.args.p (bag h s old) b) (bag-commits_to h s new) in
    ap (λ r. Found new (Ranges r)) (runs ∙ older ∙ newer)
