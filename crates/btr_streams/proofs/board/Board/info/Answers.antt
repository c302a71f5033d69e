use Rattle.std.proofs.Common.{ap, ◌∙◌}
use Rattle.btr_tree.specs.History as tree
use Rattle.btr_base.specs.declared.limits.TheConstants.{FIRST, END}
use Rattle.btr_base.specs.Agg.{agg_within}
use Rattle.btr_hist.specs.declared.answer.Answer.TheVariants.{Found}
use Rattle.btr_hist.specs.declared.answer.Rows.TheVariants.{Info}
use Rattle.btr_streams.specs.Past.{commits_to}
use Rattle.btr_streams.proofs.BoardTrees.{bag-commits_to}
use Rattle.btr_streams.proofs.Questions.{within_domain}
use Rattle.btr_streams.proofs.board.Board.info.Goals as goal

pub returns : goal.returns
returns c h of =
    let s = c.args.stream in
    let v = c.args.version in
    let there = c.tree_of.ensures h of in
    let b = tree.bag (commits_to h s v) in
    let all = c.root_agg.ensures (commits_to h s v) there.tree ∙ within_domain b there.tree.times ∙ ap (λ b. agg_within FIRST END b) (bag-commits_to h s v) in
    ap (λ a. Found v (Info c.args.output a c.args.reads)) all
