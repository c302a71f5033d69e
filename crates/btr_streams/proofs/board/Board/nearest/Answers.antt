use Rattle.std.proofs.Common.{◌≡◌, [], ◌∷◌, ◌++◌, sym, ap, ◌∙◌, w64}
use Rattle.btr_tree.specs.History as tree
use Rattle.std.proofs.lemmas.Int.{to_z-of_z}
use Rattle.btr_base.specs.Nearest.{nearest}
use Rattle.btr_hist.specs.declared.answer.Answer.TheVariants.{Found}
use Rattle.btr_hist.specs.declared.answer.Rows.TheVariants.{Points}
use Rattle.btr_hist.specs.Answer.{list_of}
use Rattle.btr_streams.specs.Past.{commits_to}
use Rattle.btr_streams.proofs.BoardTrees.{bag-commits_to}
use Rattle.btr_streams.proofs.board.Board.nearest.Goals as goal
use Rattle.btr_streams.proofs.board.Board.nearest.Goals.{in-Some+in_ok-push, in_default}

pub returns : goal.returns
returns c h of =
    let s = c.args.stream in
    let v = c.args.version in
    let there = c.tree_of.ensures h of in
    let time = ap (λ t. nearest c.args.toward t (tree.bag (commits_to h s v))) (to_z-of_z w64 c.args.time c.ranges.time) in
    let point = c.nearest.ensures.point (commits_to h s v) there.tree ∙ time ∙ ap (λ b. nearest c.args.toward c.args.time b) (bag-commits_to h s v) in
    let one = elim c.match-nearest.branch as (λ _. c.match-nearest.found.items ≡ list_of c.nearest.result) [
      | in-Some+in_ok-push w ↦ ap (λ f. f.items) w.found-is ∙ w.in_ok-push.ensures.items ∙ ap (λ ps. ps ++ w.in-Some.point ∷ []) c.new-found.ensures.items ∙ sym (ap list_of w.in-Some.is)
      | in_default w ↦ ap (λ f. f.items) w.found-is ∙ c.new-found.ensures.items ∙ sym (ap list_of w.in_default.is)
    ] in
    ap (λ ps. Found v (Points ps)) (c.from_points.ensures ∙ one ∙ ap list_of point)
