use Rattle.std.proofs.Common.{◌≡◌, ◌+◌, ◌++◌, ◌∷◌, [], Some, ap, sym, arith, ◌∙◌}
use Rattle.btr_board.specs.Places.{value_at, node_of}
use Rattle.btr_board.proofs.FoundLemmas.{raised-found}
use Rattle.btr_board.proofs.trail_node.raised.Goals.{in-None, in-Some+in_ok-first-in-Some+in_ok-push-in-Some}
use Rattle.btr_board.proofs.trail_node.raised.Goals as goal

pub returns : goal.returns
returns g c j lt =
    let child : value_at c.match-root.children.items 0 ≡ node_of c.args.root.now =
    elim c.match-root.branch [
      | in-None w ↦ ap (λ v. value_at v.items 0) w.children-is
          ∙ ap (λ xs. value_at xs 0) c.new-children.ensures.items
          ∙ ap node_of (sym w.in-None.is)
      | in-Some+in_ok-first-in-Some+in_ok-push-in-Some w ↦ ap (λ v. value_at v.items 0) w.children-is
          ∙ ap (λ xs. value_at xs 0) (w.in_ok-push-in-Some.ensures.items
          ∙ ap (λ xs. xs ++ w.in_ok-first-in-Some.first ∷ []) c.new-children.ensures.items)
          ∙ ap Some w.in_ok-first-in-Some.ensures
          ∙ ap node_of (sym w.in-Some.is)
    ] in
    raised-found c.args.height (c.args.height + 1) (node_of c.args.root.now) c.in_ok-new.field-0.value c.match-root.children j (omega arith) c.in_ok-new.ensures.ok child lt
