use Rattle.std.proofs.Common.{◌∙◌, ap, inr, refl, subst}
use Rattle.btr_base.specs.Agg.{agg}
use Rattle.btr_base.specs.Span.{IsSpan}
use Rattle.btr_tree.specs.Slots.{linked}
use Rattle.btr_tree.proofs.OpenedLemmas.{leaf-made, leaf-opened}
use Rattle.btr_tree.proofs.tree.Tree.leaf.Goals as goal

pub returns-clause-leaf : goal.returns-clause-leaf
returns-clause-leaf g c =
    let made = leaf-made (linked c.in_ok-root.root) c.args.block c.args.version c.in_ok-points.points c.args.points.now c.in_ok-root.ensures.node (c.in_ok-points.ensures.items ∙ c.as_slice-points.ensures.points) in
    record { its_span = refl; node = made.0; its_block = made.1; total = c.of_points-agg.ensures ∙ ap agg c.as_slice-points.ensures.points }

pub returns-clause-opened : goal.returns-clause-opened
returns-clause-opened g c =
    leaf-opened c.args.span c.args.version c.args.block c.args.points.now _ (subst IsSpan c.span.view_is c.span.invariant) c.as_slice-points.ensures.in_order c.requires.some c.requires.few c.requires.inside (returns-clause-leaf g c)

pub invariant_of-result : goal.invariant_of-result
invariant_of-result g c = inr (returns-clause-opened g c)
