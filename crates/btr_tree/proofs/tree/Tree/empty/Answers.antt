use Rattle.std.proofs.Common.{inl, sym, subst}
use Rattle.btr_base.specs.Span.{SpanValue}
use Rattle.btr_tree.specs.History.{nothing}
use Rattle.btr_tree.specs.Root.{IsTree, IsSomeTree}
use Rattle.btr_tree.specs.Slots.{linked}
use Rattle.btr_tree.proofs.RootLemmas.{tree-none}
use Rattle.btr_tree.proofs.tree.Tree.empty.Goals as goal

pub invariant_of-result : goal.invariant_of-result
invariant_of-result c =
    subst (λ (u : SpanValue). IsSomeTree (record { span = u; node = linked c.none.result; total = c.none-2.result })) (sym c.root_span.ensures) (inl (nothing, tree-none (linked c.none.result) c.none-2.result c.none.ensures c.none-2.ensures))

pub returns : goal.returns
returns c =
    subst (λ (u : SpanValue). IsTree nothing (record { span = u; node = linked c.none.result; total = c.none-2.result })) (sym c.root_span.ensures) (tree-none (linked c.none.result) c.none-2.result c.none.ensures c.none-2.ensures)
