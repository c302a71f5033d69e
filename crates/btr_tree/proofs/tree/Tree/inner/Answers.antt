use Rattle.std.proofs.Common.{inr, refl, subst}
use Rattle.btr_base.specs.Span.{IsSpan}
use Rattle.btr_tree.proofs.OpenedLemmas.{inner-opened}
use Rattle.btr_tree.proofs.tree.Tree.inner.Goals as goal

pub returns-clause-inner : goal.returns-clause-inner
returns-clause-inner g c =
    record {
      its_span = refl;
      slots = c.in_ok-slots.slots;
      node = c.in_ok-root.ensures.child;
      its_slots = c.in_ok-slots.ensures.slots;
      its_block = c.in_ok-root.ensures.block;
      total = c.in_ok-slots.ensures.agg;
    }

pub returns-clause-opened : goal.returns-clause-opened
returns-clause-opened g c =
    inner-opened c.args.span c.args.version c.args.block c.args.children.now c.args.versions.now _ (subst IsSpan c.span.view_is c.span.invariant) c.requires.height c.requires.parts (returns-clause-inner g c)

pub invariant_of-result : goal.invariant_of-result
invariant_of-result g c = inr (returns-clause-opened g c)
