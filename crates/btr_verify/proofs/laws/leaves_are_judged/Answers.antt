use Rattle.std.specs.Prelude.{List, slice_get, IfSome}
use Rattle.std.proofs.Common.{sym, subst}
use Rattle.btr_tree.specs.declared.node.Slot.{Slot}
use Rattle.btr_verify.specs.Judged.{IsRightSlot}
use Rattle.btr_verify.proofs.OwnLemmas.{right-own, own-right}
use Rattle.btr_verify.proofs.laws.leaves_are_judged.Goals as goal

pub returns : goal.returns
returns c store h block node rising is placed leaf = (
  λ right. (right-own store h rising block node placed.aligned right).0,
  λ own.
      own-right store h rising block node is placed own (λ i. subst (λ (xs : List Slot). IfSome (slice_get xs i) (IsRightSlot store h node.span i)) (sym leaf) tt),
)
