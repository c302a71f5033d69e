use Rattle.std.proofs.Common.{◌++◌, ◌∷◌, [], sym, subst}
use Rattle.btr_base.specs.Range.{IsCut}
use Rattle.btr_base.proofs.ranges.Ranges.add.Goals as goal

pub invariant_of-self-then-is_after_last : goal.invariant_of-self-then-is_after_last
invariant_of-self-then-is_after_last c =
    let behind = c.is_after_last.ensures c.if-is_after_last.true in
    subst IsCut (sym c.in_ok-push.ensures.items) (subst (λ v. IsCut (v ++ c.args.range ∷ [])) c.deref.ensures.value behind)
