use Rattle.std.proofs.Common.{sym, subst}
use Rattle.btr_base.specs.Range.{IsCut}
use Rattle.btr_distil.proofs.PartLemmas.{AreSoFar, parts-more}
use Rattle.btr_distil.proofs.parts.parts_at.Goals as goal

pub loop-time-preserved : goal.loop-time-preserved
loop-time-preserved c =
    let cut = c.args.cut.now in
    let last = c.in_ok-rest-2.rest in
    let is_cut = subst IsCut c.rest.view_is c.rest.invariant in
    subst (λ l. AreSoFar cut l last) (sym c.in_ok-push.ensures.items) (parts-more cut c.loop-time.rest c.in_ok-part.part last _ c.loop-time.parts.items is_cut c.loop-time.invariant c.in_ok-part.ensures c.in_ok-rest-2.ensures)
