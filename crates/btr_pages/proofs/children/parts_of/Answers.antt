use Rattle.std.proofs.Common.{◌≡◌, ◌+◌, ◌∙◌, ap, subst, sym, arith, get_or, Some}
use Rattle.std.specs.Option.{MatchOption}
use Rattle.std.proofs.lemmas.Option.{slice_get_read}
use Rattle.btr_node.specs.declared.page.PageSlot.{PageSlot}
use Rattle.btr_pages.specs.Made.{ArePartsTo, HasKnownChild, part_of}
use Rattle.btr_pages.proofs.PartLemmas.{one-more, one-skipped}
use Rattle.btr_pages.proofs.children.parts_of.Goals as goal
use Rattle.btr_pages.proofs.children.parts_of.Goals.{then-count-gt0+in_ok-tree+in-Some+in_ok-push, else-count-gt0}

pub loop-i-preserved : goal.loop-i-preserved
loop-i-preserved c =
    let i = c.loop-i.i in
    let slots = c.args.slots.now in
    let nodes = c.args.nodes.now in
    let span = c.args.span in
    let stream = c.args.stream in
    let slot = c.index-slots-from.result in
    let at = slice_get_read slots 64 i slot (sym c.type_inv.slots) c.loop-i-test.true (c.index-slots-from.is ∙ ap (λ n. get_or slots n slot) c.from.ensures) in
    let count : c.count.result ≡ slot.agg.count = c.count.ensures ∙ sym (ap (λ (s : PageSlot). s.agg.count) c.index-slots-from.is) in
    elim c.if-count-gt0.branch [
      | then-count-gt0+in_ok-tree+in-Some+in_ok-push w ↦
          let found = subst (λ x. MatchOption w.in_ok-tree.field-0 (HasKnownChild nodes c.args.block w.slot.result stream x → ⊥) (λ t. HasKnownChild nodes c.args.block w.slot.result stream x × (part_of nodes (Some x) ≡ Some t))) (sym c.index-slots-from.is) w.in_ok-tree.ensures in
          let some = subst (λ o. MatchOption o (HasKnownChild nodes c.args.block w.slot.result stream slot → ⊥) (λ t. HasKnownChild nodes c.args.block w.slot.result stream slot × (part_of nodes (Some slot) ≡ Some t))) w.in-Some.is found in
          let has = subst (λ p. HasKnownChild nodes c.args.block p stream slot) w.slot.ensures some.0 in
          subst (λ v. ArePartsTo (i + 1) nodes c.args.block span stream slots v.items) (sym w.parts-is) (subst (ArePartsTo (i + 1) nodes c.args.block span stream slots) (sym w.in_ok-push.ensures.items) (one-more i nodes c.args.block span stream slots c.loop-i.parts.items slot w.in-Some.tree c.loop-i.invariant at has some.1))
      | else-count-gt0 w ↦
          let low = w.if-count-gt0.false in
          subst (λ v. ArePartsTo (i + 1) nodes c.args.block span stream slots v.items) (sym w.parts-is) (one-skipped i nodes c.args.block span stream slots c.loop-i.parts.items slot c.loop-i.invariant at (omega arith))
    ]
