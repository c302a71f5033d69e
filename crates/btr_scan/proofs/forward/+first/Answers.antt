use Rattle.std.proofs.Common.{suc, ◌∙◌}
use Rattle.std.proofs.lemmas.Result.{on_ok_weaker, IfErr-weaker}
use Rattle.btr_tree.specs.Nodes.{is_inner}
use Rattle.btr_scan.proofs.Places.{some-found, safe-slots, held-at}
use Rattle.btr_scan.proofs.Runs.{first-at, none-from-at}
use Rattle.btr_scan.proofs.forward.+first.Goals as goal

pub first_in_place-returns-in-Inner-clause-some : goal.first_in_place-returns-in-Inner-clause-some
first_in_place-returns-in-Inner-clause-some g t c =
    let source = g.S.NodeSource in
    let slots = c.in-Inner.slots in
    let safe = safe-slots (source.IsSafe (source.told c.args.state.now)) source.count source.leaf_points source.inner_slot source.inner_place (source.count (source.site c.args.at)) c.args.span c.in_ok-visit.field-0 c.in-Inner.version slots c.in_ok-visit.ensures.safe c.in-Inner.is in
    on_ok_weaker c.first_in_slots.result (λ none count. some-found (source.inner_slot slots) c.first_in_slots.new.found safe.some (λ e. (none e).1)) c.first_in_slots.ensures.none

pub first_in_slots-returns-in-None-clause-point : goal.first_in_slots-returns-in-None-clause-point
first_in_slots-returns-in-None-clause-point g t c h at =
    c.requires.empty ∙ none-from-at _ _ _ c.args.span h c.args.from at c.requires.place c.in-None.ensures

pub first_in_slots-returns-in-Some-clause-point : goal.first_in_slots-returns-in-Some-clause-point
first_in_slots-returns-in-Some-clause-point g t c =
    let i = c.in-Some.i in
    let next = c.in-Some.ensures in
    on_ok_weaker c.first_in_place.result (λ point h at.
    first-at _ _ _ c.args.span h c.args.from i c.slot.result c.first_in_place.new.found at next.0 next.1 next.2 next.3 c.slot.ensures (point (is_inner (suc at.below) c.args.span.start) h (held-at _ _ _ c.args.span c.slot.result h i _ at next.1 c.slot.ensures c.place.ensures))) c.first_in_place.ensures.point

pub first_in_slots-returns-in-Some-clause-sound : goal.first_in_slots-returns-in-Some-clause-sound
first_in_slots-returns-in-Some-clause-sound g t c =
    let i = c.in-Some.i in
    let next = c.in-Some.ensures in
    IfErr-weaker c.first_in_place.result _ _ (λ e harmless h at. harmless (is_inner (suc at.below) c.args.span.start) h (held-at _ _ _ c.args.span c.slot.result h i _ at next.1 c.slot.ensures c.place.ensures)) c.first_in_place.ensures.sound
