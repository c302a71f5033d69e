use Rattle.std.specs.Prelude.{None}
use Rattle.std.specs.List.{last_or}
use Rattle.std.proofs.Common.{suc, List, ap, ◌∙◌, arith}
use Rattle.std.proofs.lemmas.Result.{on_ok_weaker, IfErr-weaker}
use Rattle.btr_base.specs.declared.point.Point.{Point}
use Rattle.btr_tree.specs.History.{bag}
use Rattle.btr_tree.specs.Nodes.{is_inner}
use Rattle.btr_scan.proofs.Firsts.{last-is-some}
use Rattle.btr_scan.proofs.Places.{some-found, some-points, safe-slots, inner-found, held-at, slots-same}
use Rattle.btr_scan.proofs.Runs.{last-at, none-to-at, end-slot}
use Rattle.btr_scan.specs.FirstLast.{last_within}
use Rattle.btr_scan.proofs.backward.+last.Goals as goal

pub last_in_place-returns-in-Inner-clause-some : goal.last_in_place-returns-in-Inner-clause-some
last_in_place-returns-in-Inner-clause-some g t c =
    let source = g.S.NodeSource in
    let slots = c.in-Inner.slots in
    let safe = safe-slots (source.IsSafe (source.told c.args.state.now)) source.count source.leaf_points source.inner_slot source.inner_place (source.count (source.site c.args.at)) c.args.span c.in_ok-visit.field-0 c.in-Inner.version slots c.in_ok-visit.ensures.safe c.in-Inner.is in
    on_ok_weaker c.last_in_slots.result (λ none count. some-found (source.inner_slot slots) c.last_in_slots.new.found safe.some (λ e. (none e).1)) c.last_in_slots.ensures.none

pub last_in_place-returns-in-Leaf-clause-some : goal.last_in_place-returns-in-Leaf-clause-some
last_in_place-returns-in-Leaf-clause-some g t c count =
    let source = g.S.NodeSource in
    let leaf = c.in-Leaf.points in
    let some = some-points (source.IsSafe (source.told c.args.state.now)) source.count source.leaf_points source.inner_slot source.inner_place (source.count (source.site c.args.at)) c.args.span c.in_ok-visit.field-0 c.in-Leaf.version leaf c.in_ok-visit.ensures.safe c.in-Leaf.is in
    last-is-some (source.leaf_points leaf) c.last_of.result some (c.last_of.ensures ∙ ap (λ (x : List Point). last_or None x) c.points.ensures)

pub last_in_place-returns-in-Inner-clause-point : goal.last_in_place-returns-in-Inner-clause-point
last_in_place-returns-in-Inner-clause-point g t c =
    let source = g.S.NodeSource in
    let span = c.args.span in
    on_ok_weaker c.last_in_slots.result (λ point above h at.
    let slots = inner-found (source.IsAt (source.told c.args.state.now)) source.leaf_points source.inner_slot source.inner_place span above h c.in_ok-visit.field-0 c.in-Inner.version c.in-Inner.slots (c.in_ok-visit.ensures.found above h at) c.in-Inner.is in
    point h (slots-same source.IsAt _ _ _ _ span h c.in_ok-visit.ensures.uses.same slots) ∙ ap (λ e. last_within span.start e (bag h)) (end-slot span slots.below slots.above)) c.last_in_slots.ensures.point

pub last_in_slots-returns-in-None-clause-point : goal.last_in_slots-returns-in-None-clause-point
last_in_slots-returns-in-None-clause-point g t c h at =
    c.requires.empty ∙ none-to-at _ _ _ c.args.span h c.args.to at c.requires.place c.in-None.ensures

pub last_in_slots-returns-in-Some-clause-point : goal.last_in_slots-returns-in-Some-clause-point
last_in_slots-returns-in-Some-clause-point g t c =
    let i = c.in-Some.i in
    let next = c.in-Some.ensures in
    on_ok_weaker c.last_in_place.result (λ point h at.
    last-at _ _ _ c.args.span h c.args.to i c.slot.result c.last_in_place.new.found at next.0 c.requires.place next.1 next.2 c.slot.ensures (point (is_inner (suc at.below) c.args.span.start) h (held-at _ _ _ c.args.span c.slot.result h i _ at (omega (arith, next.0)) c.slot.ensures c.place.ensures))) c.last_in_place.ensures.point

pub last_in_slots-returns-in-Some-clause-sound : goal.last_in_slots-returns-in-Some-clause-sound
last_in_slots-returns-in-Some-clause-sound g t c =
    let i = c.in-Some.i in
    let next = c.in-Some.ensures in
    IfErr-weaker c.last_in_place.result _ _ (λ e harmless h at. harmless (is_inner (suc at.below) c.args.span.start) h (held-at _ _ _ c.args.span c.slot.result h i _ at (omega (arith, next.0)) c.slot.ensures c.place.ensures)) c.last_in_place.ensures.sound
