use Rattle.std.specs.Prelude.{slice_get, Some, None}
use Rattle.std.proofs.Common.{◌≡◌, ◌+◌, suc, ◌<ℤ◌, List, sym, ap, ◌∙◌, subst, arith, w64, to_z, of_z}
use Rattle.std.proofs.lemmas.Int.{ints, to_z-of_z}
use Rattle.std.proofs.lemmas.Result.{on_ok_weaker, IfErr-weaker}
use Rattle.btr_base.specs.declared.point.Point.{Point}
use Rattle.btr_base.specs.Span.{SpanValue}
use Rattle.btr_tree.specs.Change.{end_of}
use Rattle.btr_tree.specs.History.{bag}
use Rattle.btr_tree.specs.Nodes.{is_inner}
use Rattle.btr_tree.proofs.NodeLemmas.{slot-part}
use Rattle.btr_tree.proofs.RangeSlotLemmas.{slot_of-start}
use Rattle.btr_scan.specs.FirstLast.{first_within}
use Rattle.btr_scan.proofs.Places.{leaf-found, inner-found, nothing-found, leaf-from, none-from, held-at, slots-same}
use Rattle.btr_scan.proofs.Runs.{next-here, next-behind}
use Rattle.btr_scan.proofs.forward.+next.Goals as goal

pub next_in_place-returns-in-Nothing-clause-point : goal.next_in_place-returns-in-Nothing-clause-point
next_in_place-returns-in-Nothing-clause-point g t c above h at =
    let source = g.S.NodeSource in
    let span = c.args.span in
    let none = nothing-found (source.IsAt (source.told c.args.state.now)) source.leaf_points source.inner_slot source.inner_place span above h c.in_ok-visit.field-0 (c.in_ok-visit.ensures.found above h at) c.in-Nothing.is in
    c.requires.empty ∙ sym (ap (λ (x : List Point). slice_get x 0) (none-from span.height span.start (bag h) c.args.time c.requires.inside.0 none))

pub next_in_place-returns-in-Leaf-clause-point : goal.next_in_place-returns-in-Leaf-clause-point
next_in_place-returns-in-Leaf-clause-point g t c above h at =
    let source = g.S.NodeSource in
    let span = c.args.span in
    let same = to_z-of_z w64 c.args.time c.ranges.time in
    let points = leaf-found (source.IsAt (source.told c.args.state.now)) source.leaf_points source.inner_slot source.inner_place span above h c.in_ok-visit.field-0 c.in-Leaf.version c.in-Leaf.points (c.in_ok-visit.ensures.found above h at) c.in-Leaf.is in
    let behind = leaf-from span.height span.start (bag h) c.points.result.now c.parted.result.1.now c.args.time (to_z w64 (of_z w64 c.args.time)) same c.requires.inside.0 (c.points.ensures ∙ points) c.parted.ensures.from in
    c.first_of.ensures ∙ ap (λ (x : List Point). slice_get x 0) behind

pub next_in_place-returns-in-Inner-clause-point : goal.next_in_place-returns-in-Inner-clause-point
next_in_place-returns-in-Inner-clause-point g t c =
    let source = g.S.NodeSource in
    let span = c.args.span in
    let same = to_z-of_z w64 c.args.time c.ranges.time in
    on_ok_weaker c.next_in_slots.result (λ point above h at.
    let slots = inner-found (source.IsAt (source.told c.args.state.now)) source.leaf_points source.inner_slot source.inner_place span above h c.in_ok-visit.field-0 c.in-Inner.version c.in-Inner.slots (c.in_ok-visit.ensures.found above h at) c.in-Inner.is in
    point h (slots-same source.IsAt _ _ _ _ span h c.in_ok-visit.ensures.uses.same slots) ∙ ap (λ x. first_within x (end_of span) (bag h)) same) c.next_in_slots.ensures.point

pub next_in_slots-returns-in-Some-clause-point : goal.next_in_slots-returns-in-Some-clause-point
next_in_slots-returns-in-Some-clause-point g t c h at =
    let i = c.slot_at-i.result in
    let all = c.slot_at-i.ensures in
    let part = c.slot.result in
    let same = to_z-of_z w64 c.args.time c.ranges.time in
    let is = c.slot.ensures ∙ slot-part c.args.span at.below i at.above in
    let held = held-at _ _ _ c.args.span part h i _ at all.place c.slot.ensures c.place.ensures in
    let ends : c.args.time <ℤ end_of part = subst (λ x. x <ℤ end_of part) same (subst (λ (u : SpanValue). to_z w64 (of_z w64 c.args.time) <ℤ end_of u) (sym c.slot.ensures) all.ends) in
    let found : Some c.in-Some.field-0 ≡ first_within c.args.time (end_of part) (bag h) = sym c.in-Some.is ∙ c.in_ok-next_in_place.ensures.point (is_inner (suc at.below) c.args.span.start) h held ∙ ap (λ x. first_within x (end_of part) (bag h)) same in
    c.in-Some.is ∙ next-here c.args.span at.below h c.args.time i part c.in-Some.field-0 at.above all.place is (omega (arith, ints)) found

pub next_in_slots-returns-in-None-clause-point : goal.next_in_slots-returns-in-None-clause-point
next_in_slots-returns-in-None-clause-point g t c =
    let source = g.S.NodeSource in
    let i = c.slot_at-i.result in
    let all = c.slot_at-i.ensures in
    let part = c.slot.result in
    let same = to_z-of_z w64 c.args.time c.ranges.time in
    let ends : c.args.time <ℤ end_of part = subst (λ x. x <ℤ end_of part) same (subst (λ (u : SpanValue). to_z w64 (of_z w64 c.args.time) <ℤ end_of u) (sym c.slot.ensures) all.ends) in
    on_ok_weaker c.first_in_slots.result (λ behind h at.
    let is = c.slot.ensures ∙ slot-part c.args.span at.below i at.above in
    let held = held-at _ _ _ c.args.span part h i _ at all.place c.slot.ensures c.place.ensures in
    let missed : None ≡ first_within c.args.time (end_of part) (bag h) = sym c.in-None.is ∙ c.in_ok-next_in_place.ensures.point (is_inner (suc at.below) c.args.span.start) h held ∙ ap (λ x. first_within x (end_of part) (bag h)) same in
    let rest = behind h (slots-same source.IsAt _ _ _ _ c.args.span h c.in_ok-next_in_place.ensures.uses.same at) ∙ ap (λ a. first_within a (end_of c.args.span) (bag h)) (slot_of-start c.args.span at.below (i + 1) at.above) in
    next-behind c.args.span at.below h c.args.time i part c.first_in_slots.new.found at.above all.place is (omega (arith, ints)) missed rest) c.first_in_slots.ensures.point

pub next_in_slots-returns-in-None-clause-sound : goal.next_in_slots-returns-in-None-clause-sound
next_in_slots-returns-in-None-clause-sound g t c =
    IfErr-weaker c.first_in_slots.result _ _ (λ e harmless h at. harmless h (slots-same g.S.NodeSource.IsThere _ _ _ _ c.args.span h c.in_ok-next_in_place.ensures.uses.same at)) c.first_in_slots.ensures.sound
