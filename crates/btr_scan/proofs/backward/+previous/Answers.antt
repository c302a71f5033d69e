use Rattle.std.specs.Prelude.{Some, None, IsNone}
use Rattle.std.specs.List.{last_or}
use Rattle.std.proofs.Common.{◌≡◌, suc, ◌≤ℤ◌, ◌<ℤ◌, List, refl, sym, ap, ◌∙◌, subst, arith, w64, to_z, of_z}
use Rattle.std.proofs.lemmas.Int.{ints, to_z-of_z}
use Rattle.std.proofs.lemmas.Result.{on_ok_weaker, IfErr-weaker}
use Rattle.btr_base.specs.declared.point.Point.{Point}
use Rattle.btr_base.specs.Span.{SpanValue}
use Rattle.btr_tree.specs.Change.{end_of}
use Rattle.btr_tree.specs.History.{bag}
use Rattle.btr_tree.specs.Nodes.{is_inner}
use Rattle.btr_tree.proofs.NodeLemmas.{slot-part}
use Rattle.btr_tree.proofs.RangeSlotLemmas.{slot_of-start}
use Rattle.btr_scan.specs.FirstLast.{last_within}
use Rattle.btr_scan.proofs.Places.{leaf-found, inner-found, nothing-found, leaf-before, none-until, safe-at, held-at, slots-same}
use Rattle.btr_scan.proofs.Parts.{last-reaches}
use Rattle.btr_scan.proofs.Runs.{previous-here, previous-before}
use Rattle.btr_scan.proofs.backward.+previous.Goals as goal

pub previous_in_place-returns-in-Nothing-clause-point : goal.previous_in_place-returns-in-Nothing-clause-point
previous_in_place-returns-in-Nothing-clause-point g t c above h at =
    let source = g.S.NodeSource in
    let span = c.args.span in
    let none = nothing-found (source.IsAt (source.told c.args.state.now)) source.leaf_points source.inner_slot source.inner_place span above h c.in_ok-visit.field-0 (c.in_ok-visit.ensures.found above h at) c.in-Nothing.is in
    c.requires.empty ∙ sym (ap (λ (x : List Point). last_or None x) (none-until span.height span.start (bag h) c.args.time c.requires.inside.1 none))

pub previous_in_place-returns-in-Leaf-clause-point : goal.previous_in_place-returns-in-Leaf-clause-point
previous_in_place-returns-in-Leaf-clause-point g t c above h at =
    let source = g.S.NodeSource in
    let span = c.args.span in
    let same = to_z-of_z w64 c.args.time c.ranges.time in
    let points = leaf-found (source.IsAt (source.told c.args.state.now)) source.leaf_points source.inner_slot source.inner_place span above h c.in_ok-visit.field-0 c.in-Leaf.version c.in-Leaf.points (c.in_ok-visit.ensures.found above h at) c.in-Leaf.is in
    let before = leaf-before span.height span.start (bag h) c.points.result.now c.parted.result.0.now c.args.time (to_z w64 (of_z w64 c.args.time)) same c.requires.inside.1 (c.points.ensures ∙ points) c.parted.ensures.before in
    c.last_of.ensures ∙ ap (λ (x : List Point). last_or None x) before

pub previous_in_place-returns-in-Inner-clause-point : goal.previous_in_place-returns-in-Inner-clause-point
previous_in_place-returns-in-Inner-clause-point g t c =
    let source = g.S.NodeSource in
    let span = c.args.span in
    let same = to_z-of_z w64 c.args.time c.ranges.time in
    on_ok_weaker c.previous_in_slots.result (λ point above h at.
    let slots = inner-found (source.IsAt (source.told c.args.state.now)) source.leaf_points source.inner_slot source.inner_place span above h c.in_ok-visit.field-0 c.in-Inner.version c.in-Inner.slots (c.in_ok-visit.ensures.found above h at) c.in-Inner.is in
    point h (slots-same source.IsAt _ _ _ _ span h c.in_ok-visit.ensures.uses.same slots) ∙ ap (λ x. last_within span.start x (bag h)) same) c.previous_in_slots.ensures.point

pub previous_in_slots-returns-in-Some-clause-point : goal.previous_in_slots-returns-in-Some-clause-point
previous_in_slots-returns-in-Some-clause-point g t c h at =
    let i = c.slots_between-i.result.1 in
    let all = c.slots_between-i.ensures in
    let part = c.slot.result in
    let same = to_z-of_z w64 c.args.time c.ranges.time in
    let is = c.slot.ensures ∙ slot-part c.args.span at.below i at.above in
    let held = held-at _ _ _ c.args.span part h i _ at all.place c.slot.ensures c.place.ensures in
    let begins : part.start <ℤ c.args.time = subst (λ x. part.start <ℤ x) same (subst (λ (u : SpanValue). u.start <ℤ to_z w64 (of_z w64 c.args.time)) (sym c.slot.ensures) all.last) in
    let found : Some c.in-Some.field-0 ≡ last_within part.start c.args.time (bag h) = sym c.in-Some.is ∙ c.in_ok-previous_in_place.ensures.point (is_inner (suc at.below) c.args.span.start) h held ∙ ap (λ x. last_within part.start x (bag h)) same in
    c.in-Some.is ∙ previous-here at.below c.args.span.start h c.args.time i part c.in-Some.field-0 is (omega (arith, ints)) found

pub previous_in_slots-returns-in-None-clause-point : goal.previous_in_slots-returns-in-None-clause-point
previous_in_slots-returns-in-None-clause-point g t c =
    let source = g.S.NodeSource in
    let i = c.slots_between-i.result.1 in
    let all = c.slots_between-i.ensures in
    let part = c.slot.result in
    let same = to_z-of_z w64 c.args.time c.ranges.time in
    let begins : part.start <ℤ c.args.time = subst (λ x. part.start <ℤ x) same (subst (λ (u : SpanValue). u.start <ℤ to_z w64 (of_z w64 c.args.time)) (sym c.slot.ensures) all.last) in
    on_ok_weaker c.last_in_slots.result (λ before h at.
    let is = c.slot.ensures ∙ slot-part c.args.span at.below i at.above in
    let held = held-at _ _ _ c.args.span part h i _ at all.place c.slot.ensures c.place.ensures in
    let missed : None ≡ last_within part.start c.args.time (bag h) = sym c.in-None.is ∙ c.in_ok-previous_in_place.ensures.point (is_inner (suc at.below) c.args.span.start) h held ∙ ap (λ x. last_within part.start x (bag h)) same in
    let rest = before h (slots-same source.IsAt _ _ _ _ c.args.span h c.in_ok-previous_in_place.ensures.uses.same at) ∙ ap (λ a. last_within c.args.span.start a (bag h)) (slot_of-start c.args.span at.below i at.above) in
    previous-before at.below c.args.span.start h c.args.time i part c.last_in_slots.new.found is (omega (arith, ints)) missed rest) c.last_in_slots.ensures.point

pub previous_in_slots-returns-in-None-clause-sound : goal.previous_in_slots-returns-in-None-clause-sound
previous_in_slots-returns-in-None-clause-sound g t c =
    IfErr-weaker c.last_in_slots.result _ _ (λ e harmless h at. harmless h (slots-same g.S.NodeSource.IsThere _ _ _ _ c.args.span h c.in_ok-previous_in_place.ensures.uses.same at)) c.last_in_slots.ensures.sound

pub previous_in_slots-returns-in-None-clause-none : goal.previous_in_slots-returns-in-None-clause-none
previous_in_slots-returns-in-None-clause-none g t c =
    let first = c.in_ok-previous_in_place.ensures.none (subst IsNone (sym c.in-None.is) refl) in
    let down = ap (λ (u : SpanValue). u.height) c.slot.ensures in
    let up = c.requires.safe.above in
    on_ok_weaker c.last_in_slots.result (λ none e. let before = (none e).0 in omega arith) c.last_in_slots.ensures.none

pub previous_in_slots-previous_in_place-requires : goal.previous_in_slots-previous_in_place-requires
previous_in_slots-previous_in_place-requires g t c κs o =
    let source = g.S.NodeSource in
    let slots = c.args.slots.now in
    let i = c.slots_between-i.result.1 in
    let all = c.slots_between-i.ensures in
    let part = c.slot.result in
    let same = to_z-of_z w64 c.args.time c.ranges.time in
    let d = c.decreases in
    let down = ap (λ (u : SpanValue). u.height) c.slot.ensures in
    let up = c.requires.safe.above in
    let safe = safe-at (source.IsSafe (source.told c.args.state.now)) source.count (source.inner_place slots) (source.inner_slot slots) c.args.span part i (source.site c.place.result) c.requires.safe all.place c.slot.ensures c.place.ensures in
    let high = subst (λ x. x ≤ℤ end_of c.args.span) (sym same) c.requires.inside.1 in
    let begins = subst (λ (u : SpanValue). u.start <ℤ to_z w64 (of_z w64 c.args.time)) (sym c.slot.ensures) all.last in
    let ends = last-reaches c.args.span c.requires.safe.below (to_z w64 (of_z w64 c.args.time)) i part up all.place high all.behind c.slot.ensures in
    (omega arith, (o.0, (o.1.0, (o.1.1.0, (o.1.1.1.0, (o.1.1.1.1.0, (o.1.1.1.1.1.0, (o.1.1.1.1.1.1, (safe, ((begins, ends), c.requires.empty))))))))))
