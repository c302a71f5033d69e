use Rattle.std.specs.Prelude.{Ok}
use Rattle.std.proofs.Common.{◌≡◌, ◌+◌, ◌<◌, ◌++◌, List, refl, sym, ap, ◌∙◌, subst, arith, append-nil, append_assoc}
use Rattle.std.proofs.lemmas.Int.{ints}
use Rattle.std.proofs.lemmas.Result.{err_from_is_err_and}
use Rattle.btr_base.specs.declared.point.Point.{Point}
use Rattle.btr_base.specs.Bag.{within}
use Rattle.btr_tree.specs.History.{Past, bag}
use Rattle.btr_tree.specs.Change.{end_of}
use Rattle.btr_tree.specs.Nodes.{points_of}
use Rattle.btr_tree.specs.Shape.{slot_start}
use Rattle.btr_tree.specs.NodeSource.{AreSlotsAt, IfRefused, UsesSource}
use Rattle.btr_tree.proofs.NodeLemmas.{slot-first, prefix-none, prefix-part, prefix-done}
use Rattle.btr_tree.proofs.RangeSlotLemmas.{prefix-gap}
use Rattle.btr_tree.proofs.SourceLemmas.{place-safe, place-below, uses-then}
use Rattle.btr_diff.specs.Comparison.{AreReady}
use Rattle.btr_diff.proofs.Found.{found-leaf, safe-leaf, refused-earlier}
use Rattle.btr_diff.proofs.Nodes.{ready-later, ready-leaf, ready-slot, ready-next, ready-done, slot-in_domain}
use Rattle.btr_diff.proofs.Newer.{leaf-some, older-visited, older-slots, nodes-more}
use Rattle.btr_diff.proofs.Slots.{slots-part, slots-place, older-next, older-end}
use Rattle.btr_diff.proofs.gathering.+gathering.Goals as goal

-- ---- One place.

pub gather_place-returns-in_err-extend_from_slice-in-Leaf-clause-older : goal.gather_place-returns-in_err-extend_from_slice-in-Leaf-clause-older
gather_place-returns-in_err-extend_from_slice-in-Leaf-clause-older g t c =
    let src = g.S.NodeSource in
    let span = c.args.span in
    let told = src.told c.args.state.now in
    let counts = c.in-Ok.ensures.counts in
    older-visited (src.IsAt told) span (src.site c.args.at) c.args.older.now c.visit.new.steps _ (λ above h holds. leaf-some span above h c.in-Leaf.version (src.leaf_points c.in-Leaf.here) (found-leaf src.leaf_points src.inner_slot src.inner_place span c.in-Ok.found (src.IsAt told) above h c.in-Leaf.version c.in-Leaf.here c.in-Leaf.is (c.in-Ok.ensures.found above h holds))) counts.never_falls counts.at_most

pub gather_place-returns-in_ok-extend_from_slice-in-Leaf-clause-older : goal.gather_place-returns-in_ok-extend_from_slice-in-Leaf-clause-older
gather_place-returns-in_ok-extend_from_slice-in-Leaf-clause-older g t c =
    let src = g.S.NodeSource in
    let span = c.args.span in
    let told = src.told c.args.state.now in
    let counts = c.in-Ok.ensures.counts in
    older-visited (src.IsAt told) span (src.site c.args.at) c.args.older.now c.visit.new.steps _ (λ above h holds. leaf-some span above h c.in-Leaf.version (src.leaf_points c.in-Leaf.here) (found-leaf src.leaf_points src.inner_slot src.inner_place span c.in-Ok.found (src.IsAt told) above h c.in-Leaf.version c.in-Leaf.here c.in-Leaf.is (c.in-Ok.ensures.found above h holds))) counts.never_falls counts.at_most

pub gather_place-returns-in-Nothing-clause-ready : goal.gather_place-returns-in-Nothing-clause-ready
gather_place-returns-in-Nothing-clause-ready g t c =
    ready-later c.args.span.start (end_of c.args.span) c.args.points.now.items (omega (arith, ints)) c.requires.ready

pub gather_place-returns-in_ok-extend_from_slice-in-Leaf-clause-ready : goal.gather_place-returns-in_ok-extend_from_slice-in-Leaf-clause-ready
gather_place-returns-in_ok-extend_from_slice-in-Leaf-clause-ready g t c =
    let src = g.S.NodeSource in
    let span = c.args.span in
    let leaf = safe-leaf src.leaf_points src.inner_slot src.inner_place span c.in-Ok.found (src.IsSafe (src.told c.args.state.now)) src.count _ c.in-Leaf.version c.in-Leaf.here c.in-Leaf.is c.in-Ok.ensures.safe in
    ready-leaf _ span c.args.points.now.items (src.leaf_points c.in-Leaf.here) c.extend_from_slice.new.self.items c.requires.safe.0 c.requires.ready leaf (c.in_ok-extend_from_slice-in-Leaf.ensures.items ∙ ap (λ x. c.args.points.now.items ++ x) c.points.ensures)

-- ---- The slots of an inner node.

pub gather_slots-loop-i-init : goal.gather_slots-loop-i-init
gather_slots-loop-i-init g t c =
    let start = c.args.span.start in
    record {
      place = omega arith;
      same = refl;
      rises = omega arith;
      ready = λ below e.
          subst (λ u. AreReady u c.args.points.now.items) (sym (slot-first below start)) c.requires.ready;
      points = λ h at.
          sym (ap (λ x. c.args.points.now.items ++ x) (prefix-none at.below start h) ∙ append-nil c.args.points.now.items);
      older = λ h at. omega arith;
      never_falls = omega arith;
    }

pub gather_slots-gather_place-requires : goal.gather_slots-gather_place-requires
gather_slots-gather_place-requires g t c κs o =
    let src = g.S.NodeSource in
    let safe = c.requires.safe in
    let span = c.args.span in
    let d = c.decreases in
    let i = c.in-Some.i in
    let part = c.slot.result in
    let next = c.in-Some.ensures in
    let number : i < 64 = next.1 in
    let so_far = c.loop-i.invariant in
    let slots = src.inner_slot c.args.slots.now in
    let places = src.inner_place c.args.slots.now in
    let low = place-below (src.IsSafe (src.told c.args.state.now)) src.count places slots span part i safe c.slot.ensures in
    let here = place-safe (src.IsSafe (src.told c.args.state.now)) src.count places slots span part i safe number c.slot.ensures in
    let now = subst (λ u. src.IsSafe u (src.site c.place.result) part.height part.start) (sym so_far.same) (subst (λ s. src.IsSafe (src.told c.args.state.now) s part.height part.start) (sym c.place.ensures) here) in
    let inside = slot-in_domain span safe.below i part c.requires.inside safe.above number c.slot.ensures in
    (omega arith, (o.0, (o.1.0, (o.1.1.0, (o.1.1.1.0, (o.1.1.1.1.0, (o.1.1.1.1.1.0, (o.1.1.1.1.1.1, ((inside, now), ready-slot span safe.below c.loop-i.from i part c.loop-i.points.items safe.above c.slot.ensures next.0 (so_far.ready safe.below safe.above))))))))))

points-more : (old before here all mid new : List Point) → all ≡ before ++ here → mid ≡ old ++ before → new ≡ mid ++ here → new ≡ old ++ all
points-more old before here all mid new e p q =
    q ∙ ap (λ x. x ++ here) p ∙ append_assoc old before here ∙ sym (ap (λ x. old ++ x) e)

pub gather_slots-loop-i-preserved : goal.gather_slots-loop-i-preserved
gather_slots-loop-i-preserved g t c =
    let src = g.S.NodeSource in
    let span = c.args.span in
    let start = span.start in
    let i = c.in-Some.i in
    let part = c.slot.result in
    let next = c.in-Some.ensures in
    let number : i < 64 = next.1 in
    let so_far = c.loop-i.invariant in
    let done = c.in_ok-gather_place.ensures in
    let up = done.uses.rises in
    let was = so_far.rises in
    let slots = src.inner_slot c.args.slots.now in
    let places = src.inner_place c.args.slots.now in
    let told = src.told c.args.state.now in
    let now = src.told c.loop-i.state in
    let site = src.site c.place.result in
    record {
      place = omega arith;
      same = done.uses.same ∙ so_far.same;
      rises = omega arith;
      ready = λ below e.
          ready-next span below i part c.gather_place.new.points.items e c.slot.ensures done.ready;
      points = λ h at.
          let is = slots-part (src.IsAt told) places slots span h i part at c.slot.ensures in
          let skipped = prefix-gap at.below start h slots c.loop-i.from i at.all next.0 (omega arith) next.3 in
          let before = so_far.points h at ∙ ap (λ x. c.args.points.now.items ++ x) (sym skipped) in
          let here = slots-place src.IsAt told now places slots span i part site so_far.same number c.slot.ensures c.place.ensures h at in
          points-more c.args.points.now.items (within start (slot_start at.below start i) (bag h)) (points_of part.height part.start (bag h)) (within start (slot_start at.below start (i + 1)) (bag h)) c.loop-i.points.items c.gather_place.new.points.items (prefix-part at.below start i h part is) before (done.points here.0 h here.1);
      older = λ h at.
          let few = nodes-more at.below start c.loop-i.from i (bag h) c.args.older.now c.loop-i.older next.0 (so_far.older h at) in
          let all = older-next src.IsAt told now places slots span i part site so_far.same number c.slot.ensures c.place.ensures c.args.older.now c.loop-i.older c.gather_place.new.older _ done.older h at few in
          omega arith;
      never_falls = let low = so_far.never_falls in
          let high = done.older.never_falls in omega arith;
    }

pub gather_slots-returns-in_err-gather_place-clause-uses : goal.gather_slots-returns-in_err-gather_place-clause-uses
gather_slots-returns-in_err-gather_place-clause-uses g t c =
    let src = g.S.NodeSource in
    let p = err_from_is_err_and c.from_residual.result c.from_residual.ensures.1 in
    let before : UsesSource {A = Unit {0}} src.told src.faults (λ u a b. IfRefused (src.IsCaused u a b)) c.args.state.now c.loop-i.state (Ok tt) = record { same = c.loop-i.invariant.same; rises = c.loop-i.invariant.rises; cause = tt } in
    rw (p.1, p.2) (uses-then src.told src.faults (λ u a b. IfRefused (src.IsCaused u a b)) (λ u a b. IfRefused (src.IsCaused u a b)) c.args.state.now c.loop-i.state c.gather_place.new.state _ _ (refused-earlier src.IsCaused g.met.S.NodeSource.caused_earlier) before c.in_err-gather_place.ensures.uses)

pub gather_slots-returns-in_err-gather_place-clause-older : goal.gather_slots-returns-in_err-gather_place-clause-older
gather_slots-returns-in_err-gather_place-clause-older g t c =
    let src = g.S.NodeSource in
    let here = c.args.slots.now in
    let next = c.in-Some.ensures in
    let so_far = c.loop-i.invariant in
    let few = λ (h : Past) (at : AreSlotsAt (src.IsAt (src.told c.args.state.now)) (src.inner_place here) (src.inner_slot here) c.args.span h). nodes-more at.below c.args.span.start c.loop-i.from c.in-Some.i (bag h) c.args.older.now c.loop-i.older next.0 (so_far.older h at) in
    let p = err_from_is_err_and c.from_residual.result c.from_residual.ensures.1 in
    rw (p.1, p.2) (older-end src.IsAt (src.told c.args.state.now) (src.told c.loop-i.state) (src.inner_place here) (src.inner_slot here) c.args.span c.in-Some.i c.slot.result (src.site c.place.result) so_far.same next.1 c.slot.ensures c.place.ensures c.args.older.now c.loop-i.older c.gather_place.new.older _ c.in_err-gather_place.ensures.older so_far.never_falls few)

pub gather_slots-returns-clause-ready : goal.gather_slots-returns-clause-ready
gather_slots-returns-clause-ready g t c =
    let safe = c.requires.safe in
    ready-done c.args.span safe.below c.loop-i.from c.loop-i.points.items safe.above c.loop-i.invariant.place (c.loop-i.invariant.ready safe.below safe.above)

pub gather_slots-returns-clause-points : goal.gather_slots-returns-clause-points
gather_slots-returns-clause-points g t c h at =
    let start = c.args.span.start in
    let skipped = prefix-gap at.below start h (g.S.NodeSource.inner_slot c.args.slots.now) c.loop-i.from 64 at.all c.loop-i.invariant.place (omega arith) c.in_default.ensures in
    let done = sym skipped ∙ prefix-done c.args.span.height at.below start 64 h (omega arith) at.above in
    c.loop-i.invariant.points h at ∙ ap (λ x. c.args.points.now.items ++ x) done

pub gather_slots-returns-clause-older : goal.gather_slots-returns-clause-older
gather_slots-returns-clause-older g t c =
    let src = g.S.NodeSource in
    let so_far = c.loop-i.invariant in
    older-slots (src.IsAt (src.told c.args.state.now)) (src.inner_place c.args.slots.now) (src.inner_slot c.args.slots.now) c.args.span c.loop-i.from c.args.older.now c.loop-i.older _ so_far.place (λ h at. let few = so_far.older h at in omega arith) so_far.never_falls
