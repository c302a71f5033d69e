use Rattle.std.specs.Prelude.{Ok}
use Rattle.std.proofs.Common.{◌≡◌, ◌<◌, ℤ, List, refl, sym, ◌∙◌, subst, arith}
use Rattle.std.proofs.lemmas.Result.{err_from_is_err_and}
use Rattle.btr_base.specs.declared.point.Point.{Point}
use Rattle.btr_base.specs.Point.{InDomain, AreInDomain}
use Rattle.btr_base.specs.Span.{slot_of}
use Rattle.btr_base.specs.Bag.{IsInOrder, is_within, within}
use Rattle.btr_base.proofs.ListLemmas.{each-filter}
use Rattle.btr_base.proofs.WithinLemmas.{within-in_order}
use Rattle.btr_tree.specs.EachHistory.{points_in}
use Rattle.btr_tree.specs.History.{bag}
use Rattle.btr_tree.specs.Nodes.{is_inner}
use Rattle.btr_tree.specs.NodeSource.{AreSafeSlots, AreSlotsAt, IfRefused, UsesSource}
use Rattle.btr_tree.proofs.SourceLemmas.{uses-then}
use Rattle.btr_diff.proofs.Found.{found-leaf, found-inner, safe-leaf, safe-inner, refused-earlier}
use Rattle.btr_diff.proofs.Nodes.{safe-points, no-points}
use Rattle.btr_diff.proofs.Slots.{adds-as, adds-first, adds-slot, adds-passed, adds-done, slots-inner, slots-part, slots-slot, newer-next, newer-end, slot-points}
use Rattle.btr_diff.proofs.Newer.{slot-visited, slot-walked, below-sum, bounded-slot}
use Rattle.btr_diff.proofs.leaf_walk.+leaf_walk.Goals as goal

-- ---- One slot.

-- The points that are found between the bounds of a slot are in order and in the domain.
found-in_order : (x y : ℤ) (all here : List Point) → here ≡ within x y all → IsInOrder all → IsInOrder here
found-in_order x y all here e order = subst IsInOrder (sym e) (within-in_order x y all order)

found-in_domain : (x y : ℤ) (all here : List Point) → here ≡ within x y all → AreInDomain all → AreInDomain here
found-in_domain x y all here e domain = subst AreInDomain (sym e) (each-filter (λ q. InDomain q.time) (is_within x y) all domain)

pub compare_points_with_slot-compare_points-requires-clause-old_order : goal.compare_points_with_slot-compare_points-requires-clause-old_order
compare_points_with_slot-compare_points-requires-clause-old_order g t c =
    found-in_order _ _ c.args.old.now c.points_in-here.result.now c.points_in-here.ensures c.requires.old.0

pub compare_points_with_slot-compare_points-requires-clause-old_domain : goal.compare_points_with_slot-compare_points-requires-clause-old_domain
compare_points_with_slot-compare_points-requires-clause-old_domain g t c =
    found-in_domain _ _ c.args.old.now c.points_in-here.result.now c.points_in-here.ensures c.requires.old.1

pub compare_points_with_slot-compare_points-requires-in-Nothing-clause-old_order : goal.compare_points_with_slot-compare_points-requires-in-Nothing-clause-old_order
compare_points_with_slot-compare_points-requires-in-Nothing-clause-old_order g t c =
    found-in_order _ _ c.args.old.now c.points_in-here.result.now c.points_in-here.ensures c.requires.old.0

pub compare_points_with_slot-compare_points-requires-in-Nothing-clause-old_domain : goal.compare_points_with_slot-compare_points-requires-in-Nothing-clause-old_domain
compare_points_with_slot-compare_points-requires-in-Nothing-clause-old_domain g t c =
    found-in_domain _ _ c.args.old.now c.points_in-here.result.now c.points_in-here.ensures c.requires.old.1

pub compare_points_with_slot-compare_points-requires-in-Leaf-clause-old_order : goal.compare_points_with_slot-compare_points-requires-in-Leaf-clause-old_order
compare_points_with_slot-compare_points-requires-in-Leaf-clause-old_order g t c =
    found-in_order _ _ c.args.old.now c.points_in-here.result.now c.points_in-here.ensures c.requires.old.0

pub compare_points_with_slot-compare_points-requires-in-Leaf-clause-old_domain : goal.compare_points_with_slot-compare_points-requires-in-Leaf-clause-old_domain
compare_points_with_slot-compare_points-requires-in-Leaf-clause-old_domain g t c =
    found-in_domain _ _ c.args.old.now c.points_in-here.result.now c.points_in-here.ensures c.requires.old.1

pub compare_points_with_slot-compare_points-requires-in-Leaf-clause-new_domain : goal.compare_points_with_slot-compare_points-requires-in-Leaf-clause-new_domain
compare_points_with_slot-compare_points-requires-in-Leaf-clause-new_domain g t c =
    let src = g.S.NodeSource in
    let span = c.args.task.span in
    let leaf = safe-leaf src.leaf_points src.inner_slot src.inner_place span c.in-Ok.found (src.IsSafe (src.told c.args.state.now)) src.count _ c.in-Leaf.version c.in-Leaf.points c.in-Leaf.is c.in-Ok.ensures.safe in
    subst AreInDomain (sym c.points.ensures) (safe-points _ span (src.leaf_points c.in-Leaf.points) c.requires.task.1 leaf).1

pub compare_points_with_slot-returns-then-new-eq0-clause-adds : goal.compare_points_with_slot-returns-then-new-eq0-clause-adds
compare_points_with_slot-returns-then-new-eq0-clause-adds g t c h k same slot agree =
    let span = c.args.task.span in
    let none = no-points (points_in span (bag k)) (omega (arith, slot.counted, c.if-new-eq0.true)) in
    adds-as c.args.task.by c.args.changed.now c.compare_points.new.out _ _ _ _ (c.points_in-here.ensures ∙ same) (sym none) c.in_ok-compare_points.ensures

pub compare_points_with_slot-returns-in_ok-compare_points-in-Leaf-clause-adds : goal.compare_points_with_slot-returns-in_ok-compare_points-in-Leaf-clause-adds
compare_points_with_slot-returns-in_ok-compare_points-in-Leaf-clause-adds g t c h k same slot agree =
    let src = g.S.NodeSource in
    let span = c.args.task.span in
    let above = is_inner slot.above slot.begin in
    let leaf = found-leaf src.leaf_points src.inner_slot src.inner_place span c.in-Ok.found (src.IsAt (src.told c.args.state.now)) above k c.in-Leaf.version c.in-Leaf.points c.in-Leaf.is (c.in-Ok.ensures.found above k slot.holds) in
    adds-as c.args.task.by c.args.changed.now c.compare_points-in-Leaf.new.out _ _ _ _ (c.points_in-here.ensures ∙ same) (c.points.ensures ∙ leaf.same) c.in_ok-compare_points-in-Leaf.ensures

pub compare_points_with_slot-returns-in_err-compare_points-in-Leaf-clause-newer : goal.compare_points_with_slot-returns-in_err-compare_points-in-Leaf-clause-newer
compare_points_with_slot-returns-in_err-compare_points-in-Leaf-clause-newer g t c =
    let src = g.S.NodeSource in
    let counts = c.in-Ok.ensures.counts in
    slot-visited (src.IsAt (src.told c.args.state.now)) c.args.task c.args.new.version c.args.new.count (src.site c.args.new.place) c.args.steps.now c.visit.new.steps (omega (arith, c.if-new-eq0.false)) (omega (arith, c.requires.newer)) counts.never_falls counts.at_most

pub compare_points_with_slot-returns-in-Err-clause-newer : goal.compare_points_with_slot-returns-in-Err-clause-newer
compare_points_with_slot-returns-in-Err-clause-newer g t c =
    let src = g.S.NodeSource in
    let counts = c.in-Err.ensures.counts in
    slot-visited (src.IsAt (src.told c.args.state.now)) c.args.task c.args.new.version c.args.new.count (src.site c.args.new.place) c.args.steps.now c.visit.new.steps (omega (arith, c.if-new-eq0.false)) (omega (arith, c.requires.newer)) counts.never_falls counts.at_most

pub compare_points_with_slot-returns-in_ok-compare_points-in-Leaf-clause-newer : goal.compare_points_with_slot-returns-in_ok-compare_points-in-Leaf-clause-newer
compare_points_with_slot-returns-in_ok-compare_points-in-Leaf-clause-newer g t c =
    let src = g.S.NodeSource in
    let counts = c.in-Ok.ensures.counts in
    slot-visited (src.IsAt (src.told c.args.state.now)) c.args.task c.args.new.version c.args.new.count (src.site c.args.new.place) c.args.steps.now c.visit.new.steps (omega (arith, c.if-new-eq0.false)) (omega (arith, c.requires.newer)) counts.never_falls counts.at_most

pub compare_points_with_slot-compare_points_with_slots-requires : goal.compare_points_with_slot-compare_points_with_slots-requires
compare_points_with_slot-compare_points_with_slots-requires g t c κs o =
    let src = g.S.NodeSource in
    let span = c.args.task.span in
    let d = c.decreases in
    let here = c.points_in-here.ensures in
    let safe = safe-inner src.leaf_points src.inner_slot src.inner_place span c.in-Ok.found (src.IsSafe (src.told c.args.state.now)) src.count _ c.in-Inner.version c.in-Inner.slots c.in-Inner.is c.in-Ok.ensures.safe in
    let now = subst (λ t. AreSafeSlots (src.IsSafe t) src.count (src.inner_place c.in-Inner.slots) (src.inner_slot c.in-Inner.slots) span) (sym c.in-Ok.ensures.uses.same) safe.0 in
    (omega arith, (o.0, (o.1.0, (o.1.1.0, (o.1.1.1.0, (o.1.1.1.1.0, (o.1.1.1.1.1.0, (o.1.1.1.1.1.1, (c.requires.task, ((found-in_order _ _ c.args.old.now _ here c.requires.old.0, found-in_domain _ _ c.args.old.now _ here c.requires.old.1), now))))))))))

pub compare_points_with_slot-returns-in-Inner-clause-newer : goal.compare_points_with_slot-returns-in-Inner-clause-newer
compare_points_with_slot-returns-in-Inner-clause-newer g t c =
    let src = g.S.NodeSource in
    let span = c.args.task.span in
    let told = src.told c.args.state.now in
    let counts = c.in-Ok.ensures.counts in
    let below = c.compare_points_with_slots.ensures.newer in
    slot-walked (src.IsAt told) c.args.task c.args.new.version c.args.new.count (src.site c.args.new.place) c.args.steps.now c.visit.new.steps c.compare_points_with_slots.new.steps (omega (arith, c.if-new-eq0.false)) (omega (arith, c.requires.newer)) counts.never_falls counts.at_most below.never_falls (λ k slot.
    let above = is_inner slot.above slot.begin in
    let inner = found-inner src.leaf_points src.inner_slot src.inner_place span c.in-Ok.found (src.IsAt told) above k c.in-Inner.version c.in-Inner.slots c.in-Inner.is (c.in-Ok.ensures.found above k slot.holds) in
    below.bounded k (subst (λ t. AreSlotsAt (src.IsAt t) (src.inner_place c.in-Inner.slots) (src.inner_slot c.in-Inner.slots) span k) (sym c.in-Ok.ensures.uses.same) inner.inner))

-- ---- All slots.

pub compare_points_with_slots-loop-i-init : goal.compare_points_with_slots-loop-i-init
compare_points_with_slots-loop-i-init g t c =
    record {
      same = refl;
      rises = omega arith;
      adds = λ h k same slots agree.
          adds-first c.args.task.by c.args.changed.now slots.below c.args.task.span.start h k;
      bounded = λ k slots. omega arith;
      never_falls = omega arith;
    }

pub compare_points_with_slots-loop-i-preserved : goal.compare_points_with_slots-loop-i-preserved
compare_points_with_slots-loop-i-preserved g t c =
    let src = g.S.NodeSource in
    let span = c.args.task.span in
    let by = c.args.task.by in
    let told = src.told c.args.state.now in
    let at = src.told c.loop-i.state in
    let i = c.loop-i.i in
    let part = c.slot.result in
    let new = c.args.new.now in
    let slot = c.newer_slot-slot.result in
    let read = c.newer_slot-slot.ensures in
    let low : i < 64 = omega arith in
    let before = c.loop-i.invariant in
    let done = c.in_ok-compare_points_with_slot.ensures in
    let up = done.uses.rises in
    let was = before.rises in
    record {
      same = done.uses.same ∙ before.same;
      rises = omega arith;
      adds = λ h k same slots agree.
          let is = slots-part (src.IsAt told) (src.inner_place new) (src.inner_slot new) span k i part slots c.slot.ensures in
          let old = slot-points span slots.below i part h c.args.old.now slots.above low is same in
          let is_slot = slots-slot src.IsAt told at (src.inner_place new) (src.inner_slot new) span i part (src.site slot.place) before.same low c.slot.ensures read.place slot.version slot.count read.version read.count k slots in
          adds-slot by c.args.changed.now c.loop-i.changed c.compare_points_with_slot.new.changed slots.below span.start i part h k is (before.adds h k same slots agree) (done.adds h k old is_slot agree);
      bounded = λ k slots.
          newer-next src.IsAt told at (src.inner_place new) (src.inner_slot new) span i part (src.site slot.place) before.same low c.slot.ensures read.place slot.version slot.count read.version read.count by c.args.steps.now c.loop-i.steps c.compare_points_with_slot.new.steps done.newer k slots (before.bounded k slots);
      never_falls = let down = before.never_falls in
          let high = done.newer.never_falls in omega arith;
    }

pub compare_points_with_slots-loop-i-preserved-then-slot-task : goal.compare_points_with_slots-loop-i-preserved-then-slot-task
compare_points_with_slots-loop-i-preserved-then-slot-task g t c =
    let src = g.S.NodeSource in
    let span = c.args.task.span in
    let start = span.start in
    let by = c.args.task.by in
    let told = src.told c.args.state.now in
    let i = c.loop-i.i in
    let part = slot_of span i in
    let new = c.args.new.now in
    let slot = c.newer_slot-slot.result in
    let low : i < 64 = omega arith in
    let before = c.loop-i.invariant in
    let read = c.newer_slot-slot.ensures in
    let changed = c.loop-i.changed in
    record {
      same = before.same;
      rises = before.rises;
      adds = λ h k same slots agree.
          let is = slots-part (src.IsAt told) (src.inner_place new) (src.inner_slot new) span k i part slots refl in
          let here = slots-slot src.IsAt told told (src.inner_place new) (src.inner_slot new) span i part (src.site slot.place) refl low refl read.place slot.version slot.count read.version read.count k slots in
          adds-slot by c.args.changed.now changed changed slots.below start i part h k is (before.adds h k same slots agree) (adds-passed (src.IsAt told) by changed part slot.version slot.count (src.site slot.place) h k c.if-slot-task.true here agree);
      bounded = λ k slots.
          let is = slots-part (src.IsAt told) (src.inner_place new) (src.inner_slot new) span k i part slots refl in
          bounded-slot slots.below start i part k by.since c.args.steps.now c.loop-i.steps c.loop-i.steps is (before.bounded k slots) (omega arith);
      never_falls = before.never_falls;
    }

pub compare_points_with_slots-returns-clause-adds : goal.compare_points_with_slots-returns-clause-adds
compare_points_with_slots-returns-clause-adds g t c h k same slots agree =
    adds-done c.args.task.by c.args.changed.now c.loop-i.changed c.args.task.span.height slots.below c.args.task.span.start c.loop-i.i h k (omega arith) slots.above (c.loop-i.invariant.adds h k same slots agree)

pub compare_points_with_slots-returns-clause-newer : goal.compare_points_with_slots-returns-clause-newer
compare_points_with_slots-returns-clause-newer g t c =
    let src = g.S.NodeSource in
    let span = c.args.task.span in
    let new = c.args.new.now in
    record {
      bounded = λ k slots.
          let inner = slots-inner (src.IsAt (src.told c.args.state.now)) (src.inner_place new) (src.inner_slot new) span k slots in
          let all = below-sum span.height slots.below span.start k c.args.task.by.since c.loop-i.i slots.above inner (omega arith) in
          let few = c.loop-i.invariant.bounded k slots in
          omega arith;
      never_falls = c.loop-i.invariant.never_falls;
    }

pub compare_points_with_slots-returns-in_err-compare_points_with_slot-clause-newer : goal.compare_points_with_slots-returns-in_err-compare_points_with_slot-clause-newer
compare_points_with_slots-returns-in_err-compare_points_with_slot-clause-newer g t c =
    let src = g.S.NodeSource in
    let new = c.args.new.now in
    let slot = c.newer_slot-slot.result in
    let read = c.newer_slot-slot.ensures in
    let before = c.loop-i.invariant in
    newer-end src.IsAt (src.told c.args.state.now) (src.told c.loop-i.state) (src.inner_place new) (src.inner_slot new) c.args.task.span c.loop-i.i c.slot.result (src.site slot.place) before.same (omega arith) c.slot.ensures read.place slot.version slot.count read.version read.count c.args.task.by c.args.steps.now c.loop-i.steps c.compare_points_with_slot.new.steps c.compare_points_with_slot.ensures.newer before.never_falls before.bounded

pub compare_points_with_slots-returns-in_err-compare_points_with_slot-clause-uses : goal.compare_points_with_slots-returns-in_err-compare_points_with_slot-clause-uses
compare_points_with_slots-returns-in_err-compare_points_with_slot-clause-uses g t c =
    let src = g.S.NodeSource in
    let p = err_from_is_err_and c.from_residual.result c.from_residual.ensures.1 in
    let before : UsesSource {A = Unit {0}} src.told src.faults (λ u a b. IfRefused (src.IsCaused u a b)) c.args.state.now c.loop-i.state (Ok tt) = record { same = c.loop-i.invariant.same; rises = c.loop-i.invariant.rises; cause = tt } in
    rw (p.1, p.2) (uses-then src.told src.faults (λ u a b. IfRefused (src.IsCaused u a b)) (λ u a b. IfRefused (src.IsCaused u a b)) c.args.state.now c.loop-i.state c.compare_points_with_slot.new.state _ _ (refused-earlier src.IsCaused g.met.S.NodeSource.caused_earlier) before c.in_err-compare_points_with_slot.ensures.uses)
