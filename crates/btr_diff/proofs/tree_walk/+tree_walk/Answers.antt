use Rattle.std.specs.Prelude.{Ok, Err}
use Rattle.std.proofs.Common.{◌<◌, refl, sym, ◌∙◌, subst, arith}
use Rattle.std.proofs.lemmas.Result.{on_ok_weaker, err_from_is_err_and}
use Rattle.btr_base.specs.Span.{slot_of}
use Rattle.btr_tree.specs.EachHistory.{points_in}
use Rattle.btr_tree.specs.History.{bag}
use Rattle.btr_tree.specs.Nodes.{is_inner}
use Rattle.btr_tree.specs.NodeSource.{AreSafeSlots, AreSlotsAt, IsFoundAt, IsSafeFound, IfRefused, UsesSource}
use Rattle.btr_tree.proofs.SourceLemmas.{place-safe, place-below, uses-then}
use Rattle.btr_diff.specs.Comparison.{ArePoints, CountsOlder, IsPlace, AreSlotsOf}
use Rattle.btr_diff.proofs.Found.{found-nothing, found-leaf, found-inner, safe-leaf, safe-inner, refused-weaker, refused-earlier}
use Rattle.btr_diff.proofs.Nodes.{safe-points, no-points, slot-in_domain}
use Rattle.btr_diff.proofs.Slots.{adds-first, adds-slot, adds-passed, adds-done, slots-inner, slots-part, slots-place, slots-slot, older-next, older-end, newer-next, newer-end}
use Rattle.btr_diff.proofs.Newer.{leaf-some, slot-visited, slot-walked, below-sum, bounded-slot, older-visited, older-inner, older-slots, nodes-slot}
use Rattle.btr_diff.proofs.tree_walk.+tree_walk.Goals as goal

-- ---- What was found of the newer tree.

pub compare_found-compare_with_points-requires-in-Leaf-clause-new : goal.compare_found-compare_with_points-requires-in-Leaf-clause-new
compare_found-compare_with_points-requires-in-Leaf-clause-new g t c =
    let src = g.S.NodeSource in
    let span = c.args.task.span in
    let leaf = safe-leaf src.leaf_points src.inner_slot src.inner_place span c.args.new (src.IsSafe (src.told c.args.state.now)) src.count _ c.in-Leaf.version c.in-Leaf.points c.in-Leaf.is c.requires.new.1 in
    subst ArePoints (sym c.points.ensures) (safe-points _ span (src.leaf_points c.in-Leaf.points) c.requires.task.1 leaf)

pub compare_found-compare_with_slots-requires : goal.compare_found-compare_with_slots-requires
compare_found-compare_with_slots-requires g t c κs o =
    let src = g.S.NodeSource in
    let span = c.args.task.span in
    let d = c.decreases in
    let safe = safe-inner src.leaf_points src.inner_slot src.inner_place span c.args.new (src.IsSafe (src.told c.args.state.now)) src.count _ c.in-Inner.version c.in-Inner.slots c.in-Inner.is c.requires.new.1 in
    (omega arith, (o.0, (o.1.0, (o.1.1.0, (o.1.1.1.0, (o.1.1.1.1.0, (o.1.1.1.1.1.0, (o.1.1.1.1.1.1.0, (o.1.1.1.1.1.1.1, (c.requires.task, (c.requires.old, safe.0)))))))))))

pub compare_found-returns-in-Nothing-clause-adds : goal.compare_found-returns-in-Nothing-clause-adds
compare_found-returns-in-Nothing-clause-adds g t c =
    let src = g.S.NodeSource in
    let span = c.args.task.span in
    on_ok_weaker c.compare_with_points.result (λ e h k was is agree.
    e h k was (sym (found-nothing src.leaf_points src.inner_slot src.inner_place span c.args.new (src.IsAt (src.told c.args.state.now)) is.0 k c.in-Nothing.is is.1)) agree) c.compare_with_points.ensures.adds

pub compare_found-returns-in-Nothing-clause-sound : goal.compare_found-returns-in-Nothing-clause-sound
compare_found-returns-in-Nothing-clause-sound g t c =
    let src = g.S.NodeSource in
    let span = c.args.task.span in
    refused-weaker _ _ c.compare_with_points.result (λ e f h k was is.
    f h k was (sym (found-nothing src.leaf_points src.inner_slot src.inner_place span c.args.new (src.IsThere (src.told c.args.state.now)) is.0 k c.in-Nothing.is is.1))) c.compare_with_points.ensures.sound

pub compare_found-returns-in-Leaf-clause-adds : goal.compare_found-returns-in-Leaf-clause-adds
compare_found-returns-in-Leaf-clause-adds g t c =
    let src = g.S.NodeSource in
    let span = c.args.task.span in
    on_ok_weaker c.compare_with_points-in-Leaf.result (λ e h k was is agree.
    e h k was (c.points.ensures ∙ (found-leaf src.leaf_points src.inner_slot src.inner_place span c.args.new (src.IsAt (src.told c.args.state.now)) is.0 k c.in-Leaf.version c.in-Leaf.points c.in-Leaf.is is.1).same) agree) c.compare_with_points-in-Leaf.ensures.adds

pub compare_found-returns-in-Leaf-clause-sound : goal.compare_found-returns-in-Leaf-clause-sound
compare_found-returns-in-Leaf-clause-sound g t c =
    let src = g.S.NodeSource in
    let span = c.args.task.span in
    refused-weaker _ _ c.compare_with_points-in-Leaf.result (λ e f h k was is.
    f h k was (c.points.ensures ∙ (found-leaf src.leaf_points src.inner_slot src.inner_place span c.args.new (src.IsThere (src.told c.args.state.now)) is.0 k c.in-Leaf.version c.in-Leaf.points c.in-Leaf.is is.1).same)) c.compare_with_points-in-Leaf.ensures.sound

pub compare_found-returns-in-Inner-clause-adds : goal.compare_found-returns-in-Inner-clause-adds
compare_found-returns-in-Inner-clause-adds g t c =
    let src = g.S.NodeSource in
    let span = c.args.task.span in
    on_ok_weaker c.compare_with_slots.result (λ e h k was is agree.
    e h k was (found-inner src.leaf_points src.inner_slot src.inner_place span c.args.new (src.IsAt (src.told c.args.state.now)) is.0 k c.in-Inner.version c.in-Inner.slots c.in-Inner.is is.1).inner agree) c.compare_with_slots.ensures.adds

pub compare_found-returns-in-Inner-clause-sound : goal.compare_found-returns-in-Inner-clause-sound
compare_found-returns-in-Inner-clause-sound g t c =
    let src = g.S.NodeSource in
    let span = c.args.task.span in
    refused-weaker _ _ c.compare_with_slots.result (λ e f h k was is.
    f h k was (found-inner src.leaf_points src.inner_slot src.inner_place span c.args.new (src.IsThere (src.told c.args.state.now)) is.0 k c.in-Inner.version c.in-Inner.slots c.in-Inner.is is.1).inner) c.compare_with_slots.ensures.sound

pub compare_found-returns-in-Inner-clause-newer : goal.compare_found-returns-in-Inner-clause-newer
compare_found-returns-in-Inner-clause-newer g t c =
    let src = g.S.NodeSource in
    let span = c.args.task.span in
    let below = c.compare_with_slots.ensures.newer in
    record {
      bounded = λ k is.
          below.bounded k (found-inner src.leaf_points src.inner_slot src.inner_place span c.args.new (src.IsAt (src.told c.args.state.now)) is.0 k c.in-Inner.version c.in-Inner.slots c.in-Inner.is is.1).inner;
      never_falls = below.never_falls;
    }

-- ---- What the older tree has there.

pub compare_with_slots-compare_points_with_slots-requires-in-Leaf-clause-old : goal.compare_with_slots-compare_points_with_slots-requires-in-Leaf-clause-old
compare_with_slots-compare_points_with_slots-requires-in-Leaf-clause-old g t c =
    let src = g.S.NodeSource in
    let span = c.args.task.span in
    let leaf = safe-leaf src.leaf_points src.inner_slot src.inner_place span c.in-Ok.found (src.IsSafe (src.told c.args.state.now)) src.count _ c.in-Leaf.version c.in-Leaf.points c.in-Leaf.is c.in-Ok.ensures.safe in
    subst ArePoints (sym c.points-here.ensures) (safe-points _ span (src.leaf_points c.in-Leaf.points) c.requires.task.1 leaf)

pub compare_with_slots-compare_slots-requires : goal.compare_with_slots-compare_slots-requires
compare_with_slots-compare_slots-requires g t c κs o =
    let src = g.S.NodeSource in
    let span = c.args.task.span in
    let d = c.decreases in
    let back = c.in-Ok.ensures.uses.same in
    let safe = safe-inner src.leaf_points src.inner_slot src.inner_place span c.in-Ok.found (src.IsSafe (src.told c.args.state.now)) src.count _ c.in-Inner.version c.in-Inner.slots c.in-Inner.is c.in-Ok.ensures.safe in
    let old = subst (λ u. AreSafeSlots (src.IsSafe u) src.count (src.inner_place c.in-Inner.slots) (src.inner_slot c.in-Inner.slots) span) (sym back) safe.0 in
    let new = subst (λ u. AreSafeSlots (src.IsSafe u) src.count (src.inner_place c.args.new.now) (src.inner_slot c.args.new.now) span) (sym back) c.requires.new in
    (omega arith, (o.0, (o.1.0, (o.1.1.0, (o.1.1.1.0, (o.1.1.1.1.0, (o.1.1.1.1.1.0, (o.1.1.1.1.1.1.0, (o.1.1.1.1.1.1.1, (c.requires.task, (old, new)))))))))))

pub compare_with_slots-returns-in-Nothing-clause-adds : goal.compare_with_slots-returns-in-Nothing-clause-adds
compare_with_slots-returns-in-Nothing-clause-adds g t c =
    let src = g.S.NodeSource in
    let span = c.args.task.span in
    let told = src.told c.args.state.now in
    let back = c.in-Ok.ensures.uses.same in
    on_ok_weaker c.compare_points_with_slots.result (λ e h k was slots agree.
    e h k (sym (found-nothing src.leaf_points src.inner_slot src.inner_place span c.in-Ok.found (src.IsAt told) was.0 h c.in-Nothing.is (c.in-Ok.ensures.found was.0 h was.1))) (subst (λ u. AreSlotsAt (src.IsAt u) (src.inner_place c.args.new.now) (src.inner_slot c.args.new.now) span k) (sym back) slots) agree) c.compare_points_with_slots.ensures.adds

pub compare_with_slots-returns-in-Nothing-clause-sound : goal.compare_with_slots-returns-in-Nothing-clause-sound
compare_with_slots-returns-in-Nothing-clause-sound g t c =
    let src = g.S.NodeSource in
    let span = c.args.task.span in
    let told = src.told c.args.state.now in
    let back = c.in-Ok.ensures.uses.same in
    refused-weaker _ _ c.compare_points_with_slots.result (λ e f h k was slots.
    f k (subst (λ u. AreSlotsAt (src.IsThere u) (src.inner_place c.args.new.now) (src.inner_slot c.args.new.now) span k) (sym back) slots)) c.compare_points_with_slots.ensures.sound

pub compare_with_slots-returns-in-Nothing-clause-newer : goal.compare_with_slots-returns-in-Nothing-clause-newer
compare_with_slots-returns-in-Nothing-clause-newer g t c =
    let src = g.S.NodeSource in
    let span = c.args.task.span in
    let told = src.told c.args.state.now in
    let back = c.in-Ok.ensures.uses.same in
    let below = c.compare_points_with_slots.ensures.newer in
    record {
      bounded = λ k slots. below.bounded k (subst (λ u. AreSlotsAt (src.IsAt u) (src.inner_place c.args.new.now) (src.inner_slot c.args.new.now) span k) (sym back) slots);
      never_falls = below.never_falls;
    }

pub compare_with_slots-returns-in-Leaf-clause-adds : goal.compare_with_slots-returns-in-Leaf-clause-adds
compare_with_slots-returns-in-Leaf-clause-adds g t c =
    let src = g.S.NodeSource in
    let span = c.args.task.span in
    let told = src.told c.args.state.now in
    let back = c.in-Ok.ensures.uses.same in
    on_ok_weaker c.compare_points_with_slots-in-Leaf.result (λ e h k was slots agree.
    e h k (c.points-here.ensures ∙ (found-leaf src.leaf_points src.inner_slot src.inner_place span c.in-Ok.found (src.IsAt told) was.0 h c.in-Leaf.version c.in-Leaf.points c.in-Leaf.is (c.in-Ok.ensures.found was.0 h was.1)).same) (subst (λ u. AreSlotsAt (src.IsAt u) (src.inner_place c.args.new.now) (src.inner_slot c.args.new.now) span k) (sym back) slots) agree) c.compare_points_with_slots-in-Leaf.ensures.adds

pub compare_with_slots-returns-in-Leaf-clause-sound : goal.compare_with_slots-returns-in-Leaf-clause-sound
compare_with_slots-returns-in-Leaf-clause-sound g t c =
    let src = g.S.NodeSource in
    let span = c.args.task.span in
    let told = src.told c.args.state.now in
    let back = c.in-Ok.ensures.uses.same in
    refused-weaker _ _ c.compare_points_with_slots-in-Leaf.result (λ e f h k was slots.
    f k (subst (λ u. AreSlotsAt (src.IsThere u) (src.inner_place c.args.new.now) (src.inner_slot c.args.new.now) span k) (sym back) slots)) c.compare_points_with_slots-in-Leaf.ensures.sound

pub compare_with_slots-returns-in-Leaf-clause-newer : goal.compare_with_slots-returns-in-Leaf-clause-newer
compare_with_slots-returns-in-Leaf-clause-newer g t c =
    let src = g.S.NodeSource in
    let span = c.args.task.span in
    let told = src.told c.args.state.now in
    let back = c.in-Ok.ensures.uses.same in
    let below = c.compare_points_with_slots-in-Leaf.ensures.newer in
    record {
      bounded = λ k slots. below.bounded k (subst (λ u. AreSlotsAt (src.IsAt u) (src.inner_place c.args.new.now) (src.inner_slot c.args.new.now) span k) (sym back) slots);
      never_falls = below.never_falls;
    }

pub compare_with_slots-returns-in-Inner-clause-adds : goal.compare_with_slots-returns-in-Inner-clause-adds
compare_with_slots-returns-in-Inner-clause-adds g t c =
    let src = g.S.NodeSource in
    let span = c.args.task.span in
    let told = src.told c.args.state.now in
    let back = c.in-Ok.ensures.uses.same in
    on_ok_weaker c.compare_slots.result (λ e h k was slots agree.
    e h k (subst (λ u. AreSlotsAt (src.IsAt u) (src.inner_place c.in-Inner.slots) (src.inner_slot c.in-Inner.slots) span h) (sym back) (found-inner src.leaf_points src.inner_slot src.inner_place span c.in-Ok.found (src.IsAt told) was.0 h c.in-Inner.version c.in-Inner.slots c.in-Inner.is (c.in-Ok.ensures.found was.0 h was.1)).inner) (subst (λ u. AreSlotsAt (src.IsAt u) (src.inner_place c.args.new.now) (src.inner_slot c.args.new.now) span k) (sym back) slots) agree) c.compare_slots.ensures.adds

pub compare_with_slots-returns-in-Inner-clause-sound : goal.compare_with_slots-returns-in-Inner-clause-sound
compare_with_slots-returns-in-Inner-clause-sound g t c =
    let src = g.S.NodeSource in
    let span = c.args.task.span in
    let told = src.told c.args.state.now in
    let back = c.in-Ok.ensures.uses.same in
    refused-weaker _ _ c.compare_slots.result (λ e f h k was slots.
    f h k (subst (λ u. AreSlotsAt (src.IsThere u) (src.inner_place c.in-Inner.slots) (src.inner_slot c.in-Inner.slots) span h) (sym back) (found-inner src.leaf_points src.inner_slot src.inner_place span c.in-Ok.found (src.IsThere told) was.0 h c.in-Inner.version c.in-Inner.slots c.in-Inner.is (c.in-Ok.ensures.there was.0 h was.1)).inner) (subst (λ u. AreSlotsAt (src.IsThere u) (src.inner_place c.args.new.now) (src.inner_slot c.args.new.now) span k) (sym back) slots)) c.compare_slots.ensures.sound

pub compare_with_slots-returns-in-Inner-clause-newer : goal.compare_with_slots-returns-in-Inner-clause-newer
compare_with_slots-returns-in-Inner-clause-newer g t c =
    let src = g.S.NodeSource in
    let span = c.args.task.span in
    let told = src.told c.args.state.now in
    let back = c.in-Ok.ensures.uses.same in
    let below = c.compare_slots.ensures.newer in
    record {
      bounded = λ k slots. below.bounded k (subst (λ u. AreSlotsAt (src.IsAt u) (src.inner_place c.args.new.now) (src.inner_slot c.args.new.now) span k) (sym back) slots);
      never_falls = below.never_falls;
    }

pub compare_with_slots-returns-in-Leaf-clause-older : goal.compare_with_slots-returns-in-Leaf-clause-older
compare_with_slots-returns-in-Leaf-clause-older g t c =
    let src = g.S.NodeSource in
    let span = c.args.task.span in
    let told = src.told c.args.state.now in
    let counts = c.in-Ok.ensures.counts in
    older-visited (src.IsAt told) span (src.site c.args.old) c.args.findings.now.older c.visit.new.steps _ (λ above h holds. leaf-some span above h c.in-Leaf.version (src.leaf_points c.in-Leaf.points) (found-leaf src.leaf_points src.inner_slot src.inner_place span c.in-Ok.found (src.IsAt told) above h c.in-Leaf.version c.in-Leaf.points c.in-Leaf.is (c.in-Ok.ensures.found above h holds))) counts.never_falls counts.at_most

pub compare_with_slots-returns-in-Inner-clause-older : goal.compare_with_slots-returns-in-Inner-clause-older
compare_with_slots-returns-in-Inner-clause-older g t c =
    let src = g.S.NodeSource in
    let span = c.args.task.span in
    let told = src.told c.args.state.now in
    let back = c.in-Ok.ensures.uses.same in
    let counts = c.in-Ok.ensures.counts in
    let places = src.inner_place c.in-Inner.slots in
    let slots = src.inner_slot c.in-Inner.slots in
    let below = subst (λ u. CountsOlder 1 span (src.IsAt u) (AreSlotsOf places slots) c.visit.new.steps c.compare_slots.new.findings.older c.compare_slots.result) back c.compare_slots.ensures.older in
    older-inner (src.IsAt told) places slots span (src.site c.args.old) c.args.findings.now.older c.visit.new.steps c.compare_slots.new.findings.older c.compare_slots.result (λ above h holds. (found-inner src.leaf_points src.inner_slot src.inner_place span c.in-Ok.found (src.IsAt told) above h c.in-Inner.version c.in-Inner.slots c.in-Inner.is (c.in-Ok.ensures.found above h holds)).inner) counts.never_falls counts.at_most below

-- ---- One slot.

pub compare_slot-returns-then-new-eq0-clause-adds : goal.compare_slot-returns-then-new-eq0-clause-adds
compare_slot-returns-then-new-eq0-clause-adds g t c =
    let span = c.args.task.span in
    on_ok_weaker c.compare_with_points.result (λ e h k was slot agree.
    e h k was (sym (no-points (points_in span (bag k)) (omega (arith, slot.counted, c.if-new-eq0.true)))) agree) c.compare_with_points.ensures.adds

pub compare_slot-returns-then-new-eq0-clause-sound : goal.compare_slot-returns-then-new-eq0-clause-sound
compare_slot-returns-then-new-eq0-clause-sound g t c =
    let span = c.args.task.span in
    refused-weaker _ _ c.compare_with_points.result (λ e f h k was slot.
    f h k was (sym (no-points (points_in span (bag k)) (omega (arith, slot.counted, c.if-new-eq0.true))))) c.compare_with_points.ensures.sound

pub compare_slot-returns-in-Err-clause-newer : goal.compare_slot-returns-in-Err-clause-newer
compare_slot-returns-in-Err-clause-newer g t c =
    let src = g.S.NodeSource in
    let counts = c.in-Err.ensures.counts in
    slot-visited (src.IsAt (src.told c.args.state.now)) c.args.task c.args.new.version c.args.new.count (src.site c.args.new.place) c.args.steps.now c.visit.new.steps (omega (arith, c.if-new-eq0.false)) (omega (arith, c.requires.new.newer)) counts.never_falls counts.at_most

pub compare_slot-compare_found-requires : goal.compare_slot-compare_found-requires
compare_slot-compare_found-requires g t c κs o =
    let src = g.S.NodeSource in
    let span = c.args.task.span in
    let d = c.decreases in
    let back = c.in-Ok.ensures.uses.same in
    let old = subst (λ u. src.IsSafe u (src.site c.args.old) span.height span.start) (sym back) c.requires.old in
    let new = subst (λ u. IsSafeFound (src.IsSafe u) src.count src.leaf_points src.inner_slot src.inner_place (src.count (src.site c.args.new.place)) span c.in-Ok.found) (sym back) c.in-Ok.ensures.safe in
    (omega arith, (o.0, (o.1.0, (o.1.1.0, (o.1.1.1.0, (o.1.1.1.1.0, (o.1.1.1.1.1.0, (o.1.1.1.1.1.1.0, (o.1.1.1.1.1.1.1, (c.requires.task, (old, (_, new))))))))))))

pub compare_slot-returns-in-Ok-clause-adds : goal.compare_slot-returns-in-Ok-clause-adds
compare_slot-returns-in-Ok-clause-adds g t c =
    let src = g.S.NodeSource in
    let span = c.args.task.span in
    let told = src.told c.args.state.now in
    let back = c.in-Ok.ensures.uses.same in
    on_ok_weaker c.compare_found.result (λ e h k was slot agree.
    e h k (subst (λ u. IsPlace (src.site c.args.old) (src.IsAt u) span h) (sym back) was) (is_inner slot.above slot.begin, subst (λ u. IsFoundAt (src.IsAt u) src.leaf_points src.inner_slot src.inner_place span (is_inner slot.above slot.begin) k c.in-Ok.found) (sym back) (c.in-Ok.ensures.found (is_inner slot.above slot.begin) k slot.holds)) agree) c.compare_found.ensures.adds

pub compare_slot-returns-in-Ok-clause-sound : goal.compare_slot-returns-in-Ok-clause-sound
compare_slot-returns-in-Ok-clause-sound g t c =
    let src = g.S.NodeSource in
    let span = c.args.task.span in
    let told = src.told c.args.state.now in
    let back = c.in-Ok.ensures.uses.same in
    refused-weaker _ _ c.compare_found.result (λ e f h k was slot.
    f h k (subst (λ u. IsPlace (src.site c.args.old) (src.IsThere u) span h) (sym back) was) (is_inner slot.above slot.begin, subst (λ u. IsFoundAt (src.IsThere u) src.leaf_points src.inner_slot src.inner_place span (is_inner slot.above slot.begin) k c.in-Ok.found) (sym back) (c.in-Ok.ensures.there (is_inner slot.above slot.begin) k slot.holds))) c.compare_found.ensures.sound

pub compare_slot-returns-in-Ok-clause-newer : goal.compare_slot-returns-in-Ok-clause-newer
compare_slot-returns-in-Ok-clause-newer g t c =
    let src = g.S.NodeSource in
    let span = c.args.task.span in
    let told = src.told c.args.state.now in
    let back = c.in-Ok.ensures.uses.same in
    let counts = c.in-Ok.ensures.counts in
    let below = c.compare_found.ensures.newer in
    slot-walked (src.IsAt told) c.args.task c.args.new.version c.args.new.count (src.site c.args.new.place) c.args.steps.now c.visit.new.steps c.compare_found.new.steps (omega (arith, c.if-new-eq0.false)) (omega (arith, c.requires.new.newer)) counts.never_falls counts.at_most below.never_falls (λ k slot. below.bounded k (is_inner slot.above slot.begin, subst (λ u. IsFoundAt (src.IsAt u) src.leaf_points src.inner_slot src.inner_place span (is_inner slot.above slot.begin) k c.in-Ok.found) (sym back) (c.in-Ok.ensures.found (is_inner slot.above slot.begin) k slot.holds)))

pub compare_slot-returns-in-Ok-clause-older : goal.compare_slot-returns-in-Ok-clause-older
compare_slot-returns-in-Ok-clause-older g t c =
    let src = g.S.NodeSource in
    let span = c.args.task.span in
    let told = src.told c.args.state.now in
    let back = c.in-Ok.ensures.uses.same in
    subst (λ u. CountsOlder 0 span (src.IsAt u) (IsPlace (src.site c.args.old)) c.args.findings.now.older c.compare_found.new.findings.older c.compare_found.result) back c.compare_found.ensures.older

-- ---- All slots.

pub compare_slots-loop-i-init : goal.compare_slots-loop-i-init
compare_slots-loop-i-init g t c =
    record {
      same = refl;
      rises = omega arith;
      adds = λ h k was slots agree.
          adds-first c.args.task.by c.args.findings.now.changed slots.below c.args.task.span.start h k;
      newer = λ k slots. omega arith;
      older = λ h slots. omega arith;
      newer_never_falls = omega arith;
      older_never_falls = omega arith;
    }

pub compare_slots-slot-requires : goal.compare_slots-slot-requires
compare_slots-slot-requires g t c =
    let high = c.requires.old.above in
    record { height = omega arith; place = omega arith }

pub compare_slots-compare_slot-requires : goal.compare_slots-compare_slot-requires
compare_slots-compare_slot-requires g t c κs o =
    let src = g.S.NodeSource in
    let span = c.args.task.span in
    let d = c.decreases in
    let i = c.loop-i.i in
    let part = c.slot.result in
    let told = src.told c.args.state.now in
    let old = c.args.old.now in
    let new = c.args.new.now in
    let number : i < 64 = omega arith in
    let same = c.loop-i.invariant.same in
    let low = place-below (src.IsSafe told) src.count (src.inner_place old) (src.inner_slot old) span part i c.requires.old c.slot.ensures in
    let first = place-safe (src.IsSafe told) src.count (src.inner_place old) (src.inner_slot old) span part i c.requires.old number c.slot.ensures in
    let second = place-safe (src.IsSafe told) src.count (src.inner_place new) (src.inner_slot new) span part i c.requires.new number c.slot.ensures in
    let before = subst (λ u. src.IsSafe u (src.site c.place-place.result) part.height part.start) (sym same) (subst (λ s. src.IsSafe told s part.height part.start) (sym c.place-place.ensures) first) in
    let here = subst (λ u. src.IsSafe u (src.site c.newer_slot-slot.result.place) part.height part.start) (sym same) (subst (λ s. src.IsSafe told s part.height part.start) (sym c.newer_slot-slot.ensures.place) second) in
    let inside = slot-in_domain span c.requires.old.below i part c.requires.task.1 c.requires.old.above number c.slot.ensures in
    (omega arith, (o.0, (o.1.0, (o.1.1.0, (o.1.1.1.0, (o.1.1.1.1.0, (o.1.1.1.1.1.0, (o.1.1.1.1.1.1.0, (o.1.1.1.1.1.1.1, ((c.requires.task.0, inside), (before, record { safe = here; newer = omega (arith, c.if-slot-task.false) })))))))))))

pub compare_slots-loop-i-preserved : goal.compare_slots-loop-i-preserved
compare_slots-loop-i-preserved g t c =
    let src = g.S.NodeSource in
    let span = c.args.task.span in
    let by = c.args.task.by in
    let told = src.told c.args.state.now in
    let at = src.told c.loop-i.state in
    let i = c.loop-i.i in
    let part = c.slot.result in
    let is_part = c.slot.ensures in
    let place = src.site c.place-place.result in
    let slot = c.newer_slot-slot.result in
    let read = c.newer_slot-slot.ensures in
    let old = c.args.old.now in
    let new = c.args.new.now in
    let low : i < 64 = omega arith in
    let before = c.loop-i.invariant in
    let done = c.in_ok-compare_slot.ensures in
    let up = done.uses.rises in
    let was_risen = before.rises in
    record {
      same = done.uses.same ∙ before.same;
      rises = omega arith;
      adds = λ h k was slots agree.
          let is = slots-part (src.IsAt told) (src.inner_place new) (src.inner_slot new) span k i part slots is_part in
          let is_old = slots-place src.IsAt told at (src.inner_place old) (src.inner_slot old) span i part place before.same low is_part c.place-place.ensures h was in
          let is_slot = slots-slot src.IsAt told at (src.inner_place new) (src.inner_slot new) span i part (src.site slot.place) before.same low is_part read.place slot.version slot.count read.version read.count k slots in
          adds-slot by c.args.findings.now.changed c.loop-i.findings.changed c.compare_slot.new.findings.changed slots.below span.start i part h k is (before.adds h k was slots agree) (done.adds h k is_old is_slot agree);
      newer = λ k slots.
          newer-next src.IsAt told at (src.inner_place new) (src.inner_slot new) span i part (src.site slot.place) before.same low is_part read.place slot.version slot.count read.version read.count by c.args.steps.now c.loop-i.steps c.compare_slot.new.steps done.newer k slots (before.newer k slots);
      older = λ h slots.
          let all = older-next src.IsAt told at (src.inner_place old) (src.inner_slot old) span i part place before.same low is_part c.place-place.ensures c.args.findings.now.older c.loop-i.findings.older c.compare_slot.new.findings.older _ done.older h slots (before.older h slots) in
          omega arith;
      newer_never_falls = let down = before.newer_never_falls in
          let high = done.newer.never_falls in omega arith;
      older_never_falls = let down = before.older_never_falls in
          let high = done.older.never_falls in omega arith;
    }

pub compare_slots-loop-i-preserved-then-slot-task : goal.compare_slots-loop-i-preserved-then-slot-task
compare_slots-loop-i-preserved-then-slot-task g t c =
    let src = g.S.NodeSource in
    let span = c.args.task.span in
    let start = span.start in
    let by = c.args.task.by in
    let told = src.told c.args.state.now in
    let i = c.loop-i.i in
    let part = slot_of span i in
    let old = c.args.old.now in
    let new = c.args.new.now in
    let slot = c.newer_slot-slot.result in
    let low : i < 64 = omega arith in
    let before = c.loop-i.invariant in
    let read = c.newer_slot-slot.ensures in
    let changed = c.loop-i.findings.changed in
    record {
      same = before.same;
      rises = before.rises;
      adds = λ h k was slots agree.
          let is = slots-part (src.IsAt told) (src.inner_place new) (src.inner_slot new) span k i part slots refl in
          let here = slots-slot src.IsAt told told (src.inner_place new) (src.inner_slot new) span i part (src.site slot.place) refl low refl read.place slot.version slot.count read.version read.count k slots in
          adds-slot by c.args.findings.now.changed changed changed slots.below start i part h k is (before.adds h k was slots agree) (adds-passed (src.IsAt told) by changed part slot.version slot.count (src.site slot.place) h k c.if-slot-task.true here agree);
      newer = λ k slots.
          let is = slots-part (src.IsAt told) (src.inner_place new) (src.inner_slot new) span k i part slots refl in
          bounded-slot slots.below start i part k by.since c.args.steps.now c.loop-i.steps c.loop-i.steps is (before.newer k slots) (omega arith);
      older = λ h slots.
          let is = slots-part (src.IsAt told) (src.inner_place old) (src.inner_slot old) span h i part slots refl in
          let all = nodes-slot slots.below start i part (bag h) c.args.findings.now.older c.loop-i.findings.older c.loop-i.findings.older 0 is (before.older h slots) (omega arith) in
          omega arith;
      newer_never_falls = before.newer_never_falls;
      older_never_falls = before.older_never_falls;
    }

pub compare_slots-returns-clause-adds : goal.compare_slots-returns-clause-adds
compare_slots-returns-clause-adds g t c h k was slots agree =
    let by = c.args.task.by in
    adds-done by c.args.findings.now.changed c.loop-i.findings.changed c.args.task.span.height slots.below c.args.task.span.start c.loop-i.i h k (omega arith) slots.above (c.loop-i.invariant.adds h k was slots agree)

pub compare_slots-returns-clause-newer : goal.compare_slots-returns-clause-newer
compare_slots-returns-clause-newer g t c =
    let src = g.S.NodeSource in
    let span = c.args.task.span in
    let new = c.args.new.now in
    record {
      bounded = λ k slots.
          let inner = slots-inner (src.IsAt (src.told c.args.state.now)) (src.inner_place new) (src.inner_slot new) span k slots in
          let all = below-sum span.height slots.below span.start k c.args.task.by.since c.loop-i.i slots.above inner (omega arith) in
          let few = c.loop-i.invariant.newer k slots in
          omega arith;
      never_falls = c.loop-i.invariant.newer_never_falls;
    }

pub compare_slots-returns-clause-older : goal.compare_slots-returns-clause-older
compare_slots-returns-clause-older g t c =
    let src = g.S.NodeSource in
    let so_far = c.loop-i.invariant in
    older-slots (src.IsAt (src.told c.args.state.now)) (src.inner_place c.args.old.now) (src.inner_slot c.args.old.now) c.args.task.span c.loop-i.i c.args.findings.now.older c.loop-i.findings.older _ (omega arith) (λ h slots. let few = so_far.older h slots in omega arith) so_far.older_never_falls

pub compare_slots-returns-in_err-compare_slot-clause-sound : goal.compare_slots-returns-in_err-compare_slot-clause-sound
compare_slots-returns-in_err-compare_slot-clause-sound g t c =
    let src = g.S.NodeSource in
    let told = src.told c.args.state.now in
    let at = src.told c.loop-i.state in
    let same = c.loop-i.invariant.same in
    let slot = c.newer_slot-slot.result in
    let read = c.newer_slot-slot.ensures in
    let is_old = slots-place src.IsThere told at (src.inner_place c.args.old.now) (src.inner_slot c.args.old.now) c.args.task.span c.loop-i.i c.slot.result (src.site c.place-place.result) same (omega arith) c.slot.ensures c.place-place.ensures in
    let is_slot = slots-slot src.IsThere told at (src.inner_place c.args.new.now) (src.inner_slot c.args.new.now) c.args.task.span c.loop-i.i c.slot.result (src.site slot.place) same (omega arith) c.slot.ensures read.place slot.version slot.count read.version read.count in
    let p = err_from_is_err_and c.from_residual.result c.from_residual.ensures.1 in
    rw (p.1, p.2) (refused-weaker {A = Unit {0}} _ _ (Err c.in_err-compare_slot.field-0.0) (λ e f h k was slots. f h k (is_old h was) (is_slot k slots)) c.in_err-compare_slot.ensures.sound)

pub compare_slots-returns-in_err-compare_slot-clause-uses : goal.compare_slots-returns-in_err-compare_slot-clause-uses
compare_slots-returns-in_err-compare_slot-clause-uses g t c =
    let src = g.S.NodeSource in
    let p = err_from_is_err_and c.from_residual.result c.from_residual.ensures.1 in
    let before : UsesSource {A = Unit {0}} src.told src.faults (λ u a b. IfRefused (src.IsCaused u a b)) c.args.state.now c.loop-i.state (Ok tt) = record { same = c.loop-i.invariant.same; rises = c.loop-i.invariant.rises; cause = tt } in
    rw (p.1, p.2) (uses-then src.told src.faults (λ u a b. IfRefused (src.IsCaused u a b)) (λ u a b. IfRefused (src.IsCaused u a b)) c.args.state.now c.loop-i.state c.compare_slot.new.state _ _ (refused-earlier src.IsCaused g.met.S.NodeSource.caused_earlier) before c.in_err-compare_slot.ensures.uses)

pub compare_slots-returns-in_err-compare_slot-clause-newer : goal.compare_slots-returns-in_err-compare_slot-clause-newer
compare_slots-returns-in_err-compare_slot-clause-newer g t c =
    let src = g.S.NodeSource in
    let new = c.args.new.now in
    let slot = c.newer_slot-slot.result in
    let read = c.newer_slot-slot.ensures in
    let before = c.loop-i.invariant in
    newer-end src.IsAt (src.told c.args.state.now) (src.told c.loop-i.state) (src.inner_place new) (src.inner_slot new) c.args.task.span c.loop-i.i c.slot.result (src.site slot.place) before.same (omega arith) c.slot.ensures read.place slot.version slot.count read.version read.count c.args.task.by c.args.steps.now c.loop-i.steps c.compare_slot.new.steps c.in_err-compare_slot.ensures.newer before.newer_never_falls before.newer

pub compare_slots-returns-in_err-compare_slot-clause-older : goal.compare_slots-returns-in_err-compare_slot-clause-older
compare_slots-returns-in_err-compare_slot-clause-older g t c =
    let src = g.S.NodeSource in
    let old = c.args.old.now in
    let before = c.loop-i.invariant in
    let p = err_from_is_err_and c.from_residual.result c.from_residual.ensures.1 in
    rw (p.1, p.2) (older-end src.IsAt (src.told c.args.state.now) (src.told c.loop-i.state) (src.inner_place old) (src.inner_slot old) c.args.task.span c.loop-i.i c.slot.result (src.site c.place-place.result) before.same (omega arith) c.slot.ensures c.place-place.ensures c.args.findings.now.older c.loop-i.findings.older c.compare_slot.new.findings.older _ c.in_err-compare_slot.ensures.older before.older_never_falls before.older)
