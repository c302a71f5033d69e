use Rattle.std.specs.Prelude.{Ok, ◌≤ℤ◌, ◌<ℤ◌}
use Rattle.std.specs.List.{AllByRecursion}
use Rattle.std.proofs.Common.{◌≡◌, ℕ, suc, ◌+◌, ◌<◌, length, refl, sym, ap, ◌∙◌, subst, arith, to_z, of_z, w64}
use Rattle.std.proofs.lemmas.Int.{ints, to_z-of_z}
use Rattle.std.proofs.lemmas.Result.{err_from_is_err_and}
use Rattle.btr_base.specs.declared.point.Point.{Point}
use Rattle.btr_base.specs.Agg.{AggValue}
use Rattle.btr_base.specs.Bag.{within, is_within}
use Rattle.btr_base.specs.Windows.{window_of, begin_of}
use Rattle.btr_base.proofs.AggLemmas.{agg-count}
use Rattle.btr_base.proofs.ListLemmas.{each-weaker, length-filter}
use Rattle.btr_base.proofs.SpanLemmas.{width-positive}
use Rattle.btr_tree.specs.declared.node.Slot.{Slot}
use Rattle.btr_tree.specs.Change.{end_of}
use Rattle.btr_tree.specs.History.{bag}
use Rattle.btr_tree.specs.Nodes.{points_of, is_inner}
use Rattle.btr_tree.specs.Shape.{slot_start}
use Rattle.btr_tree.specs.NodeSource.{AreSafePoints, IsSafeFound, IfRefused, UsesSource, AtEachPlace, AtEachSlots}
use Rattle.btr_tree.proofs.NodeLemmas.{slot-part, prefix-part}
use Rattle.btr_tree.proofs.RangeSlotLemmas.{range-from, range-to, prefix-gap, between-is, rest-empty, slot-met}
use Rattle.btr_tree.proofs.SourceLemmas.{place-safe, place-below, place-at, count-first, count-next, uses-then, refused-weaker, refused-earlier}
use Rattle.btr_window.specs.Accumulate.{add_part, add_points, counted, AreStarts, MeetsWindows}
use Rattle.btr_window.proofs.Adding.{counted-part, counted-points, points-more, add_points-part}
use Rattle.btr_window.proofs.Cells.{within-between}
use Rattle.btr_window.proofs.Ranges.{within-as, within-inside}
use Rattle.btr_window.proofs.Starts.{starts-part}
use Rattle.btr_window.proofs.window_walk.+window_walk.Goals as goal

-- ---- One place.

pub walk_place-add_points-requires-clause-times : goal.walk_place-add_points-requires-clause-times
walk_place-add_points-requires-clause-times g t c =
    let range = c.args.windows.now.range in
    let first = c.args.windows.now.grid.first in
    let low = c.requires.meets.behind in
    let points = c.points.result.now in
    let said : c.points_between-here.result.now ≡ within range.from range.to points = c.points_between-here.ensures ∙ within-as _ _ _ _ points points (range-from _ _ c.range.invariant c.range.view_is) (range-to _ _ c.range.invariant c.range.view_is) refl in
    subst (AllByRecursion (λ p. first ≤ℤ p.time)) (sym said) (each-weaker (λ p. (range.from ≤ℤ p.time) × (p.time <ℤ range.to)) (λ p. first ≤ℤ p.time) (λ p h. let from = h.0 in omega (arith, ints)) (within range.from range.to points) (within-between range.from range.to points))

pub walk_place-add_points-requires-clause-room : goal.walk_place-add_points-requires-clause-room
walk_place-add_points-requires-clause-room g t c =
    let src = g.S.NodeSource in
    let most = src.count (src.site c.args.at) in
    let leaf : AreSafePoints most c.args.span (src.leaf_points c.in-Leaf.points) = subst (IsSafeFound (src.IsSafe (src.told c.args.state.now)) src.count src.leaf_points src.inner_slot src.inner_place most c.args.span) c.in-Leaf.is c.in-Ok.ensures.safe in
    let few = leaf.few in
    let room = c.requires.room.1 in
    omega (arith, ap (length {A = Point}) c.points_between-here.ensures, length-filter (is_within (to_z w64 (of_z w64 c.range.inside.from)) (to_z w64 (of_z w64 c.range.inside.to))) c.points.result.now, ap (length {A = Point}) c.points.ensures)

pub walk_place-returns-in_ok-add_points-in-Leaf-clause-few : goal.walk_place-returns-in_ok-add_points-in-Leaf-clause-few
walk_place-returns-in_ok-add_points-in-Leaf-clause-few g t c =
    let src = g.S.NodeSource in
    let grid = c.args.windows.now.grid in
    let most = src.count (src.site c.args.at) in
    let leaf : AreSafePoints most c.args.span (src.leaf_points c.in-Leaf.points) = subst (IsSafeFound (src.IsSafe (src.told c.args.state.now)) src.count src.leaf_points src.inner_slot src.inner_place most c.args.span) c.in-Leaf.is c.in-Ok.ensures.safe in
    let few = leaf.few in
    let added = c.in_ok-add_points-in-Leaf.ensures in
    (added.starts, omega (arith, ap counted added.cells, counted-points grid.first grid.width c.args.cells.now.items c.points_between-here.result.now, ap (length {A = Point}) c.points_between-here.ensures, length-filter (is_within (to_z w64 (of_z w64 c.range.inside.from)) (to_z w64 (of_z w64 c.range.inside.to))) c.points.result.now, ap (length {A = Point}) c.points.ensures))

-- ---- One slot.

pub walk_slot-returns-in-Some-clause-cells : goal.walk_slot-returns-in-Some-clause-cells
walk_slot-returns-in-Some-clause-cells g t c above h holds is =
    let span = c.args.part.span in
    let range = c.args.windows.now.range in
    let first = c.args.windows.now.grid.first in
    let width = c.args.windows.now.grid.width in
    let old = c.args.cells.now.items in
    let agg = (g.S.NodeSource.inner_slot c.args.slots.now c.args.part.i).agg in
    let begin = begin_of first width span.start in
    let whole = c.is_inside.ensures.0 c.if-is_inside.true in
    let some = width-positive span.height in
    let fits : to_z w64 (of_z w64 c.in-Some.start) ≡ c.in-Some.start = grind (arith, to_z-of_z) in
    let start : c.in-Some.start ≡ begin = sym (c.in-Some.ensures span.start (omega (arith, ints)) (omega (arith, ints))) in
    let here = points_of span.height span.start (bag h) in
    let some : 0 < length here = omega (arith, agg-count here, ap (λ (s : AggValue). s.count) is, c.requires.place.1) in
    let each : AllByRecursion (λ p. begin_of first width p.time ≡ begin) here = each-weaker (λ p. (span.start ≤ℤ p.time) × (p.time <ℤ end_of span)) (λ p. begin_of first width p.time ≡ begin) (λ p k. c.in-Some.ensures p.time k.0 k.1 ∙ start) here (within-between span.start (end_of span) (bag h)) in
    c.in_ok-add_part.ensures
    ∙ ap (λ (y : Slot). add_part old (to_z w64 (of_z w64 c.in-Some.start)) y.agg) c.slot-slot.ensures
    ∙ ap (λ s. add_part old s agg) (fits ∙ start)
    ∙ ap (add_part old begin) is
    ∙ sym (add_points-part first width old here begin some each)
    ∙ ap (add_points first width old) (sym (within-inside range.from range.to span.start (end_of span) (bag h) whole.0 whole.1))

pub walk_slot-returns-in-Some-clause-few : goal.walk_slot-returns-in-Some-clause-few
walk_slot-returns-in-Some-clause-few g t c =
    let span = c.args.part.span in
    let grid = c.args.windows.now.grid in
    let old = c.args.cells.now.items in
    let some = width-positive span.height in
    let fits : to_z w64 (of_z w64 c.in-Some.start) ≡ c.in-Some.start = grind (arith, to_z-of_z) in
    let start : c.in-Some.start ≡ begin_of grid.first grid.width span.start = sym (c.in-Some.ensures span.start (omega (arith, ints)) (omega (arith, ints))) in
    let e = c.in_ok-add_part.ensures in (
      subst (AreStarts grid) (sym e) (starts-part grid old _ _ c.requires.room.0 (window_of grid.first grid.width span.start, fits ∙ start)),
      omega (arith, ap counted e, counted-part old (to_z w64 (of_z w64 c.in-Some.start)) c.slot-slot.result.agg, ap (λ (y : Slot). y.agg.count) c.slot-slot.ensures),
    )

-- ---- The slots of an inner node.

pub walk_slots-loop-i-init : goal.walk_slots-loop-i-init
walk_slots-loop-i-init g t c =
    let said = c.slots_between-first.ensures in
    let range = c.args.windows.now.range in
    let grid = c.args.windows.now.grid in
    let order = said.order in
    let between = λ (below : ℕ) (e : c.args.span.height ≡ suc below). between-is c.args.span below _ _ range.from range.to _ _ e (range-from _ _ c.range.invariant c.range.view_is) (range-to _ _ c.range.invariant c.range.view_is) said.order said.place said.before said.first said.last said.behind in
    record {
      between = between;
      place = said.place;
      behind = omega arith;
      before = omega arith;
      same = refl;
      rises = omega arith;
      starts = c.requires.room.0;
      few = omega arith;
      cells = λ h at. sym (ap (add_points grid.first grid.width c.args.cells.now.items) ((between at.below at.above).before (bag h)));
    }

pub walk_slots-walk_slot-requires : goal.walk_slots-walk_slot-requires
walk_slots-walk_slot-requires g t c κs o =
    let src = g.S.NodeSource in
    let safe = c.requires.safe in
    let below = safe.below in
    let span = c.args.span in
    let range = c.args.windows.now.range in
    let i = c.in-Some.i in
    let part = c.slot.result in
    let slots = src.inner_slot c.args.slots.now in
    let places = src.inner_place c.args.slots.now in
    let found = c.in-Some.ensures in
    let order = found.0 in
    let number = found.1 in
    let so_far = c.loop-i.invariant in
    let low_order = so_far.behind in
    let up_to_last = c.if-i-last.false in
    let d = c.decreases in
    let is = c.slot.ensures ∙ slot-part span below i safe.above in
    let low = place-below (src.IsSafe (src.told c.args.state.now)) src.count places slots span part i safe c.slot.ensures in
    let here = subst (λ t. src.IsSafe t (places i) part.height part.start) (sym so_far.same) (place-safe (src.IsSafe (src.told c.args.state.now)) src.count places slots span part i safe number c.slot.ensures) in
    let few = so_far.few in
    let gap = count-first c.loop-i.from i slots order in
    let next = count-next i slots in
    let less = count-first (i + 1) 64 slots (omega arith) in
    let all = c.requires.room.1 in
    let met = slot-met below span.start range.from range.to _ _ i part (so_far.between below safe.above) is (omega arith) (omega arith) in
    let meets : MeetsWindows c.args.windows.now part = record { is_grid = c.requires.meets.is_grid; behind = c.requires.meets.behind; met = met } in
    (omega arith, (o.0, (o.1.0, (o.1.1.0, (o.1.1.1.0, (o.1.1.1.1.0, (o.1.1.1.1.1.0, (o.1.1.1.1.1.1, ((number, found.2), ((here, safe.counted i number), ((so_far.starts, omega arith), meets)))))))))))

pub walk_slots-returns-in_err-walk_slot-clause-sound : goal.walk_slots-returns-in_err-walk_slot-clause-sound
walk_slots-returns-in_err-walk_slot-clause-sound g t c =
    let src = g.S.NodeSource in
    let span = c.args.span in
    let i = c.in-Some.i in
    let part = c.slot.result in
    let slots = src.inner_slot c.args.slots.now in
    let places = src.inner_place c.args.slots.now in
    let p = err_from_is_err_and c.from_residual.result c.from_residual.ensures.1 in
    rw (p.1, p.2) (refused-weaker (λ e. AtEachPlace (src.IsThere (src.told c.loop-i.state)) (places i) part (λ h. src.IsHarmless e)) (λ e. AtEachSlots (src.IsThere (src.told c.args.state.now)) places slots span (λ h. src.IsHarmless e)) _ (λ e each h at.
    let slot = place-at (src.IsThere (src.told c.args.state.now)) places slots span part h i at c.in-Some.ensures.1 c.slot.ensures in
    each (is_inner (suc at.below) span.start) h (subst (λ t. src.IsThere t (places i) part.height part.start (is_inner (suc at.below) span.start) h) (sym c.loop-i.invariant.same) slot.holds)) c.in_err-walk_slot.ensures.sound)

pub walk_slots-returns-in_err-walk_slot-clause-uses : goal.walk_slots-returns-in_err-walk_slot-clause-uses
walk_slots-returns-in_err-walk_slot-clause-uses g t c =
    let src = g.S.NodeSource in
    let p = err_from_is_err_and c.from_residual.result c.from_residual.ensures.1 in
    let before : UsesSource {A = Unit {0}} src.told src.faults src.IsCaused c.args.state.now c.loop-i.state (Ok tt) = record { same = c.loop-i.invariant.same; rises = c.loop-i.invariant.rises; cause = tt } in
    rw (p.1, p.2) (uses-then src.told src.faults src.IsCaused (λ t a b. IfRefused (src.IsCaused t a b)) c.args.state.now c.loop-i.state c.walk_slot.new.state _ _ (refused-earlier src.IsCaused g.met.S.NodeSource.caused_earlier) before c.in_err-walk_slot.ensures.uses)

pub walk_slots-loop-i-preserved : goal.walk_slots-loop-i-preserved
walk_slots-loop-i-preserved g t c =
    let src = g.S.NodeSource in
    let span = c.args.span in
    let start = span.start in
    let range = c.args.windows.now.range in
    let grid = c.args.windows.now.grid in
    let old = c.args.cells.now.items in
    let i = c.in-Some.i in
    let part = c.slot.result in
    let slots = src.inner_slot c.args.slots.now in
    let places = src.inner_place c.args.slots.now in
    let found = c.in-Some.ensures in
    let order = found.0 in
    let place = found.1 in
    let so_far = c.loop-i.invariant in
    let low_order = so_far.behind in
    let up_to_last = c.if-i-last.false in
    let new = c.in_ok-walk_slot.ensures in
    let up = new.uses.rises in
    let low = so_far.rises in
    let few = new.few.1 in
    let was = so_far.few in
    let gap = count-first c.loop-i.from i slots order in
    let next = count-next i slots in
    record {
      between = so_far.between;
      place = so_far.place;
      behind = omega arith;
      before = omega arith;
      same = new.uses.same ∙ so_far.same;
      rises = omega arith;
      starts = new.few.0;
      few = omega arith;
      cells = λ h at.
          let slot = place-at (src.IsAt (src.told c.args.state.now)) places slots span part h i at place c.slot.ensures in
          let holds = subst (λ t. src.IsAt t (places i) part.height part.start (is_inner (suc at.below) start) h) (sym so_far.same) slot.holds in
          let cells = so_far.cells h at ∙ ap (λ b. add_points grid.first grid.width old (within range.from range.to b)) (sym (prefix-gap at.below start h slots c.loop-i.from i at.all order (omega arith) found.3)) in
          points-more grid.first grid.width range.from range.to old c.loop-i.cells.items c.walk_slot.new.cells.items (within start (slot_start at.below start i) (bag h)) (points_of part.height part.start (bag h)) (within start (slot_start at.below start (i + 1)) (bag h)) (prefix-part at.below start i h part slot.is) cells (new.cells (is_inner (suc at.below) start) h holds slot.counted);
    }

pub walk_slots-returns-then-i-last-clause-cells : goal.walk_slots-returns-then-i-last-clause-cells
walk_slots-returns-then-i-last-clause-cells g t c h at =
    let start = c.args.span.start in
    let range = c.args.windows.now.range in
    let grid = c.args.windows.now.grid in
    let old = c.args.cells.now.items in
    let so_far = c.loop-i.invariant in
    let found = c.in-Some.ensures in
    let after_last = c.if-i-last.true in
    let rest = rest-empty at.below start range.from range.to _ c.slots_between-first.result.1 h (g.S.NodeSource.inner_slot c.args.slots.now) c.loop-i.from (so_far.between at.below at.above) at.all so_far.before (λ j low high. found.3 j low (omega arith)) in
    so_far.cells h at
    ∙ ap (add_points grid.first grid.width old) rest
    ∙ ap (λ k. add_points grid.first grid.width old (within range.from range.to (points_of k start (bag h)))) (sym at.above)

pub walk_slots-returns-then-i-last-clause-few : goal.walk_slots-returns-then-i-last-clause-few
walk_slots-returns-then-i-last-clause-few g t c =
    let so_far = c.loop-i.invariant in
    let few = so_far.few in
    let before = so_far.before in
    let place = so_far.place in
    let less = count-first c.loop-i.from 64 (g.S.NodeSource.inner_slot c.args.slots.now) (omega arith) in
    (so_far.starts, omega arith)

pub walk_slots-returns-clause-cells : goal.walk_slots-returns-clause-cells
walk_slots-returns-clause-cells g t c h at =
    let start = c.args.span.start in
    let range = c.args.windows.now.range in
    let grid = c.args.windows.now.grid in
    let old = c.args.cells.now.items in
    let so_far = c.loop-i.invariant in
    let place = so_far.place in
    let rest = rest-empty at.below start range.from range.to _ c.slots_between-first.result.1 h (g.S.NodeSource.inner_slot c.args.slots.now) c.loop-i.from (so_far.between at.below at.above) at.all so_far.before (λ j low high. c.in_default.ensures j low (omega arith)) in
    so_far.cells h at
    ∙ ap (add_points grid.first grid.width old) rest
    ∙ ap (λ k. add_points grid.first grid.width old (within range.from range.to (points_of k start (bag h)))) (sym at.above)

pub walk_slots-returns-clause-few : goal.walk_slots-returns-clause-few
walk_slots-returns-clause-few g t c =
    let so_far = c.loop-i.invariant in
    let few = so_far.few in
    let before = so_far.before in
    let place = so_far.place in
    let less = count-first c.loop-i.from 64 (g.S.NodeSource.inner_slot c.args.slots.now) (omega arith) in
    (so_far.starts, omega arith)
