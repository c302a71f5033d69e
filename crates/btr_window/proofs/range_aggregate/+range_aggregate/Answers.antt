use Rattle.std.specs.Prelude.{Ok}
use Rattle.std.proofs.Common.{◌≡◌, ℕ, suc, ◌+◌, ◌<◌, refl, sym, ap, ◌∙◌, subst, arith}
use Rattle.std.proofs.lemmas.Result.{err_from_is_err_and}
use Rattle.btr_base.specs.Agg.{AggValue, joined, agg}
use Rattle.btr_base.specs.Bag.{within}
use Rattle.btr_tree.specs.History.{bag}
use Rattle.btr_tree.specs.Nodes.{points_of, is_inner}
use Rattle.btr_tree.specs.Change.{end_of}
use Rattle.btr_tree.specs.EachHistory.{points_in}
use Rattle.btr_tree.specs.Shape.{slot_start}
use Rattle.btr_tree.specs.NodeSource.{AreSafePoints, IsSafeFound, UsesSource}
use Rattle.btr_tree.specs.declared.node.Slot.{Slot}
use Rattle.btr_tree.proofs.NodeLemmas.{slot-part, prefix-part}
use Rattle.btr_tree.proofs.RangeSlotLemmas.{range-from, range-to, between-is, slot-met}
use Rattle.btr_tree.proofs.SourceLemmas.{place-safe, place-below, place-at, count-first, count-next, uses-then}
use Rattle.btr_window.proofs.EndsInside.{steps-part, steps-whole}
use Rattle.btr_window.proofs.Ranges.{within-inside}
use Rattle.btr_window.proofs.Joined.{sum-more, sum-none, agg-empty, leaf-count, count-joined}
use Rattle.btr_window.proofs.range_aggregate.+range_aggregate.Goals as goal
use Rattle.btr_window.proofs.range_aggregate.+range_aggregate.Goals.{sum_in_slot-then-agg-eq0-via-then-agg-eq0, sum_in_slot-then-agg-eq0-via-else-agg-eq0+then-is_inside}

-- ---- One place.

pub sum_in_place-join-requires : goal.sum_in_place-join-requires
sum_in_place-join-requires g t c =
    let src = g.S.NodeSource in
    let most = src.count (src.site c.args.at) in
    let leaf : AreSafePoints most c.args.span (src.leaf_points c.in-Leaf.points) = subst (IsSafeFound (src.IsSafe (src.told c.args.state.now)) src.count src.leaf_points src.inner_slot src.inner_place most c.args.span) c.in-Leaf.is c.in_ok-visit.ensures.safe in
    let few = leaf-count _ _ c.points_between-here.result.now c.points.result.now (src.leaf_points c.in-Leaf.points) c.of_points.result most c.of_points.ensures c.points_between-here.ensures c.points.ensures leaf.few in
    let room = c.requires.room in
    omega arith

pub sum_in_place-returns-in-Leaf-clause-few : goal.sum_in_place-returns-in-Leaf-clause-few
sum_in_place-returns-in-Leaf-clause-few g t c =
    let src = g.S.NodeSource in
    let most = src.count (src.site c.args.at) in
    let leaf : AreSafePoints most c.args.span (src.leaf_points c.in-Leaf.points) = subst (IsSafeFound (src.IsSafe (src.told c.args.state.now)) src.count src.leaf_points src.inner_slot src.inner_place most c.args.span) c.in-Leaf.is c.in_ok-visit.ensures.safe in
    let few = leaf-count _ _ c.points_between-here.result.now c.points.result.now (src.leaf_points c.in-Leaf.points) c.of_points.result most c.of_points.ensures c.points_between-here.ensures c.points.ensures leaf.few in
    count-joined c.args.all.now c.of_points.result c.join.result c.args.all.now.count most c.join.ensures.numbers (omega arith) few

pub sum_in_place-returns-in-Inner-clause-uses : goal.sum_in_place-returns-in-Inner-clause-uses
sum_in_place-returns-in-Inner-clause-uses g t c =
    let src = g.S.NodeSource in
    uses-then src.told src.faults src.IsCaused src.IsCaused c.args.state.now c.visit.new.state c.sum_in_slots.new.state _ c.sum_in_slots.result g.met.S.NodeSource.caused_earlier c.in_ok-visit.ensures.uses c.sum_in_slots.ensures.uses

-- ---- One slot.

pub sum_in_slot-returns-then-agg-eq0-clause-agg : goal.sum_in_slot-returns-then-agg-eq0-clause-agg
sum_in_slot-returns-then-agg-eq0-clause-agg g t c above h holds counted =
    let span = c.args.part.span in
    let range = c.args.range in
    let whole : c.slot.result.agg ≡ agg (points_of span.height span.start (bag h)) = ap (λ (y : Slot). y.agg) c.slot.ensures ∙ counted in
    c.join.ensures.numbers ∙ ap (joined c.args.all.now) (elim c.then-agg-eq0.branch [
      | sum_in_slot-then-agg-eq0-via-then-agg-eq0 w ↦
          agg-empty range.from range.to (points_of span.height span.start (bag h)) c.slot.result.agg whole (omega (arith, ap (λ (s : AggValue). s.count) c.agg.view_is, w.if-agg-eq0.true))
      | sum_in_slot-then-agg-eq0-via-else-agg-eq0+then-is_inside w ↦
          let inside = w.is_inside.ensures.0 w.if-is_inside.true in
          whole ∙ ap agg (sym (within-inside range.from range.to span.start (end_of span) (bag h) inside.0 inside.1))
    ])

-- ---- The slots of an inner node.

pub sum_in_slots-loop-i-init : goal.sum_in_slots-loop-i-init
sum_in_slots-loop-i-init g t c =
    let said = c.slots_between-first.ensures in
    let between = λ (below : ℕ) (e : c.args.span.height ≡ suc below). between-is c.args.span below _ _ c.args.range.from c.args.range.to _ _ e (range-from _ _ c.range.invariant c.range.view_is) (range-to _ _ c.range.invariant c.range.view_is) said.order said.place said.before said.first said.last said.behind in
    record {
      between = between;
      same = refl;
      rises = omega arith;
      few = omega arith;
      agg = λ h at.
          sum-none c.args.range.from c.args.range.to (within c.args.span.start (slot_start at.below c.args.span.start c.slots_between-first.result.0) (bag h)) c.args.all.now ((between at.below at.above).before (bag h));
      none = λ first. refl;
      bounded = λ below e late. absurd (omega arith);
      never_falls = omega arith;
    }

pub sum_in_slots-sum_in_slot-requires : goal.sum_in_slots-sum_in_slot-requires
sum_in_slots-sum_in_slot-requires g t c κs o =
    let src = g.S.NodeSource in
    let safe = c.requires.safe in
    let below = safe.below in
    let span = c.args.span in
    let range = c.args.range in
    let i = c.loop-i.i in
    let part = c.slot.result in
    let slots = src.inner_slot c.args.slots.now in
    let places = src.inner_place c.args.slots.now in
    let so_far = c.loop-i.invariant in
    let d = c.decreases in
    let last = c.slots_between-first.ensures.place in
    let number : i < 64 = omega arith in
    let is = c.slot.ensures ∙ slot-part span below i safe.above in
    let low = place-below (src.IsSafe (src.told c.args.state.now)) src.count places slots span part i safe c.slot.ensures in
    let here = subst (λ t. src.IsSafe t (places i) part.height part.start) (sym so_far.same) (place-safe (src.IsSafe (src.told c.args.state.now)) src.count places slots span part i safe number c.slot.ensures) in
    let few = so_far.few in
    let next = count-next i slots in
    let less = count-first (i + 1) 64 slots (omega arith) in
    let all = c.requires.room in
    let met = slot-met below span.start range.from range.to _ _ i part (so_far.between below safe.above) is (omega arith) (omega arith) in
    (omega arith, (o.0, (o.1.0, (o.1.1.0, (o.1.1.1.0, (o.1.1.1.1.0, (o.1.1.1.1.1.0, (o.1.1.1.1.1.1, ((number, (here, safe.counted i number)), (omega arith, met))))))))))

pub sum_in_slots-loop-i-preserved : goal.sum_in_slots-loop-i-preserved
sum_in_slots-loop-i-preserved g t c =
    let src = g.S.NodeSource in
    let start = c.args.span.start in
    let range = c.args.range in
    let i = c.loop-i.i in
    let part = c.slot.result in
    let so_far = c.loop-i.invariant in
    let uses = c.in_ok-sum_in_slot.ensures.uses in
    let new = c.in_ok-sum_in_slot.ensures in
    let up = uses.rises in
    let low = so_far.rises in
    let few = new.few in
    let was = so_far.few in
    let next = count-next i (src.inner_slot c.args.slots.now) in
    let steps = new.bounded in
    let begun = so_far.never_falls in
    let rise = steps.0 in
    record {
      between = so_far.between;
      same = uses.same ∙ so_far.same;
      rises = omega arith;
      few = omega arith;
      agg = λ h at.
          let slot = place-at (src.IsAt (src.told c.args.state.now)) (src.inner_place c.args.slots.now) (src.inner_slot c.args.slots.now) c.args.span part h i at (omega arith) c.slot.ensures in
          let here = points_of part.height part.start (bag h) in
          let holds = subst (λ t. src.IsAt t (src.inner_place c.args.slots.now i) part.height part.start (is_inner (suc at.below) start) h) (sym so_far.same) slot.holds in
          sum-more range.from range.to (within start (slot_start at.below start i) (bag h)) here (within start (slot_start at.below start (i + 1)) (bag h)) c.args.all.now c.loop-i.all c.sum_in_slot.new.all (prefix-part at.below start i h part slot.is) (so_far.agg h at) (new.agg (is_inner (suc at.below) start) h holds slot.counted);
      none = λ first. absurd (omega arith);
      bounded = λ below e late.
          let is = c.slot.ensures ∙ slot-part c.args.span below i e in
          steps-part c.args.span part below range.from range.to _ _ i c.args.steps.now c.loop-i.steps c.sum_in_slot.new.steps e (so_far.between below e) is (omega arith) (omega arith) so_far.none (so_far.bounded below e) steps.1;
      never_falls = omega arith;
    }

pub sum_in_slots-returns-in_err-sum_in_slot-clause-uses : goal.sum_in_slots-returns-in_err-sum_in_slot-clause-uses
sum_in_slots-returns-in_err-sum_in_slot-clause-uses g t c =
    let src = g.S.NodeSource in
    let p = err_from_is_err_and c.from_residual.result c.from_residual.ensures.1 in
    let before : UsesSource {A = Unit {0}} src.told src.faults src.IsCaused c.args.state.now c.loop-i.state (Ok tt) = record { same = c.loop-i.invariant.same; rises = c.loop-i.invariant.rises; cause = tt } in
    rw (p.1, p.2) (uses-then src.told src.faults src.IsCaused src.IsCaused c.args.state.now c.loop-i.state c.sum_in_slot.new.state _ _ g.met.S.NodeSource.caused_earlier before c.in_err-sum_in_slot.ensures.uses)

pub sum_in_slots-returns-in_err-sum_in_slot-clause-bounded : goal.sum_in_slots-returns-in_err-sum_in_slot-clause-bounded
sum_in_slots-returns-in_err-sum_in_slot-clause-bounded g t c =
    let safe = c.requires.safe in
    let span = c.args.span in
    let range = c.args.range in
    let i = c.loop-i.i in
    let so_far = c.loop-i.invariant in
    let steps = c.in_err-sum_in_slot.ensures.bounded in
    let rise = steps.0 in
    let begun = so_far.never_falls in
    let last = c.slots_between-first.ensures.place in
    let is = c.slot.ensures ∙ slot-part span safe.below i safe.above in
    let part = steps-part span c.slot.result safe.below range.from range.to _ _ i c.args.steps.now c.loop-i.steps c.sum_in_slot.new.steps safe.above (so_far.between safe.below safe.above) is (omega arith) (omega arith) so_far.none (so_far.bounded safe.below safe.above) steps.1 in
    (omega arith, steps-whole span safe.below range.from range.to (i + 1) c.args.steps.now c.sum_in_slot.new.steps safe.above (omega arith) part)

pub sum_in_slots-returns-clause-agg : goal.sum_in_slots-returns-clause-agg
sum_in_slots-returns-clause-agg g t c h at =
    let start = c.args.span.start in
    let range = c.args.range in
    let last : c.loop-i.i ≡ c.slots_between-first.result.1 + 1 = omega arith in
    let points : within range.from range.to (within start (slot_start at.below start c.loop-i.i) (bag h)) ≡ within range.from range.to (points_in c.args.span (bag h)) = ap (λ j. within range.from range.to (within start (slot_start at.below start j) (bag h))) last ∙ (c.loop-i.invariant.between at.below at.above).behind (bag h) ∙ ap (λ k. within range.from range.to (points_of k start (bag h))) (sym at.above) in
    c.loop-i.invariant.agg h at ∙ ap (λ b. joined c.args.all.now (agg b)) points

pub sum_in_slots-returns-clause-few : goal.sum_in_slots-returns-clause-few
sum_in_slots-returns-clause-few g t c =
    let few = c.loop-i.invariant.few in
    let place = c.slots_between-first.ensures.place in
    let less = count-first c.loop-i.i 64 (g.S.NodeSource.inner_slot c.args.slots.now) (omega arith) in
    omega arith

pub sum_in_slots-returns-clause-uses : goal.sum_in_slots-returns-clause-uses
sum_in_slots-returns-clause-uses g t c =
    record { same = c.loop-i.invariant.same; rises = c.loop-i.invariant.rises; cause = tt }

pub sum_in_slots-returns-clause-bounded : goal.sum_in_slots-returns-clause-bounded
sum_in_slots-returns-clause-bounded g t c =
    let safe = c.requires.safe in
    let range = c.args.range in
    let place = c.slots_between-first.ensures.place in
    let order = c.slots_between-first.ensures.order in
    let few = c.loop-i.invariant.bounded safe.below safe.above (omega arith) in
    (c.loop-i.invariant.never_falls, steps-whole c.args.span safe.below range.from range.to c.loop-i.i c.args.steps.now c.loop-i.steps safe.above (omega arith) few)
