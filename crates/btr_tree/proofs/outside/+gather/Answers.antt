use Rattle.std.proofs.lemmas.Result.{on_ok_weaker}
use Rattle.btr_tree.specs.Slots.{node_of}
use Rattle.btr_tree.specs.Shape.{slot_start}
use Rattle.btr_tree.specs.Change.{end_of}
use Rattle.std.proofs.Common.{◌≡◌, suc, ◌+◌, ◌++◌, List, sym, ap, ◌∙◌, subst, arith, append-nil, append_assoc}
use Rattle.std.proofs.lemmas.Int.{ints}
use Rattle.btr_base.specs.declared.point.Point.{Point}
use Rattle.btr_base.specs.Bag.{outside, within, IsInOrder}
use Rattle.btr_base.specs.Range.{RangeValue}
use Rattle.btr_tree.specs.History.{bag}
use Rattle.btr_tree.specs.Nodes.{points_of, is_inner}
use Rattle.btr_tree.proofs.CutLemmas.{outside-alike, outside-whole, here-alike, outside-append}
use Rattle.btr_tree.proofs.NodeLemmas.{child-is, leaf_data-is, inner_data-is, child-at, slot-few, some-slots, prefix-none, prefix-part, prefix-done}
use Rattle.btr_tree.proofs.VersionLemmas.{points-in_order}
use Rattle.btr_tree.proofs.outside.+gather.Goals as goal

points-more : (before here next : List Point) (cut : List RangeValue) (old mid new : List Point) → next ≡ before ++ here → mid ≡ old ++ outside before cut → new ≡ mid ++ outside here cut → new ≡ old ++ outside next cut
points-more before here next cut old mid new e p q =
    q
    ∙ ap (λ x. x ++ outside here cut) p
    ∙ append_assoc old (outside before cut) (outside here cut)
    ∙ sym (ap (λ x. old ++ x) (ap (λ x. outside x cut) e ∙ outside-append before here cut))

pub gather_outside_slot-gather_outside_points-requires-clause-order : goal.gather_outside_slot-gather_outside_points-requires-clause-order
gather_outside_slot-gather_outside_points-requires-clause-order t c =
    let st = c.requires.some in
    let node = child-is c.args.span.height c.args.span.start st.above st.commits c.args.child c.in-Some.node c.in-Some.is st.holds in
    let leaf = leaf_data-is c.args.span.height c.args.span.start st.above st.commits c.in-Some.node.now.value c.in-Leaf.version c.in-Leaf.points (sym c.deref.ensures ∙ c.in-Leaf.is) node in
    subst IsInOrder (sym (c.deref-in-Leaf.ensures.value ∙ leaf.same)) (points-in_order c.args.span.height c.args.span.start st.commits)

pub gather_outside_slot-returns-in-Leaf : goal.gather_outside_slot-returns-in-Leaf
gather_outside_slot-returns-in-Leaf t c =
    let begin = ap (λ p. p.start) c.span.view_is in
    let end = c.end.ensures.end in
    let alike = here-alike c.args.span.start (end_of c.args.span) c.args.cut.now c.ranges_from.result.now c.ranges_before-here.result.now (λ u low. c.ranges_from.ensures.times u (omega (arith, ints))) (λ u high. c.ranges_before-here.ensures.times u (omega (arith, ints))) in
    on_ok_weaker c.gather_outside_points.result (λ e above h holds.
    let node = child-is c.args.span.height c.args.span.start above h c.args.child c.in-Some.node c.in-Some.is holds in
    let leaf = leaf_data-is c.args.span.height c.args.span.start above h c.in-Some.node.now.value c.in-Leaf.version c.in-Leaf.points (sym c.deref.ensures ∙ c.in-Leaf.is) node in
    e ∙ ap (λ x. c.args.out.now.items ++ outside x c.ranges_before-here.result.now) (c.deref-in-Leaf.ensures.value ∙ leaf.same) ∙ ap (λ x. c.args.out.now.items ++ x) (outside-alike c.args.span.start (end_of c.args.span) (bag h) c.ranges_before-here.result.now c.args.cut.now alike)) c.gather_outside_points.ensures

pub gather_outside_slot-returns-in-Inner : goal.gather_outside_slot-returns-in-Inner
gather_outside_slot-returns-in-Inner t c =
    let begin = ap (λ p. p.start) c.span.view_is in
    let end = c.end.ensures.end in
    let alike = here-alike c.args.span.start (end_of c.args.span) c.args.cut.now c.ranges_from.result.now c.ranges_before-here.result.now (λ u low. c.ranges_from.ensures.times u (omega (arith, ints))) (λ u high. c.ranges_before-here.ensures.times u (omega (arith, ints))) in
    on_ok_weaker c.gather_outside_slots.result (λ e above h holds.
    let node = child-is c.args.span.height c.args.span.start above h c.args.child c.in-Some.node c.in-Some.is holds in
    let body = inner_data-is c.args.span.height c.args.span.start above h c.in-Some.node.now.value c.in-Inner.version c.in-Inner.slots (sym c.deref.ensures ∙ c.in-Inner.is) node in
    e body.below h body.height body.inner.all body.each ∙ ap (λ x. c.args.out.now.items ++ x) (outside-alike c.args.span.start (end_of c.args.span) (bag h) c.ranges_before-here.result.now c.args.cut.now alike)) c.gather_outside_slots.ensures

pub gather_outside_slot-returns-then-covers_all : goal.gather_outside_slot-returns-then-covers_all
gather_outside_slot-returns-then-covers_all t c above h holds =
    let begin = ap (λ p. p.start) c.span.view_is in
    let end = c.end.ensures.end in
    let alike = here-alike c.args.span.start (end_of c.args.span) c.args.cut.now c.ranges_from.result.now c.ranges_before-here.result.now (λ u low. c.ranges_from.ensures.times u (omega (arith, ints))) (λ u high. c.ranges_before-here.ensures.times u (omega (arith, ints))) in
    let gone = outside-whole c.args.span.start (end_of c.args.span) (bag h) c.args.cut.now (λ u low high. sym (alike u low high) ∙ c.covers_all.ensures c.if-covers_all.true u low high) in
    sym (ap (λ x. c.args.out.now.items ++ x) gone ∙ append-nil c.args.out.now.items)

pub gather_outside_slots-loop-i-init : goal.gather_outside_slots-loop-i-init
gather_outside_slots-loop-i-init t c below h e slots each =
    sym (ap (λ x. c.args.out.now.items ++ outside x c.args.cut.now) (prefix-none below c.args.span.start h) ∙ append-nil c.args.out.now.items)

pub gather_outside_slots-gather_outside_slot-requires : goal.gather_outside_slots-gather_outside_slot-requires
gather_outside_slots-gather_outside_slot-requires t c =
    let st = c.requires.some in
    let below = st.0 in
    let d = c.decreases in
    let at = child-at c.args.span below st.2.commits c.loop-i.i c.slot.result (node_of c.child.result) c.args.slots.now st.1 st.2.each c.loop-i-test.true c.slot.ensures c.child.ensures in
    let few = slot-few below c.args.span.start st.2.commits c.loop-i.i c.slot.result (omega arith) at.is in
    let all = st.2.few in
    let low : c.slot.result.height ≡ below = ap (λ u. u.height) at.is in
    let high = st.1 in
    (omega arith, (record { above = is_inner (suc below) c.args.span.start; commits = st.2.commits; holds = at.holds; few = omega arith }, c.requires.cut))

pub gather_outside_slots-loop-i-preserved : goal.gather_outside_slots-loop-i-preserved
gather_outside_slots-loop-i-preserved t c below h e slots each =
    let start = c.args.span.start in
    let i = c.loop-i.i in
    let part = c.slot.result in
    let at = child-at c.args.span below h i part (node_of c.child.result) c.args.slots.now e each c.loop-i-test.true c.slot.ensures c.child.ensures in
    let here = points_of part.height part.start (bag h) in
    points-more (within start (slot_start below start i) (bag h)) here (within start (slot_start below start (i + 1)) (bag h)) c.args.cut.now c.args.out.now.items c.loop-i.out.items c.gather_outside_slot.new.out.items (prefix-part below start i h part at.is) (c.loop-i.invariant below h e slots each) (c.in_ok-gather_outside_slot.ensures (is_inner (suc below) start) h at.holds)

pub gather_outside_slots-returns : goal.gather_outside_slots-returns
gather_outside_slots-returns t c below h e slots each =
    c.loop-i.invariant below h e slots each
    ∙ ap (λ x. c.args.out.now.items ++ outside x c.args.cut.now) (prefix-done c.args.span.height below c.args.span.start c.loop-i.i h (omega arith) e)

pub gather_outside_slot-gather_outside_slots-requires : goal.gather_outside_slot-gather_outside_slots-requires
gather_outside_slot-gather_outside_slots-requires t c =
    let d = c.decreases in
    let some = some-slots c.args.span.height c.args.span.start 0 c.args.child c.in-Some.node c.in-Inner.version c.in-Inner.slots c.in-Some.is (sym c.deref.ensures ∙ c.in-Inner.is) c.requires.some in
    let high = some.1 in
    (omega arith, (some, c.ranges_before-here.ensures.cut))
