use Rattle.std.proofs.lemmas.Result.{IfOk-weaker}
use Rattle.btr_tree.specs.Slots.{node_of}
use Rattle.btr_tree.specs.Shape.{slot_start}
use Rattle.btr_base.proofs.AggLemmas.{agg-count}
use Rattle.btr_tree.specs.Change.{end_of}
use Rattle.std.proofs.lemmas.Bool.Decides.{nat_tests}
use Rattle.std.proofs.Common.{◌≡◌, ℕ, suc, ◌+◌, ◌++◌, ◌∷◌, [], true, List, length, refl, sym, ap, ◌∙◌, subst, arith, length-append, ◌==◌}
use Rattle.std.proofs.lemmas.Int.{ints}
use Rattle.btr_base.specs.declared.point.Point.{Point}
use Rattle.btr_base.specs.Bag.{outside, within, IsInOrder}
use Rattle.btr_base.specs.Range.{RangeValue, covered}
use Rattle.btr_tree.specs.History.{bag}
use Rattle.btr_tree.specs.Nodes.{points_of, is_inner}
use Rattle.btr_tree.proofs.CutLemmas.{outside-alike, outside-whole, outside-missed, here-alike, outside-append, outside-length}
use Rattle.btr_tree.proofs.NodeLemmas.{child-is, leaf_data-is, inner_data-is, slot-at, slot-few, some-slots, prefix-none, prefix-part, prefix-done, prefix-fewer}
use Rattle.btr_tree.proofs.VersionLemmas.{points-in_order}
use Rattle.btr_tree.proofs.outside.+count.Goals as goal

empty-is : {X : Type 0} (xs : List X) → (length xs == 0) ≡ true → xs ≡ []
empty-is [] e = refl
empty-is (x ∷ xs) e = absurd (grind (arith, nat_tests))

count-more : (before here next : List Point) (cut : List RangeValue) (m n : ℕ) → next ≡ before ++ here → m ≡ length (outside before cut) → n ≡ length (outside here cut) → m + n ≡ length (outside next cut)
count-more before here next cut m n e p q =
    omega (arith, ap (λ x. length (outside x cut)) e, ap length (outside-append before here cut), length-append (outside before cut) (outside here cut))

pub count_outside_slot-count_outside_points-requires-clause-order : goal.count_outside_slot-count_outside_points-requires-clause-order
count_outside_slot-count_outside_points-requires-clause-order t c =
    let st = c.requires.some in
    let node = child-is c.args.span.height c.args.span.start st.above st.commits c.args.child c.in-Some.node c.in-Some.is st.holds in
    let leaf = leaf_data-is c.args.span.height c.args.span.start st.above st.commits c.in-Some.node.now.value c.in-Leaf.version c.in-Leaf.points (sym c.deref.ensures ∙ c.in-Leaf.is) node in
    subst IsInOrder (sym (c.deref-in-Leaf.ensures.value ∙ leaf.same)) (points-in_order c.args.span.height c.args.span.start st.commits)

pub count_outside_slot-returns-in-Leaf : goal.count_outside_slot-returns-in-Leaf
count_outside_slot-returns-in-Leaf t c =
    let begin = ap (λ p. p.start) c.span.view_is in
    let end = c.end.ensures.end in
    let alike = here-alike c.args.span.start (end_of c.args.span) c.args.cut.now c.ranges_from.result.now c.ranges_before-here.result.now (λ u low. c.ranges_from.ensures.times u (omega (arith, ints))) (λ u high. c.ranges_before-here.ensures.times u (omega (arith, ints))) in
    IfOk-weaker c.count_outside_points.result _ _ (λ n e above h holds count.
    let node = child-is c.args.span.height c.args.span.start above h c.args.child c.in-Some.node c.in-Some.is holds in
    let leaf = leaf_data-is c.args.span.height c.args.span.start above h c.in-Some.node.now.value c.in-Leaf.version c.in-Leaf.points (sym c.deref.ensures ∙ c.in-Leaf.is) node in
    e ∙ ap (λ x. length (outside x c.ranges_before-here.result.now)) (c.deref-in-Leaf.ensures.value ∙ leaf.same) ∙ ap length (outside-alike c.args.span.start (end_of c.args.span) (bag h) c.ranges_before-here.result.now c.args.cut.now alike)) c.count_outside_points.ensures

pub count_outside_slot-returns-in-Inner : goal.count_outside_slot-returns-in-Inner
count_outside_slot-returns-in-Inner t c =
    let begin = ap (λ p. p.start) c.span.view_is in
    let end = c.end.ensures.end in
    let alike = here-alike c.args.span.start (end_of c.args.span) c.args.cut.now c.ranges_from.result.now c.ranges_before-here.result.now (λ u low. c.ranges_from.ensures.times u (omega (arith, ints))) (λ u high. c.ranges_before-here.ensures.times u (omega (arith, ints))) in
    IfOk-weaker c.count_outside_slots.result _ _ (λ n e above h holds count.
    let node = child-is c.args.span.height c.args.span.start above h c.args.child c.in-Some.node c.in-Some.is holds in
    let body = inner_data-is c.args.span.height c.args.span.start above h c.in-Some.node.now.value c.in-Inner.version c.in-Inner.slots (sym c.deref.ensures ∙ c.in-Inner.is) node in
    e body.below h body.height body.inner.all body.each ∙ ap length (outside-alike c.args.span.start (end_of c.args.span) (bag h) c.ranges_before-here.result.now c.args.cut.now alike)) c.count_outside_slots.ensures

pub count_outside_slot-returns-then-is_empty : goal.count_outside_slot-returns-then-is_empty
count_outside_slot-returns-then-is_empty t c above h holds count =
    let begin = ap (λ p. p.start) c.span.view_is in
    let end = c.end.ensures.end in
    let none : c.ranges_before-here.result.now ≡ [] = empty-is c.ranges_before-here.result.now (sym c.is_empty.ensures ∙ c.if-is_empty.true) in
    let alike = here-alike c.args.span.start (end_of c.args.span) c.args.cut.now c.ranges_from.result.now c.ranges_before-here.result.now (λ u low. c.ranges_from.ensures.times u (omega (arith, ints))) (λ u high. c.ranges_before-here.ensures.times u (omega (arith, ints))) in
    let kept = outside-missed c.args.span.start (end_of c.args.span) (bag h) c.args.cut.now (λ u low high. sym (alike u low high) ∙ ap (λ rs. covered rs u) none) in
    count ∙ sym (ap length kept)

pub count_outside_slot-returns-then-covers_all : goal.count_outside_slot-returns-then-covers_all
count_outside_slot-returns-then-covers_all t c above h holds count =
    let begin = ap (λ p. p.start) c.span.view_is in
    let end = c.end.ensures.end in
    let alike = here-alike c.args.span.start (end_of c.args.span) c.args.cut.now c.ranges_from.result.now c.ranges_before-here.result.now (λ u low. c.ranges_from.ensures.times u (omega (arith, ints))) (λ u high. c.ranges_before-here.ensures.times u (omega (arith, ints))) in
    let gone = outside-whole c.args.span.start (end_of c.args.span) (bag h) c.args.cut.now (λ u low high. sym (alike u low high) ∙ c.covers_all.ensures c.if-covers_all.true u low high) in
    sym (ap length gone)

pub count_outside_slots-loop-i-init : goal.count_outside_slots-loop-i-init
count_outside_slots-loop-i-init t c below h e slots each =
    sym (ap (λ x. length (outside x c.args.cut.now)) (prefix-none below c.args.span.start h))

pub count_outside_slots-count_outside_slot-requires : goal.count_outside_slots-count_outside_slot-requires
count_outside_slots-count_outside_slot-requires t c =
    let st = c.requires.some in
    let below = st.0 in
    let d = c.decreases in
    let at = slot-at c.args.span below st.2.commits c.loop-i.i c.slot.result c.slot-slot.result (node_of c.child.result) c.args.slots.now st.1 st.2.holds st.2.each c.loop-i-test.true c.slot.ensures c.slot-slot.ensures c.child.ensures in
    let few = slot-few below c.args.span.start st.2.commits c.loop-i.i c.slot.result (omega arith) at.is in
    let all = st.2.few in
    let low : c.slot.result.height ≡ below = ap (λ u. u.height) at.is in
    let high = st.1 in
    (omega arith, (record { above = is_inner (suc below) c.args.span.start; commits = st.2.commits; holds = at.holds; few = omega arith }, c.requires.cut))

pub count_outside_slots-loop-i-preserved : goal.count_outside_slots-loop-i-preserved
count_outside_slots-loop-i-preserved t c below h e slots each =
    let cut = c.args.cut.now in
    let start = c.args.span.start in
    let i = c.loop-i.i in
    let part = c.slot.result in
    let at = slot-at c.args.span below h i part c.slot-slot.result (node_of c.child.result) c.args.slots.now e slots each c.loop-i-test.true c.slot.ensures c.slot-slot.ensures c.child.ensures in
    let here = points_of part.height part.start (bag h) in
    let counted : c.agg.inside.count ≡ length here = ap (λ u. u.count) c.agg.view_is ∙ ap (λ u. u.count) at.counted ∙ agg-count here in
    let left = c.in_ok-left.ensures (is_inner (suc below) start) h at.holds counted in
    count-more (within start (slot_start below start i) (bag h)) here (within start (slot_start below start (i + 1)) (bag h)) cut c.loop-i.left c.in_ok-left.field-0 (prefix-part below start i h part at.is) (c.loop-i.invariant below h e slots each) left

pub count_outside_slots-overflow_add-left : goal.count_outside_slots-overflow_add-left
count_outside_slots-overflow_add-left t c =
    let cut = c.args.cut.now in
    let start = c.args.span.start in
    let i = c.loop-i.i in
    let part = c.slot.result in
    let st = c.requires.some in
    let below = st.0 in
    let h = st.2.commits in
    let at = slot-at c.args.span below h i part c.slot-slot.result (node_of c.child.result) c.args.slots.now st.1 st.2.holds st.2.each c.loop-i-test.true c.slot.ensures c.slot-slot.ensures c.child.ensures in
    let here = points_of part.height part.start (bag h) in
    let counted : c.agg.inside.count ≡ length here = ap (λ u. u.count) c.agg.view_is ∙ ap (λ u. u.count) at.counted ∙ agg-count here in
    let left = c.in_ok-left.ensures (is_inner (suc below) start) h at.holds counted in
    let sum = count-more (within start (slot_start below start i) (bag h)) here (within start (slot_start below start (i + 1)) (bag h)) cut c.loop-i.left c.in_ok-left.field-0 (prefix-part below start i h part at.is) (c.loop-i.invariant below h st.1 st.2.holds st.2.each) left in
    let fewer = outside-length (within start (slot_start below start (i + 1)) (bag h)) cut in
    let inside = prefix-fewer below start (i + 1) (bag h) (omega arith) in
    let few = st.2.few in
    omega arith

pub count_outside_slots-returns : goal.count_outside_slots-returns
count_outside_slots-returns t c below h e slots each =
    c.loop-i.invariant below h e slots each
    ∙ ap (λ x. length (outside x c.args.cut.now)) (prefix-done c.args.span.height below c.args.span.start c.loop-i.i h (omega arith) e)

pub count_outside_slot-count_outside_slots-requires : goal.count_outside_slot-count_outside_slots-requires
count_outside_slot-count_outside_slots-requires t c =
    let d = c.decreases in
    let some = some-slots c.args.span.height c.args.span.start 0 c.args.child c.in-Some.node c.in-Inner.version c.in-Inner.slots c.in-Some.is (sym c.deref.ensures ∙ c.in-Inner.is) c.requires.some in
    let high = some.1 in
    (omega arith, (some, c.ranges_before-here.ensures.cut))
