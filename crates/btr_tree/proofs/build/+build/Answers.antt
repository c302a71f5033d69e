use Rattle.std.proofs.Common.{◌++◌, true, refl, ◌≡◌, ℕ, suc, ◌+◌, ◌-◌, ◌*◌, ◌^◌, ◌<◌, ◌≤◌, ◌∷◌, [], pos, ◌+ℤ◌, false, List, length, sym, ap, ◌∙◌, subst, arith, ◌==◌, w64, to_z, of_z, append-nil}
use Rattle.std.proofs.lemmas.Int.{ints}
use Rattle.std.proofs.lemmas.Result.{err_from_is_err_and}
use Rattle.btr_base.proofs.PointLemmas.{filter-in_order}
use Rattle.btr_base.specs.declared.limits.TheConstants.{LEAF_POINTS}
use Rattle.btr_tree.specs.Crowd.{bottom, HasNoCrowdedSpan, IsFirstCrowd}
use Rattle.btr_tree.proofs.SlotSplitLemmas.{parted-at, parted-inside, parted-same, crowding-part, room-more}
use Rattle.btr_tree.proofs.NodeLemmas.{slot-end, child-same}
use Rattle.btr_base.specs.Bag.{within, IsInOrder}
use Rattle.btr_base.specs.Span.{time_at, width, SpanValue, IsSpan}
use Rattle.btr_base.proofs.SpanLemmas.{width-positive}
use Rattle.btr_base.specs.Agg.{agg, AggValue}
use Rattle.btr_tree.specs.History.{bag, nothing, ◌▷◌}
use Rattle.btr_tree.specs.Nodes.{points_of, is_inner, above_root}
use Rattle.btr_tree.specs.Shape.{slot_start, IsChild}
use Rattle.btr_tree.specs.declared.node.Slot.{Slot}
use Rattle.btr_tree.specs.Slots.{linked, node_of}
use Rattle.btr_tree.specs.Change.{end_of, IsFresh, IsSplit, IsCounted}
use Rattle.btr_tree.proofs.CrowdLemmas.{room-few, room-none}
use Rattle.btr_tree.proofs.BuiltNodeLemmas.{first-put, slot-fresh, slot-new, slot-made, leaf-child, inner-child_at, version-fresh}
use Rattle.std.proofs.lemmas.Bool.Decides.{nat_tests}
use Rattle.btr_tree.proofs.UntouchedNodeLemmas.{many-inner, child-counted}
use Rattle.btr_tree.proofs.AppliedNodeLemmas.{own, fresh-alone}
use Rattle.btr_tree.specs.NewNodes.{concat_first, new_nodes, bare_all}
use Rattle.btr_tree.proofs.StoredLemmas.{laid-none, laid-leaf, laid-inner, laid-put, laid-part, laid-all}
use Rattle.btr_tree.proofs.NewNodeLemmas.{first-next, new_nodes-none, new_nodes-leaf, new_nodes-inner_at, reported-more, bare-push, counts-more}
use Rattle.btr_tree.proofs.build.+build.Goals as goal

some-points : {X : Type 0} (xs : List X) → (length xs == 0) ≡ false → 0 < length xs
some-points [] e = cc
some-points (x ∷ xs) e = omega arith

pub build-returns-then-points-le-LEAF_POINTS-clause-child : goal.build-returns-then-points-le-LEAF_POINTS-clause-child
build-returns-then-points-le-LEAF_POINTS-clause-child g t c above h commit fresh =
    leaf-child c.args.span.height c.args.span.start above h commit c.args.numbering.version c.args.points.now (linked c.in_ok-push_leaf.field-0) fresh (some-points c.args.points.now (sym c.is_empty.ensures ∙ c.if-is_empty.false)) c.if-points-le-LEAF_POINTS.true c.in_ok-push_leaf.ensures.child

pub build-returns-then-points-le-LEAF_POINTS-clause-room : goal.build-returns-then-points-le-LEAF_POINTS-clause-room
build-returns-then-points-le-LEAF_POINTS-clause-room g t c =
    room-few c.args.span.start (end_of c.args.span) c.args.points.now c.if-points-le-LEAF_POINTS.true

pub build-returns-then-span-eq0-clause-fault : goal.build-returns-then-span-eq0-clause-fault
build-returns-then-span-eq0-clause-fault g t c =
    let span : IsSpan c.args.span = subst IsSpan c.span.view_is c.span.invariant in
    let low : c.args.span.height ≡ 0 = sym (ap (λ p. p.height) c.span.view_is) ∙ c.if-span-eq0.true in
    let begin = ap (λ p. p.start) c.span.view_is in
    let same : points_of 0 c.args.span.start c.args.points.now ≡ c.args.points.now = subst (λ k. within c.args.span.start (c.args.span.start +ℤ pos (width k)) c.args.points.now ≡ c.args.points.now) low c.requires.points.inside in
    let start : to_z w64 (of_z w64 c.span.inside.start) ≡ c.args.span.start = omega (arith, ints) in
    let begins = span.1.start in
    let is : c.args.span.start ≡ bottom span.0 = begins ∙ ap (λ k. time_at (span.0 * width k)) low in
    let positive = width-positive c.args.span.height in (
      span.0,
      subst (λ x. IsFirstCrowd c.args.span.start (end_of c.args.span) c.args.points.now x span.0) (sym start) (record {
        is = is;
        begins = omega (arith, ints);
        ends = omega (arith, ints);
        crowded = subst (λ x. LEAF_POINTS < length x) (sym same) c.if-points-le-LEAF_POINTS.false;
        first = room-none c.args.span.start c.args.points.now;
      }),
    )

pub build-returns-clause-child : goal.build-returns-clause-child
build-returns-clause-child g t c above h commit fresh =
    let below = c.args.span.height - 1 in
    let high : c.args.span.height ≡ suc below = omega (arith, ap (λ p. p.height) c.span.view_is, c.if-span-eq0.false) in
    let made = c.in_ok-slots.ensures.slots below h commit (record { height = high; number = fresh.number; same = fresh.same ∙ ap (λ k. points_of k c.args.span.start (bag (commit ▷ h))) high; few = subst (λ k. length (points_of k c.args.span.start (bag h)) ≤ LEAF_POINTS) high (fresh.small c.if-points-le-LEAF_POINTS.false) }) in
    inner-child_at c.args.span.height below c.args.span.start above h commit c.args.numbering.version c.args.points.now c.in_ok-slots.slots (linked c.in_ok-push_inner.field-0) high fresh c.if-points-le-LEAF_POINTS.false made.0 made.1 c.in_ok-push_inner.ensures.child

pub build_slots-build_slot-requires : goal.build_slots-build_slot-requires
build_slots-build_slot-requires g t c κs outlives =
    let below = c.args.span.height - 1 in
    let high : c.args.span.height ≡ suc below = let low = c.requires.height in omega arith in
    let end = c.end.ensures.end in
    let at = parted-at c.args.span c.slot-part.result below c.loop-i.i c.args.points.now c.loop-i.rest.now c.parted.result.0.now c.parted.result.1.now _ high c.loop-i-test.true c.slot-part.ensures c.end.ensures.span (omega (arith, ints)) (c.loop-i.invariant.rest below high) c.parted.ensures.before c.parted.ensures.from in
    let down : c.slot-part.result.height ≡ below = ap (λ u. u.height) at.is in
    let d = c.decreases in (
      omega arith,
      (
        outlives,
        record {
          order = subst IsInOrder (sym c.parted.ensures.before) (filter-in_order _ c.loop-i.rest.now c.loop-i.invariant.order);
          inside = parted-inside c.slot-part.result.start (end_of c.slot-part.result) c.args.points.now c.parted.result.0.now at.has;
          first = c.requires.points.first;
        },
      ),
    )

pub build_slots-returns-in_err-slot-clause-fault : goal.build_slots-returns-in_err-slot-clause-fault
build_slots-returns-in_err-slot-clause-fault g t c =
    let below = c.args.span.height - 1 in
    let high : c.args.span.height ≡ suc below = let low = c.requires.height in omega arith in
    let end = c.end.ensures.end in
    let at = parted-at c.args.span c.slot-part.result below c.loop-i.i c.args.points.now c.loop-i.rest.now c.parted.result.0.now c.parted.result.1.now _ high c.loop-i-test.true c.slot-part.ensures c.end.ensures.span (omega (arith, ints)) (c.loop-i.invariant.rest below high) c.parted.ensures.before c.parted.ensures.from in
    let p = err_from_is_err_and c.from_residual-in_err-slot.result c.from_residual-in_err-slot.ensures.1 in
    rw (p.1, p.2) (crowding-part c.args.span c.slot-part.result below c.loop-i.i c.args.points.now c.parted.result.0.now c.parted.result.1.now c.in_err-slot.field-0.0 at (c.loop-i.invariant.room below high) c.in_err-slot.ensures.fault)

pub build_slots-loop-i-preserved : goal.build_slots-loop-i-preserved
build_slots-loop-i-preserved g t c =
    let i = c.loop-i.i in
    let span = c.args.span in
    let part = c.slot-part.result in
    let here = c.parted.result.0.now in
    let behind = c.parted.result.1.now in
    let end = c.end.ensures.end in
    let at = λ (below : ℕ) (high : span.height ≡ suc below). parted-at span part below i c.args.points.now c.loop-i.rest.now here behind _ high c.loop-i-test.true c.slot-part.ensures c.end.ensures.span (omega (arith, ints)) (c.loop-i.invariant.rest below high) c.parted.ensures.before c.parted.ensures.from in
    record {
      rest = λ below high. (at below high).leaves;
      order = subst IsInOrder (sym c.parted.ensures.from) (filter-in_order _ c.loop-i.rest.now c.loop-i.invariant.order);
      slots = λ below h commit split.
          let parted = at below split.height in
          let same = parted-same span part below i c.args.points.now here behind (commit ▷ h) parted c.loop-i-test.true split.same in
          let fresh = slot-fresh below span.start i h commit c.args.numbering.version here c.loop-i-test.true split.number same split.few in
          let before = c.loop-i.invariant.slots below h commit split in
          let slot = slot-made below span.start i h commit c.args.numbering.version here c.in_ok-slot.slot split.number same (slot-new below span.start i h commit split.few) c.in_ok-slot.ensures.slot in
          let child = subst (λ (u : SpanValue). IsChild u.height u.start (is_inner (suc below) span.start) (commit ▷ h) (linked c.in_ok-slot.child)) parted.is (c.in_ok-slot.ensures.child (is_inner (suc below) span.start) h commit (subst (λ (u : SpanValue). IsFresh u.height u.start (is_inner (suc below) span.start) h commit c.args.numbering.version here) (sym parted.is) fresh)) in
          first-put below span.start (commit ▷ h) i c.loop-i.slots c.put.new.self c.in_ok-slot.slot (linked c.in_ok-slot.child) c.in_ok-put.ensures before slot child;
      filled = c.in_ok-put.ensures.filled;
      nodes = λ below h commit split many.
          let parted = at below split.height in
          let same = parted-same span part below i c.args.points.now here behind (commit ▷ h) parted c.loop-i-test.true split.same in
          let fresh = slot-fresh below span.start i h commit c.args.numbering.version here c.loop-i-test.true split.number same split.few in
          let inner = many-inner (suc below) span.start (bag (commit ▷ h)) (subst (λ x. LEAF_POINTS < length x) split.same many) in
          let reported = c.in_ok-slot.ensures.nodes (is_inner (suc below) span.start) h commit (subst (λ (u : SpanValue). IsFresh u.height u.start (is_inner (suc below) span.start) h commit c.args.numbering.version here) (sym parted.is) fresh) inner in
          let f = λ (j : ℕ). new_nodes below (slot_start below span.start j) (is_inner (suc below) span.start) (commit ▷ h) c.args.numbering.version in
          reported-more (bare_all c.args.nodes.now.items) (bare_all c.loop-i.nodes.items) (bare_all c.build_slot.new.nodes.items) (concat_first i f) (f i) (concat_first (i + 1) f) (c.loop-i.invariant.nodes below h commit split many) (reported ∙ ap (λ (u : SpanValue). bare_all c.loop-i.nodes.items ++ new_nodes u.height u.start (is_inner (suc below) span.start) (commit ▷ h) c.args.numbering.version) parted.is) (first-next i f);
      counted = counts-more c.args.steps.now c.loop-i.steps c.build_slot.new.steps c.args.nodes.now.items c.loop-i.nodes.items c.build_slot.new.nodes.items c.loop-i.invariant.counted c.in_ok-slot.ensures.counted;
      stored = λ store below high.
          let part_is = (at below high).is in
          laid-put store c.args.numbering.first c.loop-i.steps c.build_slot.new.steps c.loop-i.nodes.items c.build_slot.new.nodes.items below span.start i c.loop-i.slots c.put.new.self c.in_ok-slot.slot (linked c.in_ok-slot.child) c.in_ok-slot.ensures.counted c.in_ok-put.ensures (c.loop-i.invariant.stored store below high) (laid-part store c.args.numbering.first c.build_slot.new.nodes.items part below span.start i (linked c.in_ok-slot.child) part_is (c.in_ok-slot.ensures.stored store));
      room = λ below high. room-more span part below i c.args.points.now here behind (at below high) (c.loop-i.invariant.room below high) c.in_ok-slot.ensures.room;
    }

pub build_slots-returns-clause-room : goal.build_slots-returns-clause-room
build_slots-returns-clause-room g t c =
    let below = c.args.span.height - 1 in
    let high : c.args.span.height ≡ suc below = let low = c.requires.height in omega arith in
    let done : c.loop-i.i ≡ 64 = omega arith in
    subst (λ e. HasNoCrowdedSpan c.args.span.start e c.args.points.now) (ap (slot_start below c.args.span.start) done ∙ slot-end below c.args.span.start ∙ ap (λ k. c.args.span.start +ℤ pos (width k)) (sym high)) (c.loop-i.invariant.room below high)

pub build_slot-agg_of_child-agg-requires : goal.build_slot-agg_of_child-agg-requires
build_slot-agg_of_child-agg-requires g t c =
    let k = c.args.span.height in
    let s = c.args.span.start in
    let points = c.args.points.now in
    let fresh = fresh-alone k s c.args.numbering.version points c.requires.points.order c.requires.points.inside in
    let few = subst (λ x. length x < 2 ^ 64) fresh.same (omega (arith, c.if-prove.false)) in
    subst IsCounted (sym c.seen.ensures) (child-counted k s above_root (own c.args.numbering.version [] points ▷ nothing) (linked c.in_ok-child.child) few (c.in_ok-child.ensures.child above_root nothing (own c.args.numbering.version [] points) fresh))

pub build_slot-returns-clause-slot : goal.build_slot-returns-clause-slot
build_slot-returns-clause-slot g t c =
    let k = c.args.span.height in
    let s = c.args.span.start in
    let points = c.args.points.now in
    let mine = own c.args.numbering.version [] points in
    let fresh = fresh-alone k s c.args.numbering.version points c.requires.points.order c.requires.points.inside in
    let child = child-same k s above_root (mine ▷ nothing) (linked c.in_ok-child.child) (node_of c.seen.result) c.seen.ensures (c.in_ok-child.ensures.child above_root nothing mine fresh) in
    ap (λ (a : AggValue). let made : Slot = record { agg = a; version = c.args.numbering.version; child = 0 } in made) (c.agg_of_child-agg.ensures k s above_root (mine ▷ nothing) child ∙ ap agg (sym fresh.same))

empty-is : {X : Type 0} (xs : List X) → (length xs == 0) ≡ true → xs ≡ []
empty-is [] e = refl
empty-is (x ∷ xs) e = absurd (grind (arith, nat_tests))

pub build-returns-then-is_empty-clause-nodes : goal.build-returns-then-is_empty-clause-nodes
build-returns-then-is_empty-clause-nodes g t c above h commit fresh w =
    let none = empty-is c.args.points.now (sym c.is_empty.ensures ∙ c.if-is_empty.true) in
    sym (ap (λ x. bare_all c.args.nodes.now.items ++ x) (new_nodes-none c.args.span.height c.args.span.start above (commit ▷ h) c.args.numbering.version (sym fresh.same ∙ none)) ∙ append-nil (bare_all c.args.nodes.now.items))

pub build-returns-then-points-le-LEAF_POINTS-clause-nodes : goal.build-returns-then-points-le-LEAF_POINTS-clause-nodes
build-returns-then-points-le-LEAF_POINTS-clause-nodes g t c above h commit fresh w =
    let k = c.args.span.height in
    let s = c.args.span.start in
    bare-push c.args.nodes.now.items c.push_leaf.new.nodes.items _ c.in_ok-push_leaf.ensures.nodes
    ∙ ap (λ x. bare_all c.args.nodes.now.items ++ x) (sym (new_nodes-leaf k s above (commit ▷ h) c.args.numbering.version c.args.points.now w (version-fresh k s above h commit c.args.numbering.version fresh.number fresh.fresh) fresh.same (some-points c.args.points.now (sym c.is_empty.ensures ∙ c.if-is_empty.false)) c.if-points-le-LEAF_POINTS.true))

pub build-returns-clause-nodes : goal.build-returns-clause-nodes
build-returns-clause-nodes g t c above h commit fresh w =
    let k = c.args.span.height in
    let s = c.args.span.start in
    let below = c.args.span.height - 1 in
    let high : c.args.span.height ≡ suc below = omega (arith, ap (λ p. p.height) c.span.view_is, c.if-span-eq0.false) in
    let split : IsSplit below c.args.span h commit c.args.numbering.version c.args.points.now = record { height = high; number = fresh.number; same = fresh.same ∙ ap (λ j. points_of j s (bag (commit ▷ h))) high; few = subst (λ j. length (points_of j s (bag h)) ≤ LEAF_POINTS) high (fresh.small c.if-points-le-LEAF_POINTS.false) } in
    let made = c.in_ok-slots.ensures.slots below h commit split in
    let reported = c.in_ok-slots.ensures.nodes below h commit split c.if-points-le-LEAF_POINTS.false in
    reported-more (bare_all c.args.nodes.now.items) (bare_all c.build_slots.new.nodes.items) (bare_all c.push_inner.new.nodes.items) _ _ (new_nodes k s above (commit ▷ h) c.args.numbering.version) reported (bare-push c.build_slots.new.nodes.items c.push_inner.new.nodes.items _ c.in_ok-push_inner.ensures.nodes) (new_nodes-inner_at k below s above (commit ▷ h) c.args.numbering.version c.in_ok-slots.slots high w (version-fresh k s above h commit c.args.numbering.version fresh.number fresh.fresh) (subst (λ x. LEAF_POINTS < length x) fresh.same c.if-points-le-LEAF_POINTS.false) made.0)

pub build_slots-returns-clause-nodes : goal.build_slots-returns-clause-nodes
build_slots-returns-clause-nodes g t c below h commit split many =
    let done : c.loop-i.i ≡ 64 = omega arith in
    c.loop-i.invariant.nodes below h commit split many
    ∙ ap (λ n. bare_all c.args.nodes.now.items ++ concat_first n (λ j. new_nodes below (slot_start below c.args.span.start j) (is_inner (suc below) c.args.span.start) (commit ▷ h) c.args.numbering.version)) done

-- ---- how many nodes there are

pub build_slots-returns-clause-counted : goal.build_slots-returns-clause-counted
build_slots-returns-clause-counted g t c = c.loop-i.invariant.counted

-- ---- where the nodes are

pub build-returns-then-is_empty-clause-stored : goal.build-returns-then-is_empty-clause-stored
build-returns-then-is_empty-clause-stored g t c store =
    laid-none store c.args.numbering.first c.args.nodes.now.items c.args.span.height c.args.span.start (linked c.none.result) c.requires.points.first.0 c.none.ensures

pub build-returns-then-points-le-LEAF_POINTS-clause-stored : goal.build-returns-then-points-le-LEAF_POINTS-clause-stored
build-returns-then-points-le-LEAF_POINTS-clause-stored g t c store =
    laid-leaf store c.args.numbering.first c.args.nodes.now.items c.push_leaf.new.nodes.items c.args.span c.args.numbering.version c.args.points.now (linked c.in_ok-push_leaf.field-0) c.requires.points.first.0 c.in_ok-push_leaf.ensures.child c.in_ok-push_leaf.ensures.block c.in_ok-push_leaf.ensures.nodes

pub build-returns-clause-stored : goal.build-returns-clause-stored
build-returns-clause-stored g t c store =
    let below = c.args.span.height - 1 in
    let high : c.args.span.height ≡ suc below = omega (arith, ap (λ p. p.height) c.span.view_is, c.if-span-eq0.false) in
    laid-inner store c.args.numbering.first c.build_slots.new.nodes.items c.push_inner.new.nodes.items c.args.span below c.args.numbering.version c.in_ok-slots.slots (linked c.in_ok-push_inner.field-0) c.requires.points.first.0 high c.in_ok-push_inner.ensures.child c.in_ok-push_inner.ensures.block c.in_ok-push_inner.ensures.nodes (c.in_ok-slots.ensures.stored store below high)

pub build_slots-returns-clause-stored : goal.build_slots-returns-clause-stored
build_slots-returns-clause-stored g t c store below high =
    let done : c.loop-i.i ≡ 64 = omega arith in
    laid-all store c.args.numbering.first c.loop-i.i c.loop-i.nodes.items below c.args.span.start c.loop-i.slots done (c.loop-i.invariant.stored store below high)
