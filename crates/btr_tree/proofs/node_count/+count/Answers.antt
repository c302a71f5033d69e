use Rattle.std.proofs.Common.{◌≡◌, ◌<◌, ◌≤◌, ◌+◌, ◌-◌, ◌*◌, ◌==◌, ◌∷◌, [], ℕ, suc, length, List, false, sym, ap, ◌∙◌, subst, arith, inl, inr, mul-le-mul_right, zero-add}
use Rattle.std.proofs.lemmas.Int.{ints}
use Rattle.std.proofs.lemmas.List.{length-append}
use Rattle.btr_base.proofs.PointLemmas.{filter-in_order}
use Rattle.btr_base.specs.declared.point.Point.{Point}
use Rattle.btr_base.specs.declared.limits.TheConstants.{LEAF_POINTS}
use Rattle.btr_base.specs.Bag.{within, IsInOrder}
use Rattle.btr_base.specs.Span.{SpanValue}
use Rattle.btr_tree.specs.History.{bag, ◌▷◌}
use Rattle.btr_tree.specs.Nodes.{is_inner}
use Rattle.btr_tree.specs.Change.{IsFresh, end_of}
use Rattle.btr_tree.specs.NewNodes.{new_nodes}
use Rattle.btr_tree.specs.Shared.{slot_from, slot_nodes}
use Rattle.btr_tree.proofs.BuiltNodeLemmas.{slot-fresh, version-fresh}
use Rattle.btr_tree.proofs.UntouchedNodeLemmas.{many-inner}
use Rattle.btr_tree.proofs.SlotSplitLemmas.{parted-at, parted-inside}
use Rattle.btr_tree.proofs.NodeLemmas.{slot-part}
use Rattle.btr_tree.proofs.SharedLemmas.{slot_from-first, slot_from-last, part-tail, part-same, count-one, count-inner, first-length, few-more, fewer, whole-split}
use Rattle.btr_tree.proofs.node_count.+count.Goals as goal
use Rattle.btr_tree.proofs.node_count.+count.Goals.{count_nodes-then-points-le-LEAF_POINTS-via-then-points-le-LEAF_POINTS, count_nodes-then-points-le-LEAF_POINTS-via-else-points-le-LEAF_POINTS+then-span-eq0}

some-points : {X : Type 0} (xs : List X) → (length xs == 0) ≡ false → 0 < length xs
some-points [] e = cc
some-points (x ∷ xs) e = omega arith

pub count_nodes-returns-then-points-le-LEAF_POINTS-clause-count :
    goal.count_nodes-returns-then-points-le-LEAF_POINTS-clause-count
count_nodes-returns-then-points-le-LEAF_POINTS-clause-count t c version above h commit fresh w =
    let k = c.args.span.height in
    let s = c.args.span.start in
    let some = some-points c.args.points.now (sym c.is_empty.ensures ∙ c.if-is_empty.false) in
    count-one k s above (commit ▷ h) version w (subst (λ x. 0 < length x) fresh.same some) (version-fresh k s above h commit version fresh.number fresh.fresh) (elim c.then-points-le-LEAF_POINTS.branch [
      | count_nodes-then-points-le-LEAF_POINTS-via-then-points-le-LEAF_POINTS w ↦ inl (subst (λ x. length x ≤ LEAF_POINTS) fresh.same w.if-points-le-LEAF_POINTS.true)
      | count_nodes-then-points-le-LEAF_POINTS-via-else-points-le-LEAF_POINTS+then-span-eq0 w ↦ inr (sym (ap (λ p. p.height) c.span.view_is) ∙ w.if-span-eq0.true)
    ])

pub count_nodes-count_slots-requires : goal.count_nodes-count_slots-requires
count_nodes-count_slots-requires t c =
    let below = c.args.span.height - 1 in
    let high : c.args.span.height ≡ suc below = omega (arith, ap (λ p. p.height) c.span.view_is, c.if-span-eq0.false) in
    let inside = ap (λ x. within x (slot_from c.args.span 64) c.args.points.now) (slot_from-first c.args.span) ∙ ap (λ x. within c.args.span.start x c.args.points.now) (slot_from-last c.args.span below high) ∙ c.requires.inside in
    let d = c.decreases in
    (omega arith, (omega arith, ((omega arith, omega arith), (c.requires.order, (inside, c.requires.room)))))

pub count_nodes-returns-clause-count : goal.count_nodes-returns-clause-count
count_nodes-returns-clause-count t c version above h commit fresh w =
    let k = c.args.span.height in
    let s = c.args.span.start in
    let below = c.args.span.height - 1 in
    let high : c.args.span.height ≡ suc below = omega (arith, ap (λ p. p.height) c.span.view_is, c.if-span-eq0.false) in
    let many : LEAF_POINTS < length c.args.points.now = c.if-points-le-LEAF_POINTS.false in
    let all = c.count_slots.ensures.count version below h commit (whole-split below c.args.span above h commit version c.args.points.now high many fresh) in
    count-inner k below s above (commit ▷ h) version c.count_slots.result high w (subst (λ x. LEAF_POINTS < length x) fresh.same many) (version-fresh k s above h commit version fresh.number fresh.fresh) (sym (all ∙ zero-add c.count_slots.result))

pub count_slots-loop-i-init : goal.count_slots-loop-i-init
count_slots-loop-i-init t c =
    record {
      rest = λ below high. part-tail c.args.span below c.args.from c.args.to c.args.points.now high c.requires.place.1 c.requires.inside;
      order = c.requires.order;
      count = λ version below h commit split. omega arith;
      few = omega arith;
    }

pub count_slots-count_nodes-count-requires : goal.count_slots-count_nodes-count-requires
count_slots-count_nodes-count-requires t c =
    let below = c.args.span.height - 1 in
    let high : c.args.span.height ≡ suc below = let low = c.requires.height in omega arith in
    let end = c.end.ensures.end in
    let place = c.requires.place in
    let less : c.loop-i.i < 64 = let lt = c.loop-i-test.true in omega arith in
    let at = parted-at c.args.span c.slot-part.result below c.loop-i.i c.args.points.now c.loop-i.rest.now c.parted.result.0.now c.parted.result.1.now _ high less c.slot-part.ensures c.end.ensures.span (omega (arith, ints)) (c.loop-i.invariant.rest below high) c.parted.ensures.before c.parted.ensures.from in
    let down : c.slot-part.result.height ≡ below = ap (λ u. u.height) at.is in
    let d = c.decreases in
    let few = fewer c.args.span.height c.loop-i.count (length c.loop-i.rest.now) (length c.args.points.now) c.requires.height c.loop-i.invariant.few in
    let sum = sym (length-append c.parted.result.0.now c.parted.result.1.now) ∙ ap (length {A = Point}) c.parted.ensures.all in
    let room = c.requires.room in
    (omega arith, (subst IsInOrder (sym c.parted.ensures.before) (filter-in_order _ c.loop-i.rest.now c.loop-i.invariant.order), (parted-inside c.slot-part.result.start (end_of c.slot-part.result) c.args.points.now c.parted.result.0.now at.has, omega arith)))

pub count_slots-overflow_add-count : goal.count_slots-overflow_add-count
count_slots-overflow_add-count t c =
    let below = c.args.span.height - 1 in
    let high : c.args.span.height ≡ suc below = let low = c.requires.height in omega arith in
    let down : c.slot-part.result.height ≡ below = ap (λ u. u.height) (c.slot-part.ensures ∙ slot-part c.args.span below c.loop-i.i high) in
    let next : c.slot-part.result.height + 1 ≡ c.args.span.height = omega arith in
    let aligned = c.end.ensures.span.1.height in
    let k = c.args.span.height in
    let points = length c.args.points.now in
    let sum = sym (length-append c.parted.result.0.now c.parted.result.1.now) ∙ ap (length {A = Point}) c.parted.ensures.all in
    let few = few-more c.loop-i.count c.count_nodes-count.result c.slot-part.result.height k (length c.loop-i.rest.now) (length c.parted.result.0.now) (length c.parted.result.1.now) (k * points) c.loop-i.invariant.few c.count_nodes-count.ensures.few next sum in
    let most : k ≤ 11 = omega arith in
    let all : k * points ≤ 11 * points = mul-le-mul_right points most in
    let room = c.requires.room in
    omega arith

pub count_slots-loop-i-preserved : goal.count_slots-loop-i-preserved
count_slots-loop-i-preserved t c =
    let i = c.loop-i.i in
    let span = c.args.span in
    let part = c.slot-part.result in
    let here = c.parted.result.0.now in
    let behind = c.parted.result.1.now in
    let end = c.end.ensures.end in
    let place = c.requires.place in
    let less : c.loop-i.i < 64 = let lt = c.loop-i-test.true in omega arith in
    let from = c.loop-i.auto.i in
    let at = λ (below : ℕ) (high : span.height ≡ suc below). parted-at span part below i c.args.points.now c.loop-i.rest.now here behind _ high less c.slot-part.ensures c.end.ensures.span (omega (arith, ints)) (c.loop-i.invariant.rest below high) c.parted.ensures.before c.parted.ensures.from in
    let down : (below : ℕ) → span.height ≡ suc below → part.height + 1 ≡ span.height = λ below high.
    let d : part.height ≡ below = ap (λ u. u.height) (c.slot-part.ensures ∙ slot-part span below i high) in omega arith
    in
    let sum = sym (length-append here behind) ∙ ap (length {A = Point}) c.parted.ensures.all in
    record {
      rest = λ below high. (at below high).leaves;
      order = subst IsInOrder (sym c.parted.ensures.from) (filter-in_order _ c.loop-i.rest.now c.loop-i.invariant.order);
      count = λ version below h commit split.
          let parted = at below split.height in
          let same = part-same span part below i c.args.from c.args.to c.args.points.now here behind (bag (commit ▷ h)) parted (omega arith) c.loop-i-test.true split.same in
          let fresh = slot-fresh below span.start i h commit version here less split.number same split.few in
          let inner = many-inner (suc below) span.start (bag (commit ▷ h)) split.many in
          let reported = c.count_nodes-count.ensures.count version (is_inner (suc below) span.start) h commit (subst (λ (u : SpanValue). IsFresh u.height u.start (is_inner (suc below) span.start) h commit version here) (sym parted.is) fresh) inner in
          let one = ap (λ (u : SpanValue). length (new_nodes u.height u.start (is_inner (suc below) span.start) (commit ▷ h) version)) parted.is in
          let before = c.loop-i.invariant.count version below h commit split in
          let next = first-length i (slot_nodes below span.start (commit ▷ h) version) in
          omega arith;
      few = few-more c.loop-i.count c.count_nodes-count.result part.height span.height (length c.loop-i.rest.now) (length here) (length behind) (span.height * length c.args.points.now) c.loop-i.invariant.few c.count_nodes-count.ensures.few (down (span.height - 1) (let low = c.requires.height in omega arith)) sum;
    }
