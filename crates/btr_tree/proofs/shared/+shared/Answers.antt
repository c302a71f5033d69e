use Rattle.std.proofs.Common.{◌≡◌, ◌<◌, ◌+◌, ◌-◌, ◌^◌, suc, length, List, sym, ap, ◌∙◌, subst, arith}
use Rattle.std.proofs.lemmas.Int.{ints}
use Rattle.std.proofs.lemmas.Result.{err_from_is_err_and, IfOk-at_ok}
use Rattle.btr_base.specs.Span.{SpanValue, IsSpan, slot_of}
use Rattle.btr_base.specs.declared.point.Point.{Point}
use Rattle.btr_base.specs.Agg.{agg}
use Rattle.btr_tree.specs.Change.{IsCounted}
use Rattle.btr_tree.specs.History.{bag, nothing, ◌▷◌}
use Rattle.btr_tree.specs.NewNodes.{concat_first}
use Rattle.btr_tree.specs.Nodes.{above_root, points_of}
use Rattle.btr_tree.specs.Shared.{slot_nodes, IsBuilt, IsBuiltPart}
use Rattle.btr_tree.specs.Slots.{linked, node_of}
use Rattle.btr_tree.proofs.NodeLemmas.{child-same}
use Rattle.btr_tree.proofs.SharedLemmas.{alone, alone-fresh, alone-part}
use Rattle.btr_tree.proofs.PartLemmas.{later-room, later-work, halved, front-work, back-work, both-room, halves-fault, part-joined, counted-reported, one-inside, one-part, whole-work, whole-fault, whole-built}
use Rattle.btr_tree.proofs.UntouchedNodeLemmas.{child-counted}
use Rattle.btr_tree.proofs.shared.+shared.Goals as goal

-- ---- two parts

pub build_at_once-returns-clause-back : goal.build_at_once-returns-clause-back
build_at_once-returns-clause-back g t c =
    let below = c.args.halves.now.span.height - 1 in
    let w = c.requires.halves.front in
    let some = w.height in
    let high : c.args.halves.now.span.height ≡ suc below = omega arith in
    let split = alone-part below c.args.halves.now.span c.args.halves.now.from c.args.halves.now.mid c.args.halves.now.numbering.version c.args.halves.now.front.now high w.place c.requires.many.1 w.order w.inside in
    let low = IfOk-at_ok (λ r. IsBuiltPart c.args.halves.now.span c.args.halves.now.from c.args.halves.now.mid c.args.halves.now.numbering.version c.args.halves.now.numbering.first c.args.halves.now.front.now r.slots r.nodes.items) c.in_ok-low.was c.join-a.ensures.first.0 in
    let f = slot_nodes below c.args.halves.now.span.start (alone c.args.halves.now.numbering.version c.args.halves.now.front.now ▷ nothing) c.args.halves.now.numbering.version in
    let same = counted-reported (concat_first c.args.halves.now.from f) (concat_first c.args.halves.now.mid f) c.in_ok-low.low.nodes.items c.count_slots-count.result (low.nodes below nothing (alone c.args.halves.now.numbering.version c.args.halves.now.front.now) split) (c.count_slots-count.ensures.count c.args.halves.now.numbering.version below nothing (alone c.args.halves.now.numbering.version c.args.halves.now.front.now) split) in
    subst (λ n. IsBuiltPart c.args.halves.now.span c.args.halves.now.mid c.args.halves.now.to c.args.halves.now.numbering.version (c.args.halves.now.numbering.first + n) c.args.halves.now.back.now c.in_ok-high.high.slots c.in_ok-high.high.nodes.items) same (IfOk-at_ok (λ r. IsBuiltPart c.args.halves.now.span c.args.halves.now.mid c.args.halves.now.to c.args.halves.now.numbering.version (c.args.halves.now.numbering.first + c.count_slots-count.result) c.args.halves.now.back.now r.slots r.nodes.items) c.in_ok-high.was c.join-a.ensures.second.0)

pub build_at_once-overflow_add-after : goal.build_at_once-overflow_add-after
build_at_once-overflow_add-after g t c =
    let span = c.args.halves.now.span in
    let most = later-room span c.args.halves.now.numbering.first c.count_slots-count.result (length c.args.halves.now.front.now) (length c.args.halves.now.back.now) (subst IsSpan c.span.view_is c.span.invariant) c.count_slots-count.ensures.few c.requires.halves.room in
    omega arith

pub build_two-build_part-requires-2-after_bounds : goal.build_two-build_part-requires-2-after_bounds
build_two-build_part-requires-2-after_bounds g t c κs outlives =
    let span = c.args.halves.now.span in
    let first = c.args.halves.now.numbering.first in
    let back = c.args.halves.now.back.now in
    let built = c.in_ok-low.low.nodes.items in
    let most = later-room span first (length built) (length c.args.halves.now.front.now) (length back) (subst IsSpan c.span.view_is c.span.invariant) c.in_ok-low.ensures.part.few c.requires.room in
    let is = c.len.ensures in
    later-work span c.args.halves.now.mid c.args.halves.now.to back first (first + c.len.result) (omega arith) (omega arith) c.requires.back

-- ---- one slot

pub build_one-agg_of_child-requires : goal.build_one-agg_of_child-requires
build_one-agg_of_child-requires g t c =
    let part = slot_of c.args.work.now.span c.args.i in
    let built = subst (λ (u : SpanValue). IsBuilt u c.args.work.now.numbering.version c.args.work.now.numbering.first c.args.work.now.points.now (linked c.in_ok-built.built.root) c.in_ok-built.built.nodes.items) c.slot-part.ensures c.in_ok-built.ensures.built in
    let fresh = alone-fresh part.height part.start c.args.work.now.numbering.version c.args.work.now.points.now c.requires.order (one-inside c.args.work.now.span c.args.i c.args.work.now.points.now c.requires.inside) in
    let room = c.requires.room in
    let few : length (points_of part.height part.start (bag (alone c.args.work.now.numbering.version c.args.work.now.points.now ▷ nothing))) < 2 ^ 64 = subst (λ (x : List Point). length x < 2 ^ 64) fresh.same (omega arith) in
    subst IsCounted (sym c.seen.ensures) (child-counted part.height part.start above_root (alone c.args.work.now.numbering.version c.args.work.now.points.now ▷ nothing) (linked c.in_ok-built.built.root) few (built.child above_root nothing (alone c.args.work.now.numbering.version c.args.work.now.points.now) fresh))

pub build_one-returns-clause-part : goal.build_one-returns-clause-part
build_one-returns-clause-part g t c =
    let part = slot_of c.args.work.now.span c.args.i in
    let place = c.requires.place in
    let built = subst (λ (u : SpanValue). IsBuilt u c.args.work.now.numbering.version c.args.work.now.numbering.first c.args.work.now.points.now (linked c.in_ok-built.built.root) c.in_ok-built.built.nodes.items) c.slot-part.ensures c.in_ok-built.ensures.built in
    let fresh = alone-fresh part.height part.start c.args.work.now.numbering.version c.args.work.now.points.now c.requires.order (one-inside c.args.work.now.span c.args.i c.args.work.now.points.now c.requires.inside) in
    let mine = alone c.args.work.now.numbering.version c.args.work.now.points.now in
    let is : c.agg_of_child.result ≡ agg c.args.work.now.points.now = c.agg_of_child.ensures part.height part.start above_root (mine ▷ nothing) (child-same part.height part.start above_root (mine ▷ nothing) (linked c.in_ok-built.built.root) (node_of c.seen.result) c.seen.ensures (built.child above_root nothing mine fresh)) ∙ ap agg (sym fresh.same) in
    one-part c.args.work.now.span c.args.i c.args.work.now.numbering.version c.args.work.now.numbering.first c.args.work.now.points.now _ (linked c.in_ok-built.built.root) c.in_ok-slots.slots c.put.new.self c.in_ok-built.built.nodes.items c.requires.height (omega arith) c.in_ok-put.ensures c.in_ok-slots.ensures.base (ap (λ a. record { agg = a; version = c.args.work.now.numbering.version; child = 0 }) is) built

-- ---- some slots

pub build_part-build_two-requires-after_bounds : goal.build_part-build_two-requires-after_bounds
build_part-build_two-requires-after_bounds g t c κs outlives =
    let aligned : IsSpan (slot_of c.args.work.now.span c.middle-mid.result) = subst IsSpan (c.parted.view_is ∙ c.slot.ensures) c.parted.invariant in
    let begin = ap (λ (p : SpanValue). p.start) (c.parted.view_is ∙ c.slot.ensures) in
    let h = halved c.args.work.now.span c.args.work.now.from c.middle-mid.result c.args.work.now.to c.args.work.now.points.now c.parted-2.result.0.now c.parted-2.result.1.now _ c.middle-mid.ensures.0 c.middle-mid.ensures.1 aligned (omega (arith, ints)) c.requires.inside c.parted-2.ensures.before c.parted-2.ensures.from c.parted-2.ensures.all in
    record {
      front = front-work c.args.work.now.span c.args.work.now.from c.middle-mid.result c.args.work.now.to c.args.work.now.points.now c.parted-2.result.0.now c.parted-2.result.1.now c.args.work.now.numbering.first c.requires h;
      back = back-work c.args.work.now.span c.args.work.now.from c.middle-mid.result c.args.work.now.to c.args.work.now.points.now c.parted-2.result.0.now c.parted-2.result.1.now c.args.work.now.numbering.first c.requires h;
      room = both-room c.args.work.now.span c.args.work.now.from c.middle-mid.result c.args.work.now.to c.args.work.now.points.now c.parted-2.result.0.now c.parted-2.result.1.now c.args.work.now.numbering.first c.requires h;
    }

pub build_part-returns-in_err-low-clause-fault : goal.build_part-returns-in_err-low-clause-fault
build_part-returns-in_err-low-clause-fault g t c =
    let aligned : IsSpan (slot_of c.args.work.now.span c.middle-mid.result) = subst IsSpan (c.parted.view_is ∙ c.slot.ensures) c.parted.invariant in
    let begin = ap (λ (p : SpanValue). p.start) (c.parted.view_is ∙ c.slot.ensures) in
    let h = halved c.args.work.now.span c.args.work.now.from c.middle-mid.result c.args.work.now.to c.args.work.now.points.now c.parted-2.result.0.now c.parted-2.result.1.now _ c.middle-mid.ensures.0 c.middle-mid.ensures.1 aligned (omega (arith, ints)) c.requires.inside c.parted-2.ensures.before c.parted-2.ensures.from c.parted-2.ensures.all in
    let p = err_from_is_err_and c.from_residual.result c.from_residual.ensures.1 in
    rw (p.1, p.2) (halves-fault c.args.work.now.span c.args.work.now.from c.middle-mid.result c.args.work.now.to c.args.work.now.points.now c.parted-2.result.0.now c.parted-2.result.1.now c.in_err-low.field-0.0 h c.in_err-low.ensures.fault)

pub build_part-returns-clause-part : goal.build_part-returns-clause-part
build_part-returns-clause-part g t c =
    let aligned : IsSpan (slot_of c.args.work.now.span c.middle-mid.result) = subst IsSpan (c.parted.view_is ∙ c.slot.ensures) c.parted.invariant in
    let begin = ap (λ (p : SpanValue). p.start) (c.parted.view_is ∙ c.slot.ensures) in
    let h = halved c.args.work.now.span c.args.work.now.from c.middle-mid.result c.args.work.now.to c.args.work.now.points.now c.parted-2.result.0.now c.parted-2.result.1.now _ c.middle-mid.ensures.0 c.middle-mid.ensures.1 aligned (omega (arith, ints)) c.requires.inside c.parted-2.ensures.before c.parted-2.ensures.from c.parted-2.ensures.all in
    let low = c.in_ok-low.low in
    let high = c.in_ok-low.high in
    part-joined c.args.work.now.span c.args.work.now.from c.middle-mid.result c.args.work.now.to c.args.work.now.numbering.version c.args.work.now.numbering.first c.args.work.now.points.now c.parted-2.result.0.now c.parted-2.result.1.now low.slots high.slots c.in_ok-joined.field-0.slots low.nodes.items high.nodes.items c.in_ok-joined.field-0.nodes.items h c.in_ok-low.ensures.front c.in_ok-low.ensures.back c.in_ok-joined.ensures.slots c.in_ok-joined.ensures.nodes

-- ---- a span

pub build_shared-build_part-requires-after_bounds : goal.build_shared-build_part-requires-after_bounds
build_shared-build_part-requires-after_bounds g t c κs outlives =
    let below = c.args.work.now.span.height - 1 in
    let high : c.args.work.now.span.height ≡ suc below = omega (arith, ap (λ p. p.height) c.span.view_is, c.if-span-eq0.false) in
    whole-work c.args.work.now.span below c.args.work.now.points.now c.args.work.now.numbering.first high c.requires

pub build_shared-returns-in_err-part-clause-fault : goal.build_shared-returns-in_err-part-clause-fault
build_shared-returns-in_err-part-clause-fault g t c =
    let below = c.args.work.now.span.height - 1 in
    let high : c.args.work.now.span.height ≡ suc below = omega (arith, ap (λ p. p.height) c.span.view_is, c.if-span-eq0.false) in
    let p = err_from_is_err_and c.from_residual.result c.from_residual.ensures.1 in
    rw (p.1, p.2) (whole-fault c.args.work.now.span below c.args.work.now.points.now c.in_err-part.field-0.0 high c.in_err-part.ensures.fault)

pub build_shared-returns-clause-built : goal.build_shared-returns-clause-built
build_shared-returns-clause-built g t c =
    let below = c.args.work.now.span.height - 1 in
    let high : c.args.work.now.span.height ≡ suc below = omega (arith, ap (λ p. p.height) c.span.view_is, c.if-span-eq0.false) in
    let many = c.if-work-lt-SHARED_POINTS.false in
    whole-built c.args.work.now.span below c.args.work.now.numbering.version c.args.work.now.numbering.first c.args.work.now.points.now c.in_ok-part.part.slots c.in_ok-part.part.nodes.items c.push_inner.new.nodes.items (linked c.in_ok-root.root) high c.requires.some (omega arith) c.in_ok-part.ensures.part c.in_ok-root.ensures.child c.in_ok-root.ensures.block c.in_ok-root.ensures.nodes
