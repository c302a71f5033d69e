use Rattle.std.proofs.Common.{◌≡◌, ℕ, ◌<◌, length, pos, List, ◌||◌, ◌++◌, ◌∙◌, ap, sym, subst, arith, get_or, w64, to_z, of_z}
use Rattle.std.proofs.lemmas.Int.{to_z-of_z}
use Rattle.btr_base.specs.declared.limits.TheConstants.{FIRST, END}
use Rattle.btr_base.specs.declared.point.Point.{Point}
use Rattle.btr_base.specs.Point.{InDomain}
use Rattle.btr_base.specs.Range.{covered, contains}
use Rattle.btr_base.specs.Bag.{IsInOrder, within, sort}
use Rattle.btr_base.specs.Changes.{differ_at, slot_around}
use Rattle.btr_base.proofs.PointLemmas.{sort-in_order}
use Rattle.btr_hist.proofs.Differ.{hits-more, hits-same, changes-found, within-domain}
use Rattle.btr_hist.proofs.changed.changed_ranges.Goals as goal
use Rattle.btr_hist.proofs.changed.changed_ranges.Goals.{then-differ_at+in_ok-add, else-differ_at}

pub points_between-point-items-requires : goal.points_between-point-items-requires
points_between-point-items-requires c =
    subst IsInOrder (sym (c.deref.ensures.value ∙ c.in_ok-both.ensures)) (sort-in_order (c.args.old.now ++ c.args.new.now))

-- The point at an index, as machine words.
here : (ps all : List Point) (i : ℕ) (d : Point) → ps ≡ within FIRST END all → i < length ps → to_z w64 (of_z w64 (get_or ps i d).time) ≡ (get_or ps i d).time → InDomain (to_z w64 (of_z w64 (get_or ps i d).time))
here ps all i d is low fits = subst InDomain (sym fits) (within-domain ps all i d is low)

pub differ_at-requires-clause-domain : goal.differ_at-requires-clause-domain
differ_at-requires-clause-domain c =
    let ps = c.points_between-point-items.result.now in
    let d : Point = record { time = pos 0; value = pos 0 } in
    let fits : to_z w64 (of_z w64 (get_or ps c.loop-point.point-index d).time) ≡ (get_or ps c.loop-point.point-index d).time = grind (arith, to_z-of_z) in
    here ps c.deref.result.now c.loop-point.point-index d c.points_between-point-items.ensures c.loop-point-test.true fits

pub slot_around-requires-clause-domain : goal.slot_around-requires-clause-domain
slot_around-requires-clause-domain c =
    let ps = c.points_between-point-items.result.now in
    let d : Point = record { time = pos 0; value = pos 0 } in
    let fits : to_z w64 (of_z w64 (get_or ps c.loop-point.point-index d).time) ≡ (get_or ps c.loop-point.point-index d).time = grind (arith, to_z-of_z) in
    here ps c.deref.result.now c.loop-point.point-index d c.points_between-point-items.ensures c.loop-point-test.true fits

pub loop-point-preserved : goal.loop-point-preserved
loop-point-preserved c =
    let p = c.args.p in
    let old = c.args.old.now in
    let new = c.args.new.now in
    let ps = c.points_between-point-items.result.now in
    let i = c.loop-point.point-index in
    let d : Point = record { time = pos 0; value = pos 0 } in
    let q : Point = get_or ps i d in
    let fits : to_z w64 (of_z w64 q.time) ≡ q.time = grind (arith, to_z-of_z) in
    let differ : c.differ_at.result ≡ differ_at old new q.time = c.differ_at.ensures ∙ ap (differ_at old new) fits in
    elim c.if-differ_at.branch [
      | then-differ_at+in_ok-add w ↦ λ t.
          let slot : w.slot_around.result ≡ slot_around p q.time = w.slot_around.ensures ∙ ap (slot_around p) fits in
          hits-more p old new t ps i d (covered c.loop-point.found t) (covered c.if-differ_at.found t) c.loop-point-test.true (sym differ ∙ w.if-differ_at.true) (c.loop-point.invariant t)
          (ap (λ rs. covered rs t) w.found-is ∙ w.in_ok-add.ensures.times t ∙ ap (λ r. contains r t || covered c.loop-point.found t) slot)
      | else-differ_at w ↦ λ t.
          hits-same p old new t ps i d (covered c.loop-point.found t) (covered c.if-differ_at.found t) c.loop-point-test.true (sym differ ∙ w.if-differ_at.false) (c.loop-point.invariant t)
          (ap (λ rs. covered rs t) w.found-is)
    ]

pub returns : goal.returns
returns c =
    let ps = c.points_between-point-items.result.now in
    let is : ps ≡ within FIRST END (sort (c.args.old.now ++ c.args.new.now)) = c.points_between-point-items.ensures ∙ ap (within FIRST END) (c.deref.ensures.value ∙ c.in_ok-both.ensures) in
    changes-found c.args.p c.args.old.now c.args.new.now ps c.loop-point.point-index c.loop-point.found c.requires.power c.as_slice.ensures.cut is c.loop-point-test.false c.loop-point.invariant
