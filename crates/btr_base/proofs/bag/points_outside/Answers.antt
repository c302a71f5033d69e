use Rattle.std.proofs.Common.{ℕ, ◌≡◌, ◌+◌, ◌<◌, Bool, true, false, cond, not, ℤ, pos, ◌≤ℤ◌, List, [], ◌∷◌, ◌++◌, ◌∙◌, sym, ap, subst, arith, append_assoc, length, get_or, drop, w64, to_z, of_z}
use Rattle.std.proofs.lemmas.List.{drop_more}
use Rattle.std.proofs.lemmas.Int.{ints, to_z-of_z}
use Rattle.btr_base.specs.declared.point.Point.{Point}
use Rattle.btr_base.specs.Point.{is_not_after}
use Rattle.btr_base.specs.Range.{RangeValue, covered}
use Rattle.btr_base.specs.Bag.{IsInOrder, outside}
use Rattle.btr_base.proofs.ListLemmas.{each-weaker}
use Rattle.btr_base.proofs.PointLemmas.{drop-in_order, is_not_after-times}
use Rattle.btr_base.proofs.RangeLemmas.{outside-same}
use Rattle.btr_base.proofs.bag.points_outside.Goals as goal
use Rattle.btr_base.proofs.bag.points_outside.Goals.{then-not-has_begun+in_ok-push, else-not-has_begun}

-- The points from an index on, by the ranges that have not ended by the time of the first of them.
outside-step : (b : List Point) (old new : List RangeValue) (i : ℕ) (d : Point) → i < length b → IsInOrder b → ((t : ℤ) → (get_or b i d).time ≤ℤ t → covered new t ≡ covered old t) → outside (drop i b) old ≡ cond (not (covered new (get_or b i d).time)) (get_or b i d ∷ outside (drop (i + 1) b) new) (outside (drop (i + 1) b) new)
outside-step b old new i d h in_order same =
    let p = get_or b i d in
    let e : drop i b ≡ p ∷ drop (i + 1) b = drop_more b i d h in
    let rest = subst IsInOrder e (drop-in_order i b in_order) in
    let each = each-weaker (λ q. is_not_after p q ≡ true) (λ q. covered old q.time ≡ covered new q.time) (λ q k. sym (same q.time (is_not_after-times p q k))) (drop (i + 1) b) rest.0 in
    ap (λ c. outside c old) e ∙ outside-same (p ∷ drop (i + 1) b) old new (sym (same p.time (omega (arith, ints))), each)

kept-more : (kept x y z : List Point) (p : Point) (t : Bool) → kept ++ x ≡ z → x ≡ cond (not t) (p ∷ y) y → t ≡ false → (kept ++ p ∷ []) ++ y ≡ z
kept-more kept x y z p t all e out =
    append_assoc kept (p ∷ []) y ∙ ap (λ w. kept ++ w) (sym (e ∙ ap (λ s. cond (not s) (p ∷ y) y) out)) ∙ all

kept-same : (kept x y z : List Point) (p : Point) (t : Bool) → kept ++ x ≡ z → x ≡ cond (not t) (p ∷ y) y → t ≡ true → kept ++ y ≡ z
kept-same kept x y z p t all e cut = ap (λ w. kept ++ w) (sym (e ∙ ap (λ s. cond (not s) (p ∷ y) y) cut)) ∙ all

pub loop-point-preserved : goal.loop-point-preserved
loop-point-preserved c =
    let b = c.args.points.now in
    let i = c.loop-point.point-index in
    let d : Point = record { time = pos 0; value = pos 0 } in
    let p : Point = get_or b i d in
    let old = drop c.loop-point.first c.args.ranges.now in
    let new = drop c.skip_ended-first.result c.args.ranges.now in
    let fits : to_z w64 (of_z w64 p.time) ≡ p.time = grind (arith, to_z-of_z) in
    let same = subst (λ x. (t : ℤ) → x ≤ℤ t → covered new t ≡ covered old t) fits c.skip_ended-first.ensures.same in
    let step = outside-step b old new i d (omega arith) c.requires.points same in
    let begun : c.has_begun.result ≡ covered new p.time = c.has_begun.ensures ∙ ap (covered new) fits in
    let kept = c.loop-point.kept.items in
    let next = outside (drop (i + 1) b) new in
    elim c.if-not-has_begun.branch [
      | then-not-has_begun+in_ok-push w ↦ (c.skip_ended-first.ensures.within, ap (λ v. v.items ++ next) w.kept-is ∙ ap (λ v. v ++ next) w.in_ok-push.ensures.items ∙ kept-more kept (outside (drop i b) old) next (outside b c.args.ranges.now) p (covered new p.time) c.loop-point.invariant.1 step (sym begun ∙ w.if-not-has_begun.true))
      | else-not-has_begun w ↦ (c.skip_ended-first.ensures.within, ap (λ v. v.items ++ next) w.kept-is ∙ kept-same kept (outside (drop i b) old) next (outside b c.args.ranges.now) p (covered new p.time) c.loop-point.invariant.1 step (sym begun ∙ w.if-not-has_begun.false))
    ]
