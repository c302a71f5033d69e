use Rattle.std.proofs.Common.{◌≡◌, ◌∷◌, [], take, pos, slice_index_or, ◌≤ℤ◌, ◌<ℤ◌, to_z, of_z, w64, rules, sym, subst, arith}
use Rattle.std.proofs.lemmas.List.{take_more}
use Rattle.std.proofs.lemmas.Int.{ints, to_z-of_z}
use Rattle.std.specs.List.{AllByRecursion}
use Rattle.btr_base.specs.declared.point.Point.{Point}
use Rattle.btr_base.specs.Bag.{IsInOrder}
use Rattle.btr_base.proofs.ListLemmas.{each-append, each-weaker}
use Rattle.btr_base.proofs.PointLemmas.{in_order-push}
use Rattle.btr_base.proofs.bag.do_times_rise.Goals as goal

pub loop-point-preserved : goal.loop-point-preserved
loop-point-preserved c =
    let b = c.args.points.now in
    let i = c.loop-point.point-index in
    let q : Point = slice_index_or b i (record { time = pos 0; value = pos 0 }) in
    let same : to_z w64 (of_z w64 q.time) ≡ q.time = to_z-of_z w64 q.time (search rules) in
    let t = to_z w64 c.loop-point.last-bits in
    let late : t <ℤ q.time = omega (arith, ints, c.if-point-last.false, same, c.loop-point.last-is) in
    let next = take_more b i (record { time = pos 0; value = pos 0 }) c.loop-point-test.true in
    let inv = c.loop-point.invariant in
    let before = each-weaker (λ p. p.time ≤ℤ t) (λ p. p.time ≤ℤ to_z w64 (of_z w64 q.time)) (λ p k. omega (arith, ints, same, late)) (take i b) inv.before in
    record {
      order = subst IsInOrder (sym next) (in_order-push (take i b) q t inv.order inv.before late);
      before = subst (AllByRecursion (λ p. p.time ≤ℤ to_z w64 (of_z w64 q.time))) (sym next) (each-append (λ p. p.time ≤ℤ to_z w64 (of_z w64 q.time)) (take i b) (q ∷ []) before (omega (arith, ints, same), tt));
    }
