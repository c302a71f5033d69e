use Rattle.std.proofs.Common.{◌∙◌, pos, sym, arith, get_or, ◌-◌, rules}
use Rattle.btr_base.specs.declared.point.Point.{Point}
use Rattle.btr_base.proofs.PointLemmas.{in_order-from_sorted}
use Rattle.btr_node.proofs.TableLemmas.{points-lt, ordered-one, ordered-more, not-ordered}
use Rattle.btr_node.proofs.leaf_table.are_in_order.Goals as goal

pub loop-i-init : goal.loop-i-init
loop-i-init c = ordered-one c.args.points.now

pub loop-i-preserved : goal.loop-i-preserved
loop-i-preserved c =
    let ps = c.args.points.now in
    let i = c.loop-i.i in
    let d : Point = record { time = pos 0; value = pos 0 } in
    ordered-more ps i d c.loop-i.auto.i c.loop-i-test.true c.loop-i.invariant (sym (c.lt.ensures ∙ points-lt (get_or ps i d) (get_or ps (i - 1) d)) ∙ c.if-lt.false)

pub returns-then-lt : goal.returns-then-lt
returns-then-lt c =
    let ps = c.args.points.now in
    let i = c.loop-i.i in
    let d : Point = record { time = pos 0; value = pos 0 } in (
      λ yes. absurd (cc),
      λ order. absurd (not-ordered ps i d c.loop-i.auto.i c.loop-i-test.true (sym (c.lt.ensures ∙ points-lt (get_or ps i d) (get_or ps (i - 1) d)) ∙ c.if-lt.true) order),
    )

pub returns : goal.returns
returns c =
    let ps = c.args.points.now in (
      λ yes. in_order-from_sorted ps (λ k d low high. c.loop-i.invariant k d low (omega arith)),
      λ order. search rules,
    )
