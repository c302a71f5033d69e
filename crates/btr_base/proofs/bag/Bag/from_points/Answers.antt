use Rattle.std.proofs.Common.{◌∙◌, sym, subst}
use Rattle.btr_base.specs.Bag.{IsInOrder}
use Rattle.btr_base.proofs.PointLemmas.{in_order-from_sorted, sort-of_order, sort-permutation}
use Rattle.btr_base.proofs.bag.Bag.from_points.Goals as goal

pub invariant_of-result : goal.invariant_of-result
invariant_of-result c = subst IsInOrder c.deref.ensures.value (c.do_times_rise.ensures c.if-do_times_rise.true)

pub returns-then-do_times_rise : goal.returns-then-do_times_rise
returns-then-do_times_rise c =
    sym (sort-of_order c.args.points.items (subst IsInOrder c.deref.ensures.value (c.do_times_rise.ensures c.if-do_times_rise.true)))

pub invariant_of-result-2 : goal.invariant_of-result-2
invariant_of-result-2 c = in_order-from_sorted c.sort_unstable.new.self.items c.sort_unstable.ensures.sorted

pub returns : goal.returns
returns c =
    let old = c.args.points.items in
    let new = c.sort_unstable.new.self.items in
    sym (sort-of_order new (in_order-from_sorted new c.sort_unstable.ensures.sorted)) ∙ sort-permutation old new c.sort_unstable.ensures.permutation
