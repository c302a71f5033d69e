use Rattle.std.proofs.Common.{rules, ◌≡◌, ◌++◌, ◌∙◌, sym, ap}
use Rattle.btr_base.specs.Bag.{sort}
use Rattle.btr_base.proofs.PointLemmas.{in_order-from_sorted, sort-of_order, sort-permutation}
use Rattle.btr_base.proofs.bag.Bag.append.Goals as goal

pub invariant_of-self-then-not-follows : goal.invariant_of-self-then-not-follows
invariant_of-self-then-not-follows c = in_order-from_sorted c.sort_unstable.new.self.items c.sort_unstable.ensures.sorted

pub returns-then-not-follows-clause-added : goal.returns-then-not-follows-clause-added
returns-then-not-follows-clause-added c =
    let both = c.extend_from_slice.new.self.items in
    let new = c.sort_unstable.new.self.items in
    let is : both ≡ c.args.self.now ++ c.args.other.now = search rules in
    sym (sort-of_order new (in_order-from_sorted new c.sort_unstable.ensures.sorted))
    ∙ sort-permutation both new c.sort_unstable.ensures.permutation
    ∙ ap sort is

pub returns-else-not-follows-clause-added : goal.returns-else-not-follows-clause-added
returns-else-not-follows-clause-added c =
    let both = c.extend_from_slice.new.self.items in
    let is : both ≡ c.args.self.now ++ c.args.other.now = search rules in
    sym (sort-of_order both (search rules)) ∙ ap sort is
