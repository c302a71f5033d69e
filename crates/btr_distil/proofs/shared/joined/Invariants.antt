use Rattle.std.proofs.Common.{◌≡◌, ◌++◌, length}
use Rattle.std.specs.List.{flat_map}
use Rattle.std.specs.Vec.Iter.{into_iter_items, into_iter_len}
use Rattle.btr_base.specs.Bag.{IsInOrder, sort}
use Rattle.btr_distil.proofs.shared.joined.Given as goal

-- The points so far are in order, and those of the other bags are added to them.
abbrev pub invariant-loop-bag : goal.invariant-loop-bag
invariant-loop-bag l = record {
  order : IsInOrder l.points;
  long : into_iter_len l.others ≡ length (into_iter_items l.others);
  all : sort (l.points ++ flat_map (λ b. b) (into_iter_items l.others)) ≡ sort (flat_map (λ b. b) l.fn.bags.items);
}

abbrev pub decreases-loop-bag : goal.decreases-loop-bag
decreases-loop-bag l = into_iter_len l.others
