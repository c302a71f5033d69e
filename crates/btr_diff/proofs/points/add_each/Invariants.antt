use Rattle.std.proofs.Common.{◌≡◌, ℤ, ◌||◌, length}
use Rattle.btr_base.specs.Point.{AreInDomain}
use Rattle.btr_base.specs.Bag.{IsInOrder}
use Rattle.btr_base.specs.Range.{covered}
use Rattle.btr_diff.proofs.ChangedSlots.{is_reached}
use Rattle.btr_diff.proofs.points.add_each.Given as goal

-- What is done and the reach of the rest is what was there and the reach of all.
abbrev pub invariant-loop-first : goal.invariant-loop-first
invariant-loop-first l = record {
  order : IsInOrder l.left;
  inside : AreInDomain l.left;
  times : (t : ℤ) → (covered l.out t || is_reached l.comparison l.left t) ≡ (covered l.fn.out t || is_reached l.comparison l.fn.new t);
}

abbrev pub decreases-loop-first : goal.decreases-loop-first
decreases-loop-first l = length l.left
