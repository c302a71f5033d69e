use Rattle.std.proofs.Common.{◌≡◌, ℤ, ◌||◌, drop}
use Rattle.btr_base.specs.Range.{covered}
use Rattle.btr_base.proofs.cut.add_each.Given as goal

-- The set so far and the rest cover the times of the set as it was and of all.
abbrev pub invariant-loop-range : goal.invariant-loop-range
invariant-loop-range l =
    (t : ℤ) → (covered l.ranges t || covered (drop l.range-index l.more) t) ≡ (covered l.more t || covered l.fn.ranges t)
