use Rattle.std.proofs.Common.{◌≡◌, ℤ, ◌||◌, ◌≤◌, ◌+◌, ◌-◌, length, drop}
use Rattle.btr_base.specs.Range.{covered}
use Rattle.btr_base.proofs.cut.both.Given as goal

-- What is done and the rest of both cover the times of both.
abbrev pub invariant-loop-i : goal.invariant-loop-i
invariant-loop-i l = record {
  in_a : l.i ≤ length l.a;
  in_b : l.j ≤ length l.b;
  times : (t : ℤ) → (covered l.all t || (covered (drop l.i l.a) t || covered (drop l.j l.b) t)) ≡ (covered l.a t || covered l.b t);
}

abbrev pub decreases-loop-i : goal.decreases-loop-i
decreases-loop-i l = (length l.a - l.i) + (length l.b - l.j)
