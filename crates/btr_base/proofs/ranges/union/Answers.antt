use Rattle.std.proofs.Common.{◌≡◌, ℤ, ◌≤ℤ◌, ◌||◌, subst, arith, w64, to_z, of_z}
use Rattle.std.proofs.lemmas.Int.{ints, clamps, to_z-of_z}
use Rattle.std.specs.Int.{int_min, int_max}
use Rattle.btr_base.specs.Range.{RangeValue, IsRange, contains}
use Rattle.btr_base.proofs.ranges.union.Goals as goal

contains-union : (a b : RangeValue) (low high t : ℤ) → IsRange a → IsRange b → b.from ≤ℤ a.to → a.from ≤ℤ b.to → low ≡ int_min a.from b.from → high ≡ int_max a.to b.to → contains (record { from = low; to = high }) t ≡ (contains a t || contains b t)
contains-union a b low high t h k reach back e f = grind (arith, ints)

pub invariant_of-result : goal.invariant_of-result
invariant_of-result c =
    record {
      begins = omega (arith, ints, clamps);
      not_empty = omega (arith, ints, clamps);
      ends = omega (arith, ints, clamps);
    }

pub returns-clause-range : goal.returns-clause-range
returns-clause-range c = invariant_of-result c

pub returns-clause-times : goal.returns-clause-times
returns-clause-times c t =
    let low : to_z w64 (of_z w64 c.min.result) ≡ int_min c.args.a.now.from c.args.b.now.from = grind (arith, to_z-of_z) in
    let high : to_z w64 (of_z w64 c.max.result) ≡ int_max c.args.a.now.to c.args.b.now.to = grind (arith, to_z-of_z) in
    contains-union c.args.a.now c.args.b.now _ _ t (subst IsRange c.a.view_is c.a.invariant) (subst IsRange c.b.view_is c.b.invariant) c.requires.a_reaches c.requires.b_reaches low high
