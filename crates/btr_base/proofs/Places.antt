-- Lemmas on the index at which a time divides ranges that are apart.
use Rattle.std.proofs.Common.{◌≡◌, true, false, ℤ, ◌≤ℤ◌, ◌<ℤ◌, List, get_or, int_le, int_lt, arith}
use Rattle.std.specs.List.Sorted.{IsPartitionedBy}
use Rattle.std.proofs.lemmas.Int.{ints}
use Rattle.btr_base.specs.Range.{RangeValue, IsCut}
use Rattle.btr_base.proofs.RangeLemmas.{begins-rise, ends-rise}

pub le-true : (x y : ℤ) → int_le x y ≡ true → x ≤ℤ y
le-true x y h = grind (arith, ints)

pub le-false : (x y : ℤ) → int_le x y ≡ false → y <ℤ x
le-false x y h = grind (arith, ints)

pub lt-true : (x y : ℤ) → int_lt x y ≡ true → x <ℤ y
lt-true x y h = grind (arith, ints)

pub lt-false : (x y : ℤ) → int_lt x y ≡ false → y ≤ℤ x
lt-false x y h = grind (arith, ints)

true-le : (x y z : ℤ) → x ≤ℤ y → int_le y z ≡ true → int_le x z ≡ true
true-le x y z h k = grind (arith, ints)

true-lt : (x y z : ℤ) → x ≤ℤ y → int_lt y z ≡ true → int_lt x z ≡ true
true-lt x y z h k = grind (arith, ints)

-- The ranges that end by the time come first.
pub ends-parted : (rs : List RangeValue) (t : ℤ) → IsCut rs → IsPartitionedBy (λ r. int_le r.to t) rs
ends-parted rs t cut i j d le lt h = true-le (get_or rs i d).to (get_or rs j d).to t (ends-rise rs i j d cut le lt) h

-- The ranges that begin before the time come first.
pub begins-parted : (rs : List RangeValue) (t : ℤ) → IsCut rs → IsPartitionedBy (λ r. int_lt r.from t) rs
begins-parted rs t cut i j d le lt h =
    true-lt (get_or rs i d).from (get_or rs j d).from t (begins-rise rs i j d cut le lt) h
