use Rattle.std.proofs.Common.{◌≢◌, ℕ, List, sym, subst, arith}
use Rattle.std.specs.Prelude.{nat_eq}
use Rattle.std.specs.Cmp.{unsigned_Decides, nat_eq_equiv}
use Rattle.std.specs.List.{AllPairs}
use Rattle.std.specs.List.Sorted.{IsStrictlyIncreasing, IsNonDecreasing, IsPermutation}
use Rattle.std.proofs.lemmas.List.Kept.{AllPairs-from_increasing}
use Rattle.std.proofs.lemmas.List.Sorted.{IsPermutation-sym, IsNonDecreasingBy-from_sort}
use Rattle.std.proofs.lemmas.Map.Keys.{IsDistinct-IsPermutation, IsStrictlyIncreasing-from_distinct}
use Rattle.std.proofs.lemmas.Map.Made.{AllPairs-from_IsDistinct, IsDistinct-from_AllPairs}
use Rattle.btr_roll.proofs.table.are_distinct.Goals as goal

rising_differ : (xs : List ℕ) → IsStrictlyIncreasing xs → AllPairs (λ a b. a ≢ b) xs
rising_differ xs h i j d less within same = omega (arith, AllPairs-from_increasing xs h i j d less within, same)

-- If the sorted numbers rise, no two numbers are equal.
from_rising : (xs ys : List ℕ) → IsPermutation xs ys → IsStrictlyIncreasing ys → AllPairs (λ a b. a ≢ b) xs
from_rising xs ys same h =
    AllPairs-from_IsDistinct unsigned_Decides xs (IsDistinct-IsPermutation nat_eq nat_eq_equiv.symm ys xs (IsPermutation-sym xs ys same) (IsDistinct-from_AllPairs unsigned_Decides ys (rising_differ ys h)))

-- If no two numbers are equal, the sorted numbers rise.
to_rising : (xs ys : List ℕ) → IsPermutation xs ys → IsNonDecreasing ys → AllPairs (λ a b. a ≢ b) xs → IsStrictlyIncreasing ys
to_rising xs ys same sorted h =
    IsStrictlyIncreasing-from_distinct ys sorted (IsDistinct-IsPermutation nat_eq nat_eq_equiv.symm xs ys same (IsDistinct-from_AllPairs unsigned_Decides xs h))

pub returns : goal.returns
returns c =
    let ids = c.args.ids.items in
    let sorted = c.sort_unstable.new.self.items in
    let rising = c.are_rising.ensures in
    let order = IsNonDecreasingBy-from_sort (λ n. n) sorted c.sort_unstable.ensures.sorted in
    (λ yes. from_rising ids sorted c.sort_unstable.ensures.permutation (subst IsStrictlyIncreasing c.deref.ensures.value (rising.0 yes)), λ differ. rising.1 (subst IsStrictlyIncreasing (sym c.deref.ensures.value) (to_rising ids sorted c.sort_unstable.ensures.permutation order differ)))
