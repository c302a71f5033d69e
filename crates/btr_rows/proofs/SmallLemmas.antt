-- Small lemmas on numbers and options that several files cite.
use Rattle.std.proofs.Common.{◌≡◌, ℕ, suc, ◌+◌, Some, arith}

pub some_equal : {A : Type 0} {a b : A} → Some a ≡ Some b → a ≡ b
some_equal h = cc h

pub one_more : (n : ℕ) → 1 + n ≡ suc n
one_more n = omega arith
