-- Sums over a list, when an item of it changes or one is added.
use Rattle.std.proofs.Common.{◌≡◌, ◌≢◌, ℕ, zero, suc, ◌+◌, ◌≤◌, List, [], ◌∷◌, ◌++◌, set, refl, sym, ap, arith}
use mathlib.Core.Option.{some, some-injective, some-ne-none}
use lib.ListN.{get_elem?}
use Rattle.btr_gate.specs.Numbers.{total}

module _ {V : Type 0} (f : V → ℕ) where
  pub total_append : (xs ys : List V) → total f (xs ++ ys) ≡ total f xs + total f ys
  total_append [] ys = omega arith
  total_append (x ∷ xs) ys = let e = total_append xs ys in omega arith

  pub total_snoc : (xs : List V) (w : V) → total f (xs ++ w ∷ []) ≡ total f xs + f w
  total_snoc xs w = let e = total_append xs (w ∷ []) in omega arith

  pub total_set : (xs : List V) (i : ℕ) (v w : V) → get_elem? xs i ≡ some v → total f (set xs i w) + f v ≡ total f xs + f w
  total_set [] i v w at = absurd (some-ne-none v (sym at))
  total_set (x ∷ xs) zero v w at = let e = ap f (some-injective x v at) in omega arith
  total_set (x ∷ xs) (suc i) v w at = let e = total_set xs i v w at in omega arith

  -- An item is cut in two, and the second part is added at the end.
  pub total_cut : (xs : List V) (i : ℕ) (v left right : V) → get_elem? xs i ≡ some v → total f (set xs i left ++ right ∷ []) + f v ≡ total f xs + f left + f right
  total_cut xs i v left right at =
      let s = total_set xs i v left at in
      let t = total_snoc (set xs i left) right in
      omega arith

  -- Two items change.
  pub total_two : (xs : List V) (i j : ℕ) (v both w spent : V) → get_elem? xs i ≡ some v → get_elem? (set xs i both) j ≡ some w → total f (set (set xs i both) j spent) + f v + f w ≡ total f xs + f both + f spent
  total_two xs i j v both w spent at other =
      let s = total_set xs i v both at in
      let t = total_set (set xs i both) j w spent other in
      omega arith

  pub set_same : (xs : List V) (i : ℕ) (v w : V) → get_elem? xs i ≡ some v → f w ≡ f v → total f (set xs i w) ≡ total f xs
  set_same xs i v w at e = let s = total_set xs i v w at in omega arith

  pub cut_same : (xs : List V) (i : ℕ) (v left right : V) → get_elem? xs i ≡ some v → f left + f right ≡ f v → total f (set xs i left ++ right ∷ []) ≡ total f xs
  cut_same xs i v left right at e = let s = total_cut xs i v left right at in omega arith

  pub two_same : (xs : List V) (i j : ℕ) (v both w spent : V) → get_elem? xs i ≡ some v → get_elem? (set xs i both) j ≡ some w → f both + f spent ≡ f v + f w → total f (set (set xs i both) j spent) ≡ total f xs
  two_same xs i j v both w spent at other e =
      let s = total_two xs i j v both w spent at other in
      omega arith

  pub total_part : (xs : List V) (i : ℕ) (v : V) → get_elem? xs i ≡ some v → f v ≤ total f xs
  total_part [] i v at = absurd (some-ne-none v (sym at))
  total_part (x ∷ xs) zero v at = let e = ap f (some-injective x v at) in omega arith
  total_part (x ∷ xs) (suc i) v at = let e = total_part xs i v at in omega arith

  -- Two items in different places.
  pub total_parts : (xs : List V) (i j : ℕ) (v u : V) → j ≢ i → get_elem? xs i ≡ some v → get_elem? xs j ≡ some u → f v + f u ≤ total f xs
  total_parts [] i j v u ne at other = absurd (some-ne-none v (sym at))
  total_parts (x ∷ xs) zero zero v u ne at other = absurd (ne refl)
  total_parts (x ∷ xs) zero (suc j) v u ne at other =
      let e = ap f (some-injective x v at) in
      let p = total_part xs j u other in
      omega arith
  total_parts (x ∷ xs) (suc i) zero v u ne at other =
      let e = ap f (some-injective x u other) in
      let p = total_part xs i v at in
      omega arith
  total_parts (x ∷ xs) (suc i) (suc j) v u ne at other =
      let p = total_parts xs i j v u (λ e. ne (ap suc e)) at other in
      omega arith

  -- If one item has the whole sum, each other has 0.
  pub others_none : (xs : List V) (i j : ℕ) (v u : V) → total f xs ≤ f v → j ≢ i → get_elem? xs i ≡ some v → get_elem? xs j ≡ some u → f u ≡ 0
  others_none xs i j v u all ne at other =
      let p = total_parts xs i j v u ne at other in
      omega arith

  pub total_none : (xs : List V) → ((j : ℕ) (u : V) → get_elem? xs j ≡ some u → f u ≡ 0) → total f xs ≡ 0
  total_none [] none = refl
  total_none (x ∷ xs) none =
      let e = none zero x refl in
      let t = total_none xs (λ j u at. none (suc j) u at) in
      omega arith

  -- If each other item has 0, one item has the whole sum.
  pub total_only : (xs : List V) (i : ℕ) (v : V) → get_elem? xs i ≡ some v → ((j : ℕ) (u : V) → j ≢ i → get_elem? xs j ≡ some u → f u ≡ 0) → total f xs ≡ f v
  total_only [] i v at others = absurd (some-ne-none v (sym at))
  total_only (x ∷ xs) zero v at others =
      let e = ap f (some-injective x v at) in
      let t = total_none xs (λ j u a. others (suc j) u (λ h. omega arith) a) in
      omega arith
  total_only (x ∷ xs) (suc i) v at others =
      let e = others zero x (λ h. omega arith) refl in
      let t = total_only xs i v at (λ j u ne a. others (suc j) u (λ h. ne (omega arith)) a) in
      omega arith
