-- Lemmas on a partial function with the value at one number replaced.
use Rattle.std.specs.Prelude.{◌≡◌, ◌≢◌, ◌⊎◌, ℕ, Bool, true, false, eqb, if◌then◌else◌, Option, Some}
use Rattle.std.proofs.Common.{refl, sym, ap, ◌∙◌, inl, inr, eq-eqb}
use Rattle.std.proofs.lemmas.Bool.{eqb-true, eqb-false}
use Rattle.btr_board.specs.Put.{put_at}

-- Two numbers are equal or not.
test-cases : (j i : ℕ) (b : Bool) → eqb j i ≡ b → (j ≡ i) ⊎ (j ≢ i)
test-cases j i true e = inl (eqb-true j i e)
test-cases j i false e = inr (eqb-false j i e)

pub same_or_other : (j i : ℕ) → (j ≡ i) ⊎ (j ≢ i)
same_or_other j i = test-cases j i (eqb j i) refl

pub put-same : {X : Type 0} (i : ℕ) (x : X) (f : ℕ → Option X) (j : ℕ) → j ≡ i → put_at i x f j ≡ Some x
unfolding put_at
put-same i x f j e = ap (λ b. if b then Some x else f j) (eq-eqb j i e)

pub test-not : (j i : ℕ) (b : Bool) → eqb j i ≡ b → j ≢ i → eqb j i ≡ false
test-not j i true e ne = absurd (ne (eqb-true j i e))
test-not j i false e ne = e

pub put-other : {X : Type 0} (i : ℕ) (x : X) (f : ℕ → Option X) (j : ℕ) → j ≢ i → put_at i x f j ≡ f j
unfolding put_at
put-other i x f j ne = ap (λ b. if b then Some x else f j) (test-not j i (eqb j i) refl ne)

-- What has the value at the number, and elsewhere what the function has, is the function with that value.
pub put-is : {X : Type 0} (i : ℕ) (x : X) (f : ℕ → Option X) (j : ℕ) (r : Option X) → (j ≡ i → r ≡ Some x) → (j ≢ i → r ≡ f j) → r ≡ put_at i x f j
put-is i x f j r same other =
    elim (same_or_other j i) [
      | inl e ↦ same e ∙ sym (put-same i x f j e)
      | inr ne ↦ other ne ∙ sym (put-other i x f j ne)
    ]

-- The number is the same, and so is what the functions have there.
pub put-alike : {X : Type 0} (i : ℕ) (x : X) (f g : ℕ → Option X) (j : ℕ) → f j ≡ g j → put_at i x f j ≡ put_at i x g j
unfolding put_at
put-alike i x f g j e = ap (λ o. if eqb j i then Some x else o) e
