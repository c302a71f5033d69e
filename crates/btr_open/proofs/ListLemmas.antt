-- Lemmas on lists: what holds of each element, the element at a place, and a list with one more at its end or without its first.
use Rattle.std.specs.Prelude.{◌≡◌, ◌⊎◌, ℕ, ◌+◌, ◌-◌, ◌<◌, ◌≤◌, List, [], ◌∷◌, ◌++◌, length, take, drop, slice_get, Some}
use Rattle.std.specs.List.{AllByRecursion}
use Rattle.std.proofs.lemmas.List.{take_more}
use Rattle.std.proofs.lemmas.Option.{slice_get_within, get_or_from_slice_get}
use Rattle.std.proofs.Common.{zero, suc, refl, ◌∙◌, ap, subst, arith, inl, inr}

-- What holds of each holds of the one at a place.
pub each-at : {X : Type 0} (P : X → Type 0) (xs : List X) (n : ℕ) (x : X) → AllByRecursion P xs → slice_get xs n ≡ Some x → P x
each-at P [] n x all at = absurd (cc)
each-at P (y ∷ ys) zero x all at = let same : y ≡ x = cc in subst P same all.0
each-at P (y ∷ ys) (suc n) x all at = each-at P ys n x all.1 at

pub each-from : {X : Type 0} (P : X → Type 0) (xs : List X) → ((n : ℕ) (x : X) → slice_get xs n ≡ Some x → P x) → AllByRecursion P xs
each-from P [] each = tt
each-from P (x ∷ xs) each = (each 0 x refl, each-from P xs (λ n y at. each (suc n) y at))

-- An element of a list with one more at its end is one of the list, or the last.
pub push-at : {X : Type 0} (xs : List X) (y : X) (n : ℕ) (x : X) → slice_get (xs ++ y ∷ []) n ≡ Some x → (slice_get xs n ≡ Some x) ⊎ ((n ≡ length xs) × (y ≡ x))
push-at [] y zero x at = let same : y ≡ x = cc in inr (refl, same)
push-at [] y (suc n) x at = absurd (cc)
push-at (z ∷ xs) y zero x at = inl at
push-at (z ∷ xs) y (suc n) x at =
    elim (push-at xs y n x at) [ inl here ↦ inl here | inr last ↦ inr (omega (arith, last.0), last.1) ]

-- There is an element at each place below the length.
pub is-there : {X : Type 0} (xs : List X) (i : ℕ) → i < length xs → (x : X) × (slice_get xs i ≡ Some x)
is-there [] i low = absurd (omega arith)
is-there (x ∷ xs) zero low = (x, refl)
is-there (x ∷ xs) (suc i) low = is-there xs i (omega arith)

pub take-on : {X : Type 0} (xs : List X) (i : ℕ) (x : X) → slice_get xs i ≡ Some x → take (i + 1) xs ≡ take i xs ++ x ∷ []
take-on xs i x at =
    take_more xs i x (slice_get_within xs i x at) ∙ ap (λ y. take i xs ++ y ∷ []) (get_or_from_slice_get xs i x x at)

-- ---- a list without its first element

pub one-less : {X : Type 0} (xs : List X) → length (drop 1 xs) ≡ length xs - 1
one-less [] = refl
one-less (x ∷ xs) = omega arith

pub drop-push : {X : Type 0} (xs : List X) (x : X) → 1 ≤ length xs → drop 1 (xs ++ x ∷ []) ≡ drop 1 xs ++ x ∷ []
drop-push [] x some = absurd (omega arith)
drop-push (y ∷ xs) x some = refl
