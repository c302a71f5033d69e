-- Lemmas on the elements of a list: one that is set, one that is added at the end, and lists with the same elements.
use Rattle.std.specs.Prelude.{◌≡◌, ◌≢◌, ℕ, zero, suc, ◌<◌, List, [], ◌∷◌, ◌++◌, length, set, slice_get, Some}
use Rattle.std.proofs.Common.{refl, sym, ap, ◌∙◌, arith}
use Rattle.btr_board.specs.Put.{put_at}
use Rattle.btr_board.proofs.PutLemmas.{put-is}

pub set-same : {X : Type 0} (xs : List X) (i : ℕ) (x : X) → i < length xs → slice_get (set xs i x) i ≡ Some x
set-same [] i x h = absurd (omega arith)
set-same (y ∷ ys) zero x h = refl
set-same (y ∷ ys) (suc i) x h = set-same ys i x (omega arith)

pub set-other : {X : Type 0} (xs : List X) (i : ℕ) (x : X) (j : ℕ) → j ≢ i → slice_get (set xs i x) j ≡ slice_get xs j
set-other [] i x j ne = refl
set-other (y ∷ ys) zero x zero ne = absurd (ne refl)
set-other (y ∷ ys) zero x (suc j) ne = refl
set-other (y ∷ ys) (suc i) x zero ne = refl
set-other (y ∷ ys) (suc i) x (suc j) ne = set-other ys i x j (λ e. ne (ap suc e))

-- The elements of a list with one set.
pub get-set : {X : Type 0} (xs : List X) (i : ℕ) (x : X) (j : ℕ) → i < length xs → slice_get (set xs i x) j ≡ put_at i x (slice_get xs) j
get-set xs i x j h =
    put-is i x (slice_get xs) j (slice_get (set xs i x) j) (λ e. ap (slice_get (set xs i x)) e ∙ set-same xs i x h) (set-other xs i x j)

pub push-same : {X : Type 0} (xs : List X) (x : X) → slice_get (xs ++ x ∷ []) (length xs) ≡ Some x
push-same [] x = refl
push-same (y ∷ ys) x = push-same ys x

pub push-other : {X : Type 0} (xs : List X) (x : X) (j : ℕ) → j ≢ length xs → slice_get (xs ++ x ∷ []) j ≡ slice_get xs j
push-other [] x zero ne = absurd (ne refl)
push-other [] x (suc j) ne = refl
push-other (y ∷ ys) x zero ne = refl
push-other (y ∷ ys) x (suc j) ne = push-other ys x j (λ e. ne (ap suc e))

-- The elements of a list with one more at its end.
pub get-push : {X : Type 0} (xs : List X) (i : ℕ) (x : X) (j : ℕ) → i ≡ length xs → slice_get (xs ++ x ∷ []) j ≡ put_at i x (slice_get xs) j
get-push xs i x j h =
    put-is i x (slice_get xs) j (slice_get (xs ++ x ∷ []) j) (λ e. ap (slice_get (xs ++ x ∷ [])) (e ∙ h) ∙ push-same xs x) (λ ne. push-other xs x j (λ e. ne (e ∙ sym h)))

some-same : {X : Type 0} (x y : X) → Some x ≡ Some y → x ≡ y
some-same x y e = cc

-- Lists with the same element at each place are equal.
pub same-elements : {X : Type 0} (xs ys : List X) → ((j : ℕ) → slice_get xs j ≡ slice_get ys j) → xs ≡ ys
same-elements [] [] h = refl
same-elements [] (y ∷ ys) h = let e = h zero in cc
same-elements (x ∷ xs) [] h = let e = h zero in cc
same-elements (x ∷ xs) (y ∷ ys) h =
    let front : x ≡ y = some-same x y (h zero) in
    let rest : xs ≡ ys = same-elements xs ys (λ j. h (suc j)) in
    cc
