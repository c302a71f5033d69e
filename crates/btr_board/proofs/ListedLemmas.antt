-- Lemmas on the items at the first places, in order.
use Rattle.std.specs.Prelude.{◌≡◌, ◌≢◌, ℕ, zero, suc, ◌<◌, ◌≤◌, [], ◌∷◌, ◌++◌, length, set, slice_get, Option, None, Some, IsSome, is_some}
use Rattle.std.proofs.Common.{refl, sym, ap, ◌∙◌, arith, inl, inr, length-append, length-set}
use Rattle.std.proofs.lemmas.Bool.{cases_lt}
use Rattle.std.proofs.lemmas.Option.{slice_get_past}
use Rattle.std.specs.Option.{option_to_list}
use Rattle.btr_board.specs.Put.{put_at}
use Rattle.btr_board.specs.Places.{IsFilled, listed}
use Rattle.btr_board.proofs.PutLemmas.{same_or_other, put-same, put-other, put-alike}
use Rattle.btr_board.proofs.ListLemmas.{get-set, get-push, same-elements}

pub filled-less : {T : Type 0} (f : ℕ → Option T) (n m : ℕ) → m ≤ n → IsFilled f n → IsFilled f m
filled-less f n m le h i lt = h i (omega arith)

-- The list of one item more.
listed-more : {T : Type 0} (n : ℕ) (f : ℕ → Option T) (x : T) → f n ≡ Some x → listed (suc n) f ≡ listed n f ++ x ∷ []
unfolding listed
listed-more n f x e = ap (λ o. listed n f ++ option_to_list o) e

-- The value, if there is one.
pub some-value : {T : Type 0} (o : Option T) → IsSome o → (x : T) × (o ≡ Some x)
some-value None h = absurd (let e = h in cc)
some-value (Some x) h = (x, refl)

pub listed-length : {T : Type 0} (n : ℕ) (f : ℕ → Option T) → IsFilled f n → length (listed n f) ≡ n
unfolding listed
listed-length zero f h = refl
listed-length (suc n) f h =
    let last = some-value (f n) (h n (omega arith)) in
    let more = ap length (listed-more n f last.0 last.1) in
    let joined = length-append (listed n f) (last.0 ∷ []) in
    let before = listed-length n f (filled-less f (suc n) n (omega arith) h) in
    omega (arith, more, joined, before)

-- The element at a place of the list is the item at the place.
pub listed-get : {T : Type 0} (n : ℕ) (f : ℕ → Option T) (j : ℕ) → IsFilled f n → j < n → slice_get (listed n f) j ≡ f j
listed-get zero f j h lt = absurd (omega arith)
listed-get (suc n) f j h lt =
    let last = some-value (f n) (h n (omega arith)) in
    let less = filled-less f (suc n) n (omega arith) h in
    let more = ap (λ xs. slice_get xs j) (listed-more n f last.0 last.1) in
    let put = get-push (listed n f) n last.0 j (sym (listed-length n f less)) in
    elim (same_or_other j n) [
      | inl e ↦ more ∙ put ∙ put-same n last.0 (slice_get (listed n f)) j e ∙ sym last.1 ∙ ap f (sym e)
      | inr ne ↦ more ∙ put ∙ put-other n last.0 (slice_get (listed n f)) j ne ∙ listed-get n f j less (omega arith)
    ]

pub listed-past : {T : Type 0} (n : ℕ) (f : ℕ → Option T) (j : ℕ) → IsFilled f n → n ≤ j → slice_get (listed n f) j ≡ None
listed-past n f j h le = let long = listed-length n f h in slice_get_past (listed n f) j (omega arith)

-- The same items, in the same order.
pub listed-alike : {T : Type 0} (n : ℕ) (f g : ℕ → Option T) → ((j : ℕ) → j < n → f j ≡ g j) → listed n f ≡ listed n g
unfolding listed
listed-alike zero f g h = refl
listed-alike (suc n) f g h =
    let rest : listed n f ≡ listed n g = listed-alike n f g (λ j lt. h j (omega arith)) in
    let last : f n ≡ g n = h n (omega arith) in
    ap (λ xs. xs ++ option_to_list (f n)) rest ∙ ap (λ o. listed n g ++ option_to_list o) last

-- One item put.
pub filled-put : {T : Type 0} (n i : ℕ) (x : T) (f g : ℕ → Option T) → ((j : ℕ) → j < n → j ≢ i → IsSome (f j)) → ((j : ℕ) → j < n → g j ≡ put_at i x f j) → IsFilled g n
filled-put n i x f g some put j lt =
    elim (same_or_other j i) [
      | inl e ↦ ap is_some (put j lt ∙ put-same i x f j e)
      | inr ne ↦ ap is_some (put j lt ∙ put-other i x f j ne) ∙ some j lt ne
    ]

pub listed-push : {T : Type 0} (n : ℕ) (x : T) (f g : ℕ → Option T) → ((j : ℕ) → j < suc n → g j ≡ put_at n x f j) → listed (suc n) g ≡ listed n f ++ x ∷ []
listed-push n x f g put =
    let last = put n (omega arith) ∙ put-same n x f n refl in
    let rest = listed-alike n g f (λ j lt. put j (omega arith) ∙ put-other n x f j (omega arith)) in
    listed-more n g x last ∙ ap (λ xs. xs ++ x ∷ []) rest

set-below : {T : Type 0} (n i : ℕ) (x : T) (f g : ℕ → Option T) (j : ℕ) → IsFilled f n → IsFilled g n → i < n → ((j : ℕ) → j < n → g j ≡ put_at i x f j) → j < n → slice_get (listed n g) j ≡ slice_get (set (listed n f) i x) j
set-below n i x f g j some after at put lt =
    let long = listed-length n f some in
    listed-get n g j after lt
    ∙ put j lt
    ∙ put-alike i x f (slice_get (listed n f)) j (sym (listed-get n f j some lt))
    ∙ sym (get-set (listed n f) i x j (omega arith))

set-past : {T : Type 0} (n i : ℕ) (x : T) (f g : ℕ → Option T) (j : ℕ) → IsFilled f n → IsFilled g n → n ≤ j → slice_get (listed n g) j ≡ slice_get (set (listed n f) i x) j
set-past n i x f g j some after le =
    let long = listed-length n f some in
    let same = length-set (listed n f) i x in
    listed-past n g j after le ∙ sym (slice_get_past (set (listed n f) i x) j (omega arith))

pub listed-set : {T : Type 0} (n i : ℕ) (x : T) (f g : ℕ → Option T) → IsFilled f n → i < n → ((j : ℕ) → j < n → g j ≡ put_at i x f j) → listed n g ≡ set (listed n f) i x
listed-set n i x f g some at put =
    let after = filled-put n i x f g (λ j lt _. some j lt) put in
    same-elements (listed n g) (set (listed n f) i x) (λ j. elim (cases_lt j n) [
      | inl lt ↦ set-below n i x f g j some after at put lt
      | inr le ↦ set-past n i x f g j some after le
    ])
