-- Lemmas on lists in general: what holds of each element, filters, counts and parts.
use Rattle.std.specs.Prelude.{◌≡◌, ℕ, ◌+◌, ◌<◌, ◌≤◌, slice_index_or, drop, Bool, true, false, not, ◌&&◌, List, [], ◌∷◌, ◌++◌, length, cond, take, slice_get, Some}
use Rattle.std.specs.List.{filter, count_by, AllByRecursion}
use Rattle.std.proofs.Common.{zero, suc, refl, sym, ap, ◌∙◌, arith}
use Rattle.std.proofs.lemmas.List.Sums.{sum_by-cons, sum_by-append}

pub each-weaker : {X : Type 0} (P Q : X → Type 0) → ((x : X) → P x → Q x) → (xs : List X) → AllByRecursion P xs → AllByRecursion Q xs
each-weaker P Q k [] h = tt
each-weaker P Q k (x ∷ xs) h = (k x h.0, each-weaker P Q k xs h.1)

pub each-both : {X : Type 0} (P Q : X → Type 0) (xs : List X) → AllByRecursion P xs → AllByRecursion Q xs → AllByRecursion (λ x. P x × Q x) xs
each-both P Q [] h k = tt
each-both P Q (x ∷ xs) h k = ((h.0, k.0), each-both P Q xs h.1 k.1)

pub each-append : {X : Type 0} (P : X → Type 0) (xs ys : List X) → AllByRecursion P xs → AllByRecursion P ys → AllByRecursion P (xs ++ ys)
each-append P [] ys h k = k
each-append P (x ∷ xs) ys h k = (h.0, each-append P xs ys h.1 k)

pub each-filter : {X : Type 0} (P : X → Type 0) (f : X → Bool) (xs : List X) → AllByRecursion P xs → AllByRecursion P (filter f xs)
each-filter P f [] h = tt
each-filter P f (x ∷ xs) h =
    elim (f x) as (λ t. AllByRecursion P (cond t (x ∷ filter f xs) (filter f xs))) [
      | true ↦ (h.0, each-filter P f xs h.1)
      | false ↦ each-filter P f xs h.1
    ]

pub filter-append : {X : Type 0} (f : X → Bool) (a b : List X) → filter f (a ++ b) ≡ filter f a ++ filter f b
filter-append f [] b = refl
filter-append f (x ∷ a) b =
    elim (f x) as (λ t. cond t (x ∷ filter f (a ++ b)) (filter f (a ++ b)) ≡ cond t (x ∷ filter f a) (filter f a) ++ filter f b) [
      | true ↦ ap (λ c. x ∷ c) (filter-append f a b)
      | false ↦ filter-append f a b
    ]

pub filter-all : {X : Type 0} (f : X → Bool) (a : List X) → AllByRecursion (λ x. f x ≡ true) a → filter f a ≡ a
filter-all f [] h = refl
filter-all f (x ∷ a) h =
    ap (λ t. cond t (x ∷ filter f a) (filter f a)) h.0 ∙ ap (λ c. x ∷ c) (filter-all f a h.1)

pub filter-none : {X : Type 0} (f : X → Bool) (a : List X) → AllByRecursion (λ x. f x ≡ false) a → filter f a ≡ []
filter-none f [] h = refl
filter-none f (x ∷ a) h = ap (λ t. cond t (x ∷ filter f a) (filter f a)) h.0 ∙ filter-none f a h.1

pub filter-passes : {X : Type 0} (f : X → Bool) (a : List X) → AllByRecursion (λ x. f x ≡ true) (filter f a)
filter-passes f [] = tt
filter-passes f (x ∷ a) =
    elim (f x) as (λ t. f x ≡ t → AllByRecursion (λ y. f y ≡ true) (cond t (x ∷ filter f a) (filter f a))) [
      | true ↦ λ e. (e, filter-passes f a)
      | false ↦ λ _. filter-passes f a
    ] refl

pub filter-filter : {X : Type 0} (f g : X → Bool) (a : List X) → filter f (filter g a) ≡ filter (λ x. g x && f x) a
filter-filter f g [] = refl
filter-filter f g (x ∷ a) =
    elim (g x) as (λ t. filter f (cond t (x ∷ filter g a) (filter g a)) ≡ cond (t && f x) (x ∷ filter (λ y. g y && f y) a) (filter (λ y. g y && f y) a)) [
      | true ↦ ap (λ c. cond (f x) (x ∷ c) c) (filter-filter f g a)
      | false ↦ filter-filter f g a
    ]

pub count-cons : {X : Type 0} (f : X → Bool) (x : X) (xs : List X) → count_by f (x ∷ xs) ≡ cond (f x) 1 0 + count_by f xs
count-cons f x xs = sum_by-cons (λ y. cond (f y) 1 0) x xs

pub count-append : {X : Type 0} (f : X → Bool) (xs ys : List X) → count_by f (xs ++ ys) ≡ count_by f xs + count_by f ys
count-append f xs ys = sum_by-append (λ y. cond (f y) 1 0) xs ys

pub each-take : {X : Type 0} (P : X → Type 0) (n : ℕ) (xs : List X) → AllByRecursion P xs → AllByRecursion P (take n xs)
each-take P zero xs h = tt
each-take P (suc n) [] h = tt
each-take P (suc n) (x ∷ xs) h = (h.0, each-take P n xs h.1)

pub filter-same : {X : Type 0} (f g : X → Bool) (a : List X) → ((x : X) → f x ≡ g x) → filter f a ≡ filter g a
filter-same f g a e = λ i. filter (λ x. e x i) a

pub filter-swap : {X : Type 0} (f g : X → Bool) (a : List X) → filter f (filter g a) ≡ filter g (filter f a)
filter-swap f g a =
    filter-filter f g a ∙ filter-same (λ x. g x && f x) (λ x. f x && g x) a (λ x. grind arith) ∙ sym (filter-filter g f a)

pub length-filter : {X : Type 0} (f : X → Bool) (a : List X) → length (filter f a) ≤ length a
length-filter f [] = omega arith
length-filter f (x ∷ a) =
    let rest = length-filter f a in
    elim (f x) as (λ t. length (cond t (x ∷ filter f a) (filter f a)) ≤ length (x ∷ a)) [
      | true ↦ omega arith
      | false ↦ omega arith
    ]

pub parted-take : {X : Type 0} (f : X → Bool) (k : ℕ) (xs : List X) → ((j : ℕ) (d : X) → j < k → j < length xs → f (slice_index_or xs j d) ≡ true) → ((j : ℕ) (d : X) → k ≤ j → j < length xs → f (slice_index_or xs j d) ≡ false) → take k xs ≡ filter f xs
parted-take f zero [] h n = refl
parted-take f zero (x ∷ xs) h n =
    parted-take f zero xs (λ j d lt in_xs. absurd (omega arith)) (λ j d le lt. n (suc j) d (omega arith) (omega arith))
    ∙ sym (ap (λ t. cond t (x ∷ filter f xs) (filter f xs)) (n 0 x (omega arith) (omega arith)))
parted-take f (suc k) [] h n = refl
parted-take f (suc k) (x ∷ xs) h n =
    ap (λ c. x ∷ c) (parted-take f k xs (λ j d lt in_xs. h (suc j) d (omega arith) (omega arith)) (λ j d le lt. n (suc j) d (omega arith) (omega arith)))
    ∙ sym (ap (λ t. cond t (x ∷ filter f xs) (filter f xs)) (h 0 x (omega arith) (omega arith)))

pub parted-drop : {X : Type 0} (f : X → Bool) (k : ℕ) (xs : List X) → ((j : ℕ) (d : X) → j < k → j < length xs → f (slice_index_or xs j d) ≡ true) → ((j : ℕ) (d : X) → k ≤ j → j < length xs → f (slice_index_or xs j d) ≡ false) → drop k xs ≡ filter (λ x. not (f x)) xs
parted-drop f zero [] h n = refl
parted-drop f zero (x ∷ xs) h n =
    ap (λ c. x ∷ c) (parted-drop f zero xs (λ j d lt in_xs. absurd (omega arith)) (λ j d le lt. n (suc j) d (omega arith) (omega arith)))
    ∙ sym (ap (λ t. cond (not t) (x ∷ filter (λ y. not (f y)) xs) (filter (λ y. not (f y)) xs)) (n 0 x (omega arith) (omega arith)))
parted-drop f (suc k) [] h n = refl
parted-drop f (suc k) (x ∷ xs) h n =
    parted-drop f k xs (λ j d lt in_xs. h (suc j) d (omega arith) (omega arith)) (λ j d le lt. n (suc j) d (omega arith) (omega arith))
    ∙ sym (ap (λ t. cond (not t) (x ∷ filter (λ y. not (f y)) xs) (filter (λ y. not (f y)) xs)) (h 0 x (omega arith) (omega arith)))

-- ---- elements by their index

pub get-append : {X : Type 0} (xs ys : List X) (n : ℕ) (x : X) → slice_get xs n ≡ Some x → slice_get (xs ++ ys) n ≡ Some x
get-append [] ys n x at = absurd (cc)
get-append (y ∷ xs) ys zero x at = at
get-append (y ∷ xs) ys (suc n) x at = get-append xs ys n x at

pub get_back : {X : Type 0} (xs ys : List X) (n : ℕ) (x : X) → n < length xs → slice_get (xs ++ ys) n ≡ Some x → slice_get xs n ≡ Some x
get_back [] ys n x low at = absurd (omega arith)
get_back (y ∷ xs) ys zero x low at = at
get_back (y ∷ xs) ys (suc n) x low at = get_back xs ys n x (omega arith) at

pub get_last : {X : Type 0} (xs : List X) (y : X) → slice_get (xs ++ y ∷ []) (length xs) ≡ Some y
get_last [] y = refl
get_last (x ∷ xs) y = get_last xs y
