-- The points that `feed` lines give to buffers that lanes share: which item of which buffer is of which line, and sums over them.
use Rattle.std.specs.Prelude.{◌≡◌, ℕ, ◌+◌, ◌<◌, ◌≤◌, ◌==◌, nat_eq, Bool, true, false, List, [], ◌∷◌, ◌++◌, length, slice_index_or, cond, slice_get, Some}
use Rattle.std.specs.List.{AllByRecursion, position_from}
use Rattle.std.proofs.Common.{zero, suc, refl, sym, ap, ◌∙◌, subst, arith, inl, inr}
use Rattle.std.proofs.lemmas.Bool.{cases_eq, cases_lt, eq-eqb, ne_eqb}
use Rattle.btr_base.specs.declared.point.Point.{Point}
use Rattle.btr_hist.specs.declared.entry.Entry.{Entry}
use Rattle.btr_hist.specs.History.{ids, stream_of}
use Rattle.btr_hist.proofs.HistoryLemmas.{ids-append}
use Rattle.btr_gate.specs.Numbers.{one, total, times}
use Rattle.btr_gate.specs.Prefixes.{StartsWith}
use Rattle.btr_load.proofs.TotalLemmas.{total_append}
use Rattle.btr_text.specs.declared.script.ScriptLine.{ScriptLine}
use Rattle.btr_top.specs.Room.{fed_by, IsFeedOf}
use Rattle.btr_top.proofs.PlaceLemmas.{sum_to, sum_none, sum_both, sum_one}

-- ---- sums

pub sum_last : (f : ℕ → ℕ) (k : ℕ) → sum_to f (suc k) ≡ sum_to f k + f k
sum_last f zero = omega arith
sum_last f (suc k) =
    let rest = sum_last (λ j. f (suc j)) k in
    omega (arith, rest)

pub sum_there : (f : ℕ → ℕ) (j k : ℕ) → j < k → f j ≤ sum_to f k
sum_there f j zero inside = absurd (omega (arith, inside))
sum_there f zero (suc k) inside = omega arith
sum_there f (suc j) (suc k) inside =
    let rest = sum_there (λ i. f (suc i)) j k (omega (arith, inside)) in
    omega (arith, rest)

pub sum_grows : (f : ℕ → ℕ) (a b : ℕ) → a ≤ b → sum_to f a ≤ sum_to f b
sum_grows f zero b least = omega arith
sum_grows f (suc a) zero least = absurd (omega (arith, least))
sum_grows f (suc a) (suc b) least =
    let rest = sum_grows (λ j. f (suc j)) a b (omega (arith, least)) in
    omega (arith, rest)

-- ---- gifts

-- A line gave points to the buffer of a stream: the item with this number of its list.
pub record Gift : Type 0 where
  pub stream : ℕ
  pub number : ℕ
  pub place : ℕ

-- How often a place is in gifts; in those to a stream; and in those that are an item of its list.
abbrev pub gifts_of : ℕ → List Gift → ℕ
gifts_of place gifts = total (λ (g : Gift). one (g.place == place)) gifts

abbrev pub gifts_to : ℕ → ℕ → List Gift → ℕ
gifts_to stream place gifts = total (λ (g : Gift). cond (g.stream == stream) (one (g.place == place)) 0) gifts

abbrev pub gifts_at : ℕ → ℕ → ℕ → List Gift → ℕ
gifts_at stream number place gifts = total (λ (g : Gift). cond (g.number == number) (cond (g.stream == stream) (one (g.place == place)) 0) 0) gifts

-- What is told apart by a number is no more than all.
sum_keys : (key f : Gift → ℕ) (gifts : List Gift) (k : ℕ) → sum_to (λ j. total (λ (g : Gift). cond (key g == j) (f g) 0) gifts) k ≤ total f gifts
sum_keys key f [] k =
    let none = sum_none (λ j. total (λ (g : Gift). cond (key g == j) (f g) 0) []) (λ j. refl) k in
    omega (arith, none)
sum_keys key f (g ∷ gifts) k =
    let here : ℕ → ℕ = λ j. cond (key g == j) (f g) 0 in
    let sum = sum_both (λ j. total (λ (x : Gift). cond (key x == j) (f x) 0) (g ∷ gifts)) here (λ j. total (λ (x : Gift). cond (key x == j) (f x) 0) gifts) (λ j. refl) k in
    let first = sum_one here (key g) (f g) k (most (key g == key g)) (λ j differs. ap (λ b. cond b (f g) 0) (ne_eqb (key g) j differs)) in
    let rest = sum_keys key f gifts k in
    omega (arith, sum, first, rest)
  where
    most : (b : Bool) → cond b (f g) 0 ≤ f g
    most true = omega arith
    most false = omega arith

pub numbers_sum : (stream place : ℕ) (gifts : List Gift) (k : ℕ) → sum_to (λ n. gifts_at stream n place gifts) k ≤ gifts_to stream place gifts
numbers_sum stream place gifts k = sum_keys (λ (g : Gift). g.number) (λ (g : Gift). cond (g.stream == stream) (one (g.place == place)) 0) gifts k

pub streams_sum : (place : ℕ) (gifts : List Gift) (k : ℕ) → sum_to (λ stream. gifts_to stream place gifts) k ≤ gifts_of place gifts
streams_sum place gifts k = sum_keys (λ (g : Gift). g.stream) (λ (g : Gift). one (g.place == place)) gifts k

pub gift_here : (stream number place k : ℕ) → one (place == k) ≤ gifts_at stream number k (record { stream = stream; number = number; place = place } ∷ [])
gift_here stream number place k =
    let first : cond (number == number) (cond (stream == stream) (one (place == k)) 0) 0 ≡ cond (stream == stream) (one (place == k)) 0 = ap (λ b. cond b (cond (stream == stream) (one (place == k)) 0) 0) (eq-eqb number number refl) in
    let second : cond (stream == stream) (one (place == k)) 0 ≡ one (place == k) = ap (λ b. cond b (one (place == k)) 0) (eq-eqb stream stream refl) in
    omega (arith, first, second)

-- The gifts of many lanes.
abbrev pub all_gifts : (ℕ → List Gift) → ℕ → List Gift
all_gifts each zero = []
all_gifts each (suc k) = each 0 ++ all_gifts (λ j. each (suc j)) k

pub gifts_sum : (f : Gift → ℕ) (each : ℕ → List Gift) (k : ℕ) → total f (all_gifts each k) ≡ sum_to (λ j. total f (each j)) k
gifts_sum f each zero = refl
gifts_sum f each (suc k) =
    let sum = total_append f (each 0) (all_gifts (λ j. each (suc j)) k) in
    let rest = gifts_sum f (λ j. each (suc j)) k in
    omega (arith, sum, rest)

pub gifts_there : (f : Gift → ℕ) (each : ℕ → List Gift) (j k : ℕ) → j < k → total f (each j) ≤ total f (all_gifts each k)
gifts_there f each j k inside =
    let sum = gifts_sum f each k in
    let there = sum_there (λ i. total f (each i)) j k inside in
    omega (arith, sum, there)

-- ---- what a gift is

module _ (script : List ScriptLine) (low : List Entry) (stream : ℕ) where
  -- The line with this place adds these points to what waits for the stream.
  pub record IsGift (place : ℕ) (points : List Point) : Type 0 where
    pub lane : ℕ
    pub feeds : IsFeedOf script low lane stream place
    pub fed : fed_by (slice_get script place) ≡ points

  -- The item with this number, which adds these points, is one of the gifts.
  pub record HasGift (gifts : List Gift) (number : ℕ) (points : List Point) : Type 0 where
    pub place : ℕ
    pub gift : IsGift place points
    pub there : (k : ℕ) → one (place == k) ≤ gifts_at stream number k gifts

  pub more_gifts : (few many : List Gift) (number : ℕ) (points : List Point) → ((k : ℕ) → gifts_at stream number k few ≤ gifts_at stream number k many) → HasGift few number points → HasGift many number points
  more_gifts few many number points more has = record {
    place = has.place;
    gift = has.gift;
    there = λ k. let a = has.there k in let b = more k in omega (arith, a, b);
  }

-- ---- numbers in lists

-- What holds of each number of a list holds of one that is there.
pub all_there : (P : ℕ → Type 0) (n : ℕ) (numbers : List ℕ) → AllByRecursion P numbers → 1 ≤ times n numbers → P n
all_there P n [] all some = absurd (omega (arith, some))
all_there P n (m ∷ numbers) all some =
    elim (cases_eq m n) [
      | inl same ↦ subst P same all.0
      | inr differs ↦ all_there P n numbers all.1 (let other = ap one (ne_eqb m n differs) in omega (arith, some, other))
    ]

-- One of the items has a number of which there is one in all.
pub record HasOne {A : Type 0} (f : A → ℕ) (items : List A) (default : A) : Type 0 where
  pub index : ℕ
  pub inside : index < length items
  pub there : 1 ≤ f (slice_index_or items index default)

pub has_one : {A : Type 0} (f : A → ℕ) (items : List A) (default : A) → 1 ≤ total f items → HasOne f items default
has_one f [] default some = absurd (omega (arith, some))
has_one f (x ∷ items) default some =
    elim (cases_lt 0 (f x)) [
      | inl here ↦ record { index = 0; inside = omega arith; there = here }
      | inr none ↦
          let rest = has_one f items default (omega (arith, some, none)) in
          record { index = suc rest.index; inside = (let i = rest.inside in omega (arith, i)); there = rest.there }
    ]

-- What holds of each item of a list, and of what stands for those past its end, holds of what is looked up.
pub all_index : {A : Type 0} (P : A → Type 0) (items : List A) (default : A) → P default → AllByRecursion P items → (i : ℕ) → P (slice_index_or items i default)
all_index P [] default past all i = past
all_index P (x ∷ items) default past all zero = all.0
all_index P (x ∷ items) default past all (suc i) = all_index P items default past all.1 i

pub past_end : {A : Type 0} (items : List A) (default : A) (i : ℕ) → length items ≤ i → slice_index_or items i default ≡ default
past_end [] default i past = refl
past_end (x ∷ items) default zero past = absurd (omega (arith, past))
past_end (x ∷ items) default (suc i) past = past_end items default i (omega (arith, past))

-- ---- streams of a shorter history

position_least : (f : ℕ → Bool) (i : ℕ) (xs : List ℕ) (n : ℕ) → position_from f i xs ≡ Some n → i ≤ n
position_least f i [] n is = absurd (cc)
position_least f i (x ∷ xs) n is =
    elim (f x) as (λ t. cond t (Some i) (position_from f (i + 1) xs) ≡ Some n → i ≤ n) [
      | true ↦ λ e. let same = here i n e in omega (arith, same)
      | false ↦ λ e. let rest = position_least f (i + 1) xs n e in omega (arith, rest)
    ] is
  where
    here : (a b : ℕ) → Some a ≡ Some b → a ≡ b
    here a b same = cc

position_part : (f : ℕ → Bool) (i : ℕ) (xs ys : List ℕ) (n : ℕ) → n < i + length xs → position_from f i (xs ++ ys) ≡ Some n → position_from f i xs ≡ Some n
position_part f i [] ys n inside is = let least = position_least f i ys n is in absurd (omega (arith, inside, least))
position_part f i (x ∷ xs) ys n inside is =
    elim (f x) as (λ t. cond t (Some i) (position_from f (i + 1) (xs ++ ys)) ≡ Some n → cond t (Some i) (position_from f (i + 1) xs) ≡ Some n) [
      | true ↦ λ e. e
      | false ↦ λ e. position_part f (i + 1) xs ys n (omega (arith, inside)) e
    ] is

-- A stream that stands in a history is found there by an id by which a longer one finds it.
pub stream_of-shorter : (a low : List Entry) (id stream : ℕ) → StartsWith a low → stream < length (ids low) → stream_of a id ≡ Some stream → stream_of low id ≡ Some stream
stream_of-shorter a low id stream starts inside is =
    let more : List Entry = starts.0 in
    position_part (nat_eq id) 0 (ids low) (ids more) stream (omega (arith, inside))
    (sym (ap (λ (l : List Entry). stream_of l id) starts.1 ∙ ap (λ (l : List ℕ). position_from (nat_eq id) 0 l) (ids-append low more)) ∙ is)
