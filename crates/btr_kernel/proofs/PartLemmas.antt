-- Lemmas on the aggregates of the points from one index up to, and without, another.
use Rattle.std.specs.Prelude.{◌≡◌, ℕ, ◌+◌, ◌-◌, ◌<◌, ◌≤◌, List, [], ◌∷◌, ◌++◌, length, take, drop, slice_range}
use Rattle.std.proofs.Common.{zero, suc, ap, ◌∙◌, arith, get_or, inl, inr, length-take, length-drop}
use Rattle.std.proofs.lemmas.Bool.{cases_lt}
use Rattle.std.proofs.lemmas.List.{take_more, drop_more, get_or-drop, drop-drop, get_or_append_left, get_or_push, length_push}
use Rattle.btr_base.specs.declared.point.Point.{Point}
use Rattle.btr_base.specs.Agg.{AggValue, agg, joined, one_point}
use Rattle.btr_base.proofs.AggLemmas.{agg-append, agg-one, agg-count}
use Rattle.btr_kernel.specs.Parts.{AreLasts}

-- One more at the end.
pub part-more : {X : Type 0} (b : List X) (i j : ℕ) (d : X) → i ≤ j → j < length b → slice_range b i (j + 1) ≡ slice_range b i j ++ get_or b j d ∷ []
part-more b i j d h k =
    let n : (j + 1) - i ≡ (j - i) + 1 = omega arith in
    let m : i + (j - i) ≡ j = omega arith in
    ap (λ x. take x (drop i b)) n
    ∙ take_more (drop i b) (j - i) d (omega (arith, length-drop i b))
    ∙ ap (λ x. slice_range b i j ++ x ∷ []) (get_or-drop i b (j - i) d ∙ ap (λ x. get_or b x d) m)

-- One more at the begin.
pub part-less : {X : Type 0} (b : List X) (i j : ℕ) (d : X) → i < j → j ≤ length b → slice_range b i j ≡ get_or b i d ∷ slice_range b (i + 1) j
part-less b i j d h k =
    let n : j - i ≡ suc (j - (i + 1)) = omega arith in
    ap (λ x. take (j - i) x) (drop_more b i d (omega arith)) ∙ ap (λ x. take x (get_or b i d ∷ drop (i + 1) b)) n

take-parts : {X : Type 0} (n m : ℕ) (xs : List X) → n ≤ length xs → take (n + m) xs ≡ take n xs ++ take m (drop n xs)
take-parts zero m xs h = let e : 0 + m ≡ m = omega arith in ap (λ x. take x xs) e
take-parts (suc n) m [] h = absurd (omega arith)
take-parts (suc n) m (x ∷ xs) h =
    let e : suc n + m ≡ suc (n + m) = omega arith in
    ap (λ y. take y (x ∷ xs)) e ∙ ap (λ l. x ∷ l) (take-parts n m xs (omega arith))

-- Divided at an index.
pub part-split : {X : Type 0} (b : List X) (i m j : ℕ) → i ≤ m → m ≤ j → j ≤ length b → slice_range b i j ≡ slice_range b i m ++ slice_range b m j
part-split b i m j h k l =
    let n : j - i ≡ (m - i) + (j - m) = omega arith in
    let at : i + (m - i) ≡ m = omega arith in
    ap (λ x. take x (drop i b)) n
    ∙ take-parts (m - i) (j - m) (drop i b) (omega (arith, length-drop i b))
    ∙ ap (λ x. slice_range b i m ++ take (j - m) x) (drop-drop (m - i) i b ∙ ap (λ x. drop x b) at)

pub length-part : {X : Type 0} (b : List X) (i j : ℕ) → i ≤ j → j ≤ length b → length (slice_range b i j) ≡ j - i
length-part b i j h k = omega (arith, length-take (j - i) (drop i b), length-drop i b)

-- ---- aggregates

pub agg-part_count : (b : List Point) (i j : ℕ) → i ≤ j → j ≤ length b → (agg (slice_range b i j)).count ≡ j - i
agg-part_count b i j h k = agg-count (slice_range b i j) ∙ length-part b i j h k

pub agg-part_more : (b : List Point) (i j : ℕ) (d : Point) → i ≤ j → j < length b → agg (slice_range b i (j + 1)) ≡ joined (agg (slice_range b i j)) (one_point (get_or b j d).value)
agg-part_more b i j d h k =
    ap agg (part-more b i j d h k)
    ∙ agg-append (slice_range b i j) (get_or b j d ∷ [])
    ∙ ap (joined (agg (slice_range b i j))) (agg-one (get_or b j d))

pub agg-part_less : (b : List Point) (i j : ℕ) (d : Point) → i < j → j ≤ length b → agg (slice_range b i j) ≡ joined (one_point (get_or b i d).value) (agg (slice_range b (i + 1) j))
agg-part_less b i j d h k = ap agg (part-less b i j d h k)

pub agg-part_split : (b : List Point) (i m j : ℕ) → i ≤ m → m ≤ j → j ≤ length b → agg (slice_range b i j) ≡ joined (agg (slice_range b i m)) (agg (slice_range b m j))
agg-part_split b i m j h k l =
    ap agg (part-split b i m j h k l) ∙ agg-append (slice_range b i m) (slice_range b m j)

-- ---- the aggregates of the last points before an index

pub lasts-push : (b : List Point) (lasts : List AggValue) (all : AggValue) (place mid : ℕ) → 0 < place → place + length lasts ≡ mid → AreLasts mid b lasts → all ≡ agg (slice_range b (place - 1) mid) → AreLasts mid b (lasts ++ all ∷ [])
lasts-push b lasts all place mid some count h is k d low =
    let long = length_push lasts all in
    elim (cases_lt k (length lasts)) [
      | inl less ↦ get_or_append_left lasts (all ∷ []) d k less ∙ h k d less
      | inr more ↦
          let same : length lasts ≡ k = omega arith in
          let from : place - 1 ≡ mid - (k + 1) = omega arith in
          get_or_push lasts all d k same ∙ is ∙ ap (λ n. agg (slice_range b n mid)) from
    ]

-- The aggregate of the points from an index on.
pub last-read : (b : List Point) (lasts : List AggValue) (mid from : ℕ) (a : AggValue) → AreLasts mid b lasts → from < mid → mid ≤ from + length lasts → a ≡ get_or lasts (mid - from - 1) a → a ≡ agg (slice_range b from mid)
last-read b lasts mid from a h less kept is =
    let at : mid - ((mid - from - 1) + 1) ≡ from = omega arith in
    is ∙ h (mid - from - 1) a (omega arith) ∙ ap (λ n. agg (slice_range b n mid)) at
