-- Lemmas on what a cut leaves of a span.
use Rattle.std.specs.Prelude.{◌≡◌, ◌≤◌, ℤ, ◌≤ℤ◌, ◌<ℤ◌, true, false, not, List, [], ◌∷◌, ◌++◌, length}
use Rattle.std.specs.List.{AllByRecursion}
use Rattle.std.proofs.Common.{refl, ap, ◌∙◌, arith}
use Rattle.std.proofs.lemmas.Int.{ints}
use Rattle.btr_base.specs.declared.point.Point.{Point}
use Rattle.btr_base.specs.Range.{RangeValue, covered}
use Rattle.btr_base.specs.Bag.{within, outside, is_within}
use Rattle.btr_base.proofs.ListLemmas.{each-weaker, filter-passes, filter-append, filter-none, filter-all, length-filter}
use Rattle.btr_base.proofs.RangeLemmas.{outside-same}

within-bounds : (a b t : ℤ) (p : Point) → is_within a b p ≡ true → (a ≤ℤ p.time) × (p.time <ℤ b)
within-bounds a b t p h = (grind (arith, ints), grind (arith, ints))

pub within-each : (a b : ℤ) (xs : List Point) → AllByRecursion (λ p. (a ≤ℤ p.time) × (p.time <ℤ b)) (within a b xs)
within-each a b xs =
    each-weaker (λ p. is_within a b p ≡ true) (λ p. (a ≤ℤ p.time) × (p.time <ℤ b)) (λ p h. within-bounds a b a p h) (within a b xs) (filter-passes (is_within a b) xs)

pub outside-append : (a b : List Point) (rs : List RangeValue) → outside (a ++ b) rs ≡ outside a rs ++ outside b rs
outside-append a b rs = filter-append (λ p. not (covered rs p.time)) a b

-- Cuts that cover alike between two times leave the same there.
pub outside-alike : (a b : ℤ) (xs : List Point) (rs us : List RangeValue) → ((t : ℤ) → a ≤ℤ t → t <ℤ b → covered rs t ≡ covered us t) → outside (within a b xs) rs ≡ outside (within a b xs) us
outside-alike a b xs rs us h =
    outside-same (within a b xs) rs us (each-weaker (λ p. (a ≤ℤ p.time) × (p.time <ℤ b)) (λ p. covered rs p.time ≡ covered us p.time) (λ p k. h p.time k.0 k.1) (within a b xs) (within-each a b xs))

pub outside-whole : (a b : ℤ) (xs : List Point) (rs : List RangeValue) → ((t : ℤ) → a ≤ℤ t → t <ℤ b → covered rs t ≡ true) → outside (within a b xs) rs ≡ []
outside-whole a b xs rs h =
    filter-none (λ p. not (covered rs p.time)) (within a b xs) (each-weaker (λ p. (a ≤ℤ p.time) × (p.time <ℤ b)) (λ p. not (covered rs p.time) ≡ false) (λ p k. ap not (h p.time k.0 k.1)) (within a b xs) (within-each a b xs))

pub outside-missed : (a b : ℤ) (xs : List Point) (rs : List RangeValue) → ((t : ℤ) → a ≤ℤ t → t <ℤ b → covered rs t ≡ false) → outside (within a b xs) rs ≡ within a b xs
outside-missed a b xs rs h =
    filter-all (λ p. not (covered rs p.time)) (within a b xs) (each-weaker (λ p. (a ≤ℤ p.time) × (p.time <ℤ b)) (λ p. not (covered rs p.time) ≡ true) (λ p k. ap not (h p.time k.0 k.1)) (within a b xs) (within-each a b xs))

pub outside-nothing : (xs : List Point) → outside xs [] ≡ xs
outside-nothing [] = refl
outside-nothing (p ∷ xs) = ap (λ ys. p ∷ ys) (outside-nothing xs)

pub outside-length : (xs : List Point) (rs : List RangeValue) → length (outside xs rs) ≤ length xs
outside-length xs rs = length-filter (λ p. not (covered rs p.time)) xs

-- The ranges of a cut that end after the first of two times and begin before the second.
pub here-alike : (a b : ℤ) (cut mid here : List RangeValue) → ((t : ℤ) → a ≤ℤ t → covered mid t ≡ covered cut t) → ((t : ℤ) → t <ℤ b → covered here t ≡ covered mid t) → (t : ℤ) → a ≤ℤ t → t <ℤ b → covered here t ≡ covered cut t
here-alike a b cut mid here h k t low high = k t high ∙ h t low
