-- Lemmas on the points of a span from a time on, and before it.
use Rattle.std.specs.Prelude.{◌≡◌, ℤ, false, ◌&&◌, int_le, int_lt, cond, ◌≤ℤ◌, List, [], ◌∷◌}
use Rattle.std.specs.List.{filter}
use Rattle.std.proofs.Common.{refl, ap, ◌∙◌, arith}
use Rattle.std.proofs.lemmas.Int.{ints}
use Rattle.btr_base.specs.declared.point.Point.{Point}
use Rattle.btr_base.specs.Bag.{within, is_within}
use Rattle.btr_base.proofs.ListLemmas.{filter-filter, filter-same}
use Rattle.btr_base.proofs.WithinLemmas.{within-from, within-before}

no-time : (a b t : ℤ) → b ≤ℤ a → (int_le a t && int_lt t b) ≡ false
no-time a b t h = grind (arith, ints)

-- No point is between two times of which the second is not after the first.
within-none : (a b : ℤ) (xs : List Point) → b ≤ℤ a → within a b xs ≡ []
within-none a b [] h = refl
within-none a b (x ∷ xs) h =
    ap (λ t. cond t (x ∷ within a b xs) (within a b xs)) (no-time a b x.time h) ∙ within-none a b xs h

from-all : (time a e t : ℤ) → time ≤ℤ a → ((int_le a t && int_lt t e) && int_le time t) ≡ (int_le a t && int_lt t e)
from-all time a e t h = grind (arith, ints)

before-all : (time a e t : ℤ) → e ≤ℤ time → ((int_le a t && int_lt t e) && int_lt t time) ≡ (int_le a t && int_lt t e)
before-all time a e t h = grind (arith, ints)

-- ---- from a time on

pub none-from_end : (time a e : ℤ) (b : List Point) → a ≤ℤ e → e ≤ℤ time → filter (λ p. int_le time p.time) (within a e b) ≡ []
none-from_end time a e b full late =
    within-from a e time b (omega (arith, ints)) ∙ within-none time e b late

pub all-from_start : (time a e : ℤ) (b : List Point) → time ≤ℤ a → filter (λ p. int_le time p.time) (within a e b) ≡ within a e b
all-from_start time a e b early =
    filter-filter (λ p. int_le time p.time) (is_within a e) b
    ∙ filter-same (λ p. is_within a e p && int_le time p.time) (is_within a e) b (λ p. from-all time a e p.time early)

-- ---- before a time

pub none-before_start : (time a e : ℤ) (b : List Point) → a ≤ℤ e → time ≤ℤ a → filter (λ p. int_lt p.time time) (within a e b) ≡ []
none-before_start time a e b full early =
    within-before a e time b (omega (arith, ints)) ∙ within-none a time b early

pub all-before_end : (time a e : ℤ) (b : List Point) → e ≤ℤ time → filter (λ p. int_lt p.time time) (within a e b) ≡ within a e b
all-before_end time a e b late =
    filter-filter (λ p. int_lt p.time time) (is_within a e) b
    ∙ filter-same (λ p. is_within a e p && int_lt p.time time) (is_within a e) b (λ p. before-all time a e p.time late)
