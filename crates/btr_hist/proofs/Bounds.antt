-- Lemmas on the bounds of a range and of the windows in it.
use Rattle.std.specs.Prelude.{◌≡◌, ℕ, ℤ, pos, ◌-ℤ◌, ◌≤ℤ◌, ◌<ℤ◌, unsigned_abs, true, List}
use Rattle.std.proofs.Common.{ap, ◌∙◌, arith, SFits, w64, to_z, of_z}
use Rattle.std.proofs.lemmas.Int.{ints, to_z-of_z}
use Rattle.std.proofs.Math.Nat.{div-mul-le_self}
use Rattle.btr_base.specs.declared.limits.TheConstants.{FIRST, END}
use Rattle.btr_base.specs.declared.point.Point.{Point}
use Rattle.btr_base.specs.Bag.{within}
use Rattle.btr_base.specs.Windows.{begin_of}
use Rattle.btr_hist.specs.Answer.{is_range}

-- ---- the tests as facts

-- The bounds of a range.
pub record AreBounds (from to : ℤ) : Type 0 where
  pub begins : FIRST ≤ℤ from
  pub not_empty : from <ℤ to
  pub ends : to ≤ℤ END

pub range-bounds : (from to : ℤ) → is_range from to ≡ true → AreBounds from to
range-bounds from to h =
    record { begins = grind (arith, ints); not_empty = grind (arith, ints); ends = grind (arith, ints) }

-- ---- windows that lie in a range

-- The last window of a width that ends at or before a time.
pub whole-ends : (from to : ℤ) (w : ℕ) → AreBounds from to → begin_of from w to ≤ℤ END
whole-ends from to w h =
    let o = unsigned_abs (to -ℤ from) in
    let begins = div-mul-le_self o w in
    let full = h.not_empty in
    let ends = h.ends in
    omega (arith, ints)

-- ---- times as machine words

pub as_word : (t : ℤ) → FIRST ≤ℤ t → t ≤ℤ END → to_z w64 (of_z w64 t) ≡ t
as_word t low high = to_z-of_z w64 t (omega (arith, ints))

-- The points between two times.
pub within_as_words : (from to : ℤ) → SFits w64 from → SFits w64 to → (ps all : List Point) → ps ≡ within (to_z w64 (of_z w64 from)) (to_z w64 (of_z w64 to)) all → ps ≡ within from to all
within_as_words from to h k ps all e =
    e ∙ ap (λ z. within z (to_z w64 (of_z w64 to)) all) (to_z-of_z w64 from h) ∙ ap (λ z. within from z all) (to_z-of_z w64 to k)

-- The time before one of the domain.
pub before_as_word : (t u : ℤ) → FIRST <ℤ t → t ≤ℤ END → u ≡ t → to_z w64 (of_z w64 (u -ℤ pos 1)) ≡ t -ℤ pos 1
before_as_word t u low high same =
    ap (λ z. to_z w64 (of_z w64 (z -ℤ pos 1))) same ∙ to_z-of_z w64 (t -ℤ pos 1) (omega (arith, ints))
