-- Lemmas on ranges: as numbers of 64 bits, the windows that end in one, and the points of one in another.
use Rattle.std.specs.Prelude.{◌≡◌, ℕ, ℤ, pos, ◌-ℤ◌, ◌≤ℤ◌, ◌<ℤ◌, ◌&&◌, int_le, int_lt, List, []}
use Rattle.std.proofs.Common.{sym, ap, ◌∙◌, arith, subst, to_z, of_z, w64}
use Rattle.std.proofs.lemmas.Int.{ints, to_z-of_z}
use Rattle.btr_base.specs.declared.limits.TheConstants.{FIRST, END}
use Rattle.btr_base.specs.declared.point.Point.{Point}
use Rattle.btr_base.specs.Bag.{within, is_within}
use Rattle.btr_base.specs.Range.{RangeValue, IsRange}
use Rattle.btr_base.specs.Windows.{begin_of, windows}
use Rattle.btr_base.proofs.ListLemmas.{filter-filter, filter-same}
use Rattle.btr_tree.proofs.RangeSlotLemmas.{range-from, range-to}
use Rattle.btr_window.proofs.Cells.{cells-none}

-- ---- A range as numbers.

pub range-full : (inside r : RangeValue) → IsRange inside → inside ≡ r → r.from <ℤ r.to
range-full inside r h e = subst (λ (i : RangeValue). i.from <ℤ i.to) e h.not_empty

pub range-domain : (inside r : RangeValue) → IsRange inside → inside ≡ r → (FIRST ≤ℤ r.from) × (r.to ≤ℤ END)
range-domain inside r h e = subst (λ (i : RangeValue). (FIRST ≤ℤ i.from) × (i.to ≤ℤ END)) e (h.begins, h.ends)

-- The last time of a range.
pub range-last : (inside r : RangeValue) → IsRange inside → inside ≡ r → to_z w64 (of_z w64 (to_z w64 (of_z w64 inside.to) -ℤ pos 1)) ≡ r.to -ℤ pos 1
range-last inside r h e =
    let low = h.begins in
    let full = h.not_empty in
    let high = h.ends in
    let to = ap (λ (i : RangeValue). i.to) e in
    ap (λ x. to_z w64 (of_z w64 (x -ℤ pos 1))) (range-to inside r h e) ∙ to_z-of_z w64 (r.to -ℤ pos 1) (omega (arith, ints))

-- ---- Windows side by side from the start of a range on.

-- Where the last of the windows that end in a range ends.
pub range-begin : (inside r : RangeValue) (width : ℕ) (begin : ℤ) → IsRange inside → inside ≡ r → begin ≡ begin_of (to_z w64 (of_z w64 inside.from)) width (to_z w64 (of_z w64 inside.to)) → begin ≡ begin_of r.from width r.to
range-begin inside r width begin h e is =
    is
    ∙ ap (λ f. begin_of f width (to_z w64 (of_z w64 inside.to))) (range-from inside r h e)
    ∙ ap (begin_of r.from width) (range-to inside r h e)

-- If that is the start of the range, then there are none.
pub range-no_windows : (inside r : RangeValue) (width : ℕ) (begin : ℤ) (b : List Point) → IsRange inside → inside ≡ r → begin ≡ begin_of (to_z w64 (of_z w64 inside.from)) width (to_z w64 (of_z w64 inside.to)) → to_z w64 (of_z w64 begin) ≡ begin → of_z w64 begin ≡ of_z w64 inside.from → windows width r.from r.to b ≡ []
range-no_windows inside r width begin b h e is fits none =
    let same = sym fits ∙ ap (to_z w64) none ∙ range-from inside r h e in
    cells-none r.from width r.from (begin_of r.from width r.to) b (sym (range-begin inside r width begin h e is) ∙ same)

-- ---- Points of both of two ranges.

inside-within : (from to a b t : ℤ) → from ≤ℤ a → b ≤ℤ to → ((int_le a t && int_lt t b) && (int_le from t && int_lt t to)) ≡ (int_le a t && int_lt t b)
inside-within from to a b t h k = grind (arith, ints)

pub within-as : (f t from to : ℤ) (a b : List Point) → f ≡ from → t ≡ to → a ≡ b → within f t a ≡ within from to b
within-as f t from to a b p q e = ap (λ x. within x t a) p ∙ ap (λ x. within from x a) q ∙ ap (within from to) e

-- All points of a range inside another are in both.
pub within-inside : (from to a b : ℤ) (xs : List Point) → from ≤ℤ a → b ≤ℤ to → within from to (within a b xs) ≡ within a b xs
within-inside from to a b xs h k =
    filter-filter (is_within from to) (is_within a b) xs
    ∙ filter-same (λ p. is_within a b p && is_within from to p) (is_within a b) xs (λ p. inside-within from to a b p.time h k)
