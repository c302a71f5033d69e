-- Lemmas on the windows that ranges meet.
use Rattle.std.specs.Prelude.{◌≡◌, ℕ, ◌≤◌, ℤ, pos, ◌-ℤ◌, List, map}
use Rattle.std.proofs.Common.{ap, ◌∙◌, arith, w64, to_z, of_z}
use Rattle.std.proofs.lemmas.Int.{ints, to_z-of_z}
use Rattle.btr_base.specs.Range.{RangeValue, IsRange, IsCut, covered}
use Rattle.btr_base.specs.Cut.{union}
use Rattle.btr_base.proofs.CutLemmas.{union-is}
use Rattle.btr_hist.specs.Distil.{whole}
use Rattle.btr_hist.proofs.CellLemmas.{whole-each}

-- The bounds of a range as numbers of 64 bits.
pub from-is : (r : RangeValue) → IsRange r → to_z w64 (of_z w64 r.from) ≡ r.from
from-is r is =
    let begins = is.begins in
    let some = is.not_empty in
    let ends = is.ends in
    to_z-of_z w64 r.from (omega (arith, ints))

pub to-is : (r : RangeValue) → IsRange r → to_z w64 (of_z w64 r.to) ≡ r.to
to-is r is =
    let begins = is.begins in
    let some = is.not_empty in
    let ends = is.ends in
    to_z-of_z w64 r.to (omega (arith, ints))

pub last-is : (r : RangeValue) → IsRange r → to_z w64 (of_z w64 (to_z w64 (of_z w64 r.to) -ℤ pos 1)) ≡ r.to -ℤ pos 1
last-is r is =
    let begins = is.begins in
    let some = is.not_empty in
    let ends = is.ends in
    ap (λ t. to_z w64 (of_z w64 (t -ℤ pos 1))) (to-is r is) ∙ to_z-of_z w64 (r.to -ℤ pos 1) (omega (arith, ints))

-- A cut of the times of all windows is their union.
pub whole-all : (p : ℕ) (rs all : List RangeValue) → p ≤ 62 → IsCut rs → IsCut all → ((t : ℤ) → covered all t ≡ covered (map (whole p) rs) t) → all ≡ union (map (whole p) rs)
whole-all p rs all low cut is h = union-is all (map (whole p) rs) is (whole-each p rs low cut.each) h
