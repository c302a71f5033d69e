-- Lemmas on windows of one width: the numbers of times, and aligned windows in the domain.
use Rattle.std.specs.Prelude.{◌≡◌, ℕ, ◌+◌, ◌*◌, ◌^◌, ◌<◌, ◌≤◌, ℤ, pos, ◌+ℤ◌, ◌-ℤ◌, ◌≤ℤ◌, ◌<ℤ◌, unsigned_abs, List}
use Rattle.std.proofs.Common.{sym, ap, ◌∙◌, arith, subst}
use Rattle.std.proofs.lemmas.Int.{ints}
use Rattle.std.proofs.lemmas.Nat.{pow_pos}
use Rattle.std.proofs.Math.Nat.{pow-le-pow_right, div-mul-le_self, lt-div-mul-add}
use Rattle.btr_base.specs.declared.limits.TheConstants.{FIRST, END}
use Rattle.btr_base.specs.declared.point.Point.{Point}
use Rattle.btr_base.specs.Windows.{IsGrid, IsAlignedBy, IsWindow, window_of, window_at, begin_of, cells, aligned}
use Rattle.btr_base.proofs.ChangesLemmas.{slot-fits}

-- ---- the window of a time

-- The time by its offset from the first window, which lies between the bounds of the window of this number.
pub record IsNumbered (first : ℤ) (width : ℕ) (t : ℤ) (k offset : ℕ) : Type 0 where
  pub at : t ≡ first +ℤ pos offset
  pub low : k * width ≤ offset
  pub high : offset < (k + 1) * width

pub numbered : (first : ℤ) (width : ℕ) (t : ℤ) → 1 ≤ width → first ≤ℤ t → IsNumbered first width t (window_of first width t) (unsigned_abs (t -ℤ first))
numbered first width t some h =
    let o = unsigned_abs (t -ℤ first) in
    let low = div-mul-le_self o width in
    let high = lt-div-mul-add {a = o} {b = width} some in
    record { at = omega (arith, ints); low = low; high = omega arith }

-- The window of a time of the domain, or of its end.
pub window-around : (first : ℤ) (width : ℕ) (t : ℤ) → IsGrid first width → first ≤ℤ t → t ≤ℤ END → IsWindow first width (window_of first width t)
window-around first width t grid low high =
    let o = unsigned_abs (t -ℤ first) in
    let begins = div-mul-le_self o width in
    record { grid = grid; starts = omega (arith, ints) }

-- The end of a window is the start of the next one.
pub begin-next : (first : ℤ) (width : ℕ) (t : ℤ) → begin_of first width t +ℤ pos width ≡ window_at first width (window_of first width t + 1)
begin-next first width t =
    let k = window_of first width t in
    let e : (k + 1) * width ≡ k * width + width = omega arith in
    omega (arith, ints)

-- ---- aligned windows

grid-is : (p : ℕ) → p ≤ 62 → IsGrid FIRST (2 ^ p)
grid-is p low =
    let some = pow_pos p in
    let few = pow-le-pow_right {n = 2} (omega arith) {i = p} {j = 62} low in
    record { begins = omega (arith, ints); some = omega arith; most = omega arith }

pub aligned-grid : (p : ℕ) (first : ℤ) (width : ℕ) → IsAlignedBy p first width → IsGrid first width
aligned-grid p first width a =
    subst (λ f. IsGrid f width) (sym a.first_is) (subst (IsGrid FIRST) (sym a.width_is) (grid-is p a.small))

fits : (p : ℕ) (t : ℤ) → p ≤ 62 → FIRST ≤ℤ t → t <ℤ END → window_at FIRST (2 ^ p) (window_of FIRST (2 ^ p) t + 1) ≤ℤ END
fits p t low early late =
    let o = unsigned_abs (t -ℤ FIRST) in
    let fits = slot-fits p o low (omega (arith, ints)) in
    omega (arith, ints)

-- The window of a time of the domain ends in the domain.
pub aligned-ends : (p : ℕ) (first : ℤ) (width : ℕ) (t : ℤ) → IsAlignedBy p first width → FIRST ≤ℤ t → t <ℤ END → window_at first width (window_of first width t + 1) ≤ℤ END
aligned-ends p first width t a early late =
    subst (λ f. window_at f width (window_of f width t + 1) ≤ℤ END) (sym a.first_is)
    (subst (λ w. window_at FIRST w (window_of FIRST w t + 1) ≤ℤ END) (sym a.width_is) (fits p t a.small early late))

pub aligned-fits : (p : ℕ) (first : ℤ) (width : ℕ) (t : ℤ) → IsAlignedBy p first width → FIRST ≤ℤ t → t <ℤ END → (begin_of first width t +ℤ pos width) ≤ℤ END
aligned-fits p first width t a early late =
    subst (λ x. x ≤ℤ END) (sym (begin-next first width t)) (aligned-ends p first width t a early late)

-- The aligned windows that a range meets, between the start of the first and the end of the last.
pub aligned-cells : (p : ℕ) (first : ℤ) (width : ℕ) (from to begin end : ℤ) (b : List Point) → IsAlignedBy p first width → begin ≡ begin_of first width from → end ≡ window_at first width (window_of first width (to -ℤ pos 1) + 1) → cells first width begin end b ≡ aligned p from to b
aligned-cells p first width from to begin end b a q r =
    ap (λ x. cells first width x end b) q
    ∙ ap (λ x. cells first width (begin_of first width from) x b) r
    ∙ ap (λ f. cells f width (begin_of f width from) (window_at f width (window_of f width (to -ℤ pos 1) + 1)) b) a.first_is
    ∙ ap (λ w. cells FIRST w (begin_of FIRST w from) (window_at FIRST w (window_of FIRST w (to -ℤ pos 1) + 1)) b) a.width_is
