-- Lemmas on the span above a span.
use Rattle.std.specs.Prelude.{◌≡◌, ℕ, ◌+◌, ◌*◌, ◌/◌, ◌<◌, ◌≤◌, nat_eq, ℤ, pos, ◌+ℤ◌, ◌-ℤ◌, unsigned_abs, false, cond}
use Rattle.std.proofs.Common.{suc, refl, sym, ap, ◌∙◌, arith, mul-le-mul_right}
use Rattle.std.proofs.lemmas.Bool.Decides.{nat_tests}
use Rattle.std.proofs.lemmas.Int.{ints}
use Rattle.std.proofs.lemmas.Nat.{div-mul-add}
use Rattle.btr_base.specs.declared.limits.TheConstants.{FIRST}
use Rattle.btr_base.specs.Span.{width, SpanValue, IsSpan, slot_of}
use Rattle.btr_base.specs.Windows.{begin_of}
use Rattle.btr_base.proofs.SpanLemmas.{width-next, width-positive, slot-aligned}
use Rattle.btr_tree.specs.Nodes.{is_inner, above_root}
use Rattle.btr_tree.specs.Root.{root_part}
use Rattle.btr_tree.specs.Shape.{slot_start}
use Rattle.btr_verify.specs.Judged.{span_above, above_of}

-- No span is above the root.
pub root-above : above_of root_part ≡ above_root
unfolding above_of
root-above = refl

pub from-first : (n : ℕ) → unsigned_abs ((FIRST +ℤ pos n) -ℤ FIRST) ≡ n
from-first n =
    let e : (FIRST +ℤ pos n) -ℤ FIRST ≡ pos n = omega (arith, ints) in ap unsigned_abs e

-- The start of the window of a time that is so far after the start of a window.
pub begin-part : (w n r : ℕ) → r < w → begin_of FIRST w (FIRST +ℤ pos (n * w + r)) ≡ FIRST +ℤ pos (n * w)
begin-part w n r lt =
    ap (λ o. FIRST +ℤ pos ((o / w) * w)) (from-first (n * w + r)) ∙ ap (λ m. FIRST +ℤ pos (m * w)) (div-mul-add n w r lt)

slot-offset : (k i : ℕ) → i < 64 → i * width k < width (k + 1)
slot-offset k i lt =
    let e : k + 1 ≡ suc k = omega arith in
    let wide : width (k + 1) ≡ 64 * width k = ap width e ∙ width-next k in
    let some = width-positive k in
    let less : suc i * width k ≤ 64 * width k = mul-le-mul_right (width k) (omega arith) in
    omega arith

-- The start of the span above a slot.
above-start : (k : ℕ) (s : ℤ) (i n : ℕ) → i < 64 → s ≡ FIRST +ℤ pos (n * width (suc k)) → begin_of FIRST (width (k + 1)) (slot_start k s i) ≡ s
above-start k s i n lt e =
    let one : k + 1 ≡ suc k = omega arith in
    let same : s ≡ FIRST +ℤ pos (n * width (k + 1)) = e ∙ ap (λ m. FIRST +ℤ pos (n * width m)) (sym one) in
    let at : slot_start k s i ≡ FIRST +ℤ pos (n * width (k + 1) + i * width k) = omega (arith, ints) in
    ap (begin_of FIRST (width (k + 1))) at ∙ begin-part (width (k + 1)) n (i * width k) (slot-offset k i lt) ∙ sym same

lower : (k : ℕ) → suc k ≤ 10 → nat_eq k 10 ≡ false
lower k low = grind (arith, nat_tests)

-- The span above a slot is that of which it is a slot.
pub slot-above : (span : SpanValue) (k i : ℕ) → IsSpan span → span.height ≡ suc k → i < 64 → above_of (record { start = slot_start k span.start i; height = k }) ≡ is_inner (suc k) span.start
unfolding above_of span_above
slot-above span k i aligned e lt =
    let low = aligned.1.height in
    let one : k + 1 ≡ suc k = omega arith in
    let begins : span.start ≡ FIRST +ℤ pos (aligned.0 * width (suc k)) = aligned.1.start ∙ ap (λ m. FIRST +ℤ pos (aligned.0 * width m)) e in
    let start = begin_of FIRST (width (k + 1)) (slot_start k span.start i) in
    ap (λ t. cond t above_root (is_inner (k + 1) start)) (lower k (omega arith))
    ∙ ap (λ m. is_inner m start) one
    ∙ ap (is_inner (suc k)) (above-start k span.start i aligned.0 lt begins)

-- A slot is a span of the tree.
pub slot-is_span : (span : SpanValue) (i : ℕ) → IsSpan span → 1 ≤ span.height → i < 64 → IsSpan (slot_of span i)
slot-is_span span i aligned low lt = (64 * aligned.0 + i, slot-aligned span aligned.0 i aligned.1 low lt)
