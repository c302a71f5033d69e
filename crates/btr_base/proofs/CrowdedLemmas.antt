-- Lemmas on bottom spans and on the first crowded one.
use Rattle.std.specs.Prelude.{◌≡◌, ℕ, ◌+◌, ◌*◌, ◌-◌, ◌/◌, ◌<◌, ◌≤◌, ℤ, pos, negsuc, ◌+ℤ◌, ◌≤ℤ◌, ◌<ℤ◌, IsTrue, Bool, true, false, cond, List, [], ◌∷◌, length, Option, Some, None}
use Rattle.std.specs.List.{find, AllByRecursion}
use Rattle.std.specs.Option.{option_map}
use Rattle.std.proofs.Common.{refl, sym, ap, ◌∙◌, arith, subst}
use Rattle.std.proofs.lemmas.Int.{ints, by_lt_z}
use Rattle.std.proofs.lemmas.Bool.{lt-ltb, le-ltb}
use Rattle.btr_base.specs.declared.limits.TheConstants.{FIRST, END, LEAF_POINTS}
use Rattle.btr_base.specs.declared.point.Point.{Point}
use Rattle.btr_base.specs.Point.{InDomain, AreInDomain, is_not_after}
use Rattle.btr_base.specs.Bag.{IsInOrder, within, is_within}
use Rattle.btr_base.specs.Span.{width, time_at}
use Rattle.btr_base.specs.Crowded.{bottom_start, is_crowded, crowded}
use Rattle.btr_base.proofs.ListLemmas.{each-weaker}
use Rattle.btr_base.proofs.PointLemmas.{is_not_after-times}
use Rattle.btr_base.proofs.SpanLemmas.{width-bottom}
use Rattle.btr_base.proofs.WithinLemmas.{within-behind}

-- ---- the bottom span of a time

bottom_start-pos : (a : ℕ) → bottom_start (pos a) ≡ pos (4 * (a / 4))
bottom_start-pos a = omega (arith, ints)

bottom_start-neg : (a : ℕ) → bottom_start (negsuc a) ≡ negsuc (4 * (a / 4) + 3)
bottom_start-neg a = omega (arith, ints)

-- The bottom span of a time contains it.
pub bottom-around : (t : ℤ) → (bottom_start t ≤ℤ t) × (t <ℤ (bottom_start t +ℤ pos 4))
bottom-around (pos a) = rw (bottom_start-pos a) (omega (arith, ints), omega (arith, ints))
bottom-around (negsuc a) = rw (bottom_start-neg a) (omega (arith, ints), omega (arith, ints))

-- The times that it contains have the same bottom span.
pub bottom-same : (t u : ℤ) → bottom_start t ≤ℤ u → u <ℤ (bottom_start t +ℤ pos 4) → bottom_start u ≡ bottom_start t
bottom-same (pos a) (pos b) low high =
    let l : pos (4 * (a / 4)) ≤ℤ pos b = rw (bottom_start-pos a) at low in
    let h : pos b <ℤ (pos (4 * (a / 4)) +ℤ pos 4) = rw (bottom_start-pos a) at high in
    rw (bottom_start-pos a, bottom_start-pos b) (omega (arith, ints))
bottom-same (pos a) (negsuc b) low high =
    let l : pos (4 * (a / 4)) ≤ℤ negsuc b = rw (bottom_start-pos a) at low in
    absurd (omega (arith, ints))
bottom-same (negsuc a) (pos b) low high =
    let h : pos b <ℤ (negsuc (4 * (a / 4) + 3) +ℤ pos 4) = rw (bottom_start-neg a) at high in
    absurd (omega (arith, ints))
bottom-same (negsuc a) (negsuc b) low high =
    let l : negsuc (4 * (a / 4) + 3) ≤ℤ negsuc b = rw (bottom_start-neg a) at low in
    let h : negsuc b <ℤ (negsuc (4 * (a / 4) + 3) +ℤ pos 4) = rw (bottom_start-neg a) at high in
    rw (bottom_start-neg a, bottom_start-neg b) (omega (arith, ints))

-- ---- bottom spans by their numbers

time_at-bottom : (k : ℕ) → time_at (k * width 0) ≡ (FIRST +ℤ pos (k * 4))
time_at-bottom k = ap (λ (w : ℕ). FIRST +ℤ pos (k * w)) width-bottom

-- 2^58 bottom spans of the domain end by time 0.
bottom-number : (t : ℤ) → FIRST ≤ℤ t → (k : ℕ) × (bottom_start t ≡ time_at (k * width 0))
bottom-number (pos a) low = (a / 4 + 288230376151711744, bottom_start-pos a ∙ rw time_at-bottom (omega (arith, ints)))
bottom-number (negsuc a) low = (288230376151711744 - a / 4 - 1, bottom_start-neg a ∙ rw time_at-bottom (omega (arith, ints)))

bottom-at : (k : ℕ) (t : ℤ) → (FIRST +ℤ pos (k * 4)) ≤ℤ t → t <ℤ (FIRST +ℤ pos (k * 4 + 4)) → bottom_start t ≡ (FIRST +ℤ pos (k * 4))
bottom-at k (pos a) low high = bottom_start-pos a ∙ omega (arith, ints)
bottom-at k (negsuc a) low high = bottom_start-neg a ∙ omega (arith, ints)

-- ---- the first crowded bottom span, by the numbers of bottom spans

-- No bottom span that starts from one time on and before another is crowded.
abbrev pub HasRoom : ℤ → ℤ → List Point → Type 0
HasRoom from to b =
    (k : ℕ) → from ≤ℤ time_at (k * width 0) → time_at (k * width 0) <ℤ to
    → length (within (time_at (k * width 0)) (time_at (k * width 0) +ℤ pos (width 0)) b) ≤ LEAF_POINTS

few-at : (b : List Point) (to : ℤ) (p : Point) → HasRoom FIRST to b → FIRST ≤ℤ p.time → p.time <ℤ to → is_crowded b (bottom_start p.time) ≡ false
few-at b to p room low early =
    let n = bottom-number p.time low in
    let around = bottom-around p.time in
    let begins = around.0 in
    let is = n.1 in
    let few = room n.0 (omega (arith, ints)) (omega (arith, ints)) in
    let s = bottom_start p.time in
    le-ltb LEAF_POINTS (length (within s (s +ℤ pos (width 0)) b)) (subst (λ s. length (within s (s +ℤ pos (width 0)) b) ≤ LEAF_POINTS) (sym is) few)

many-at : (b : List Point) (start : ℤ) (k : ℕ) (p : Point) → start ≡ time_at (k * width 0) → LEAF_POINTS < length (within start (start +ℤ pos (width 0)) b) → start ≤ℤ p.time → p.time <ℤ (start +ℤ pos (width 0)) → (is_crowded b (bottom_start p.time) ≡ true) × (bottom_start p.time ≡ start)
many-at b start k p is many low high =
    let at : start ≡ (FIRST +ℤ pos (k * 4)) = is ∙ time_at-bottom k in
    let wide = width-bottom in
    let same : bottom_start p.time ≡ start = bottom-at k p.time (omega (arith, ints)) (omega (arith, ints)) ∙ sym at in
    (ap (is_crowded b) same ∙ lt-ltb LEAF_POINTS (length (within start (start +ℤ pos (width 0)) b)) many, same)

find-none : (test : Point → Bool) (c : List Point) → AllByRecursion (λ p. test p ≡ false) c → find test c ≡ None
find-none test [] h = refl
find-none test (p ∷ c) h =
    ap {A = Bool} {B = Option Point} (λ t. cond t (Some p) (find test c)) h.0 ∙ find-none test c h.1

-- The test fails before a bottom span and holds in it, and one of the points lies in it.
module _ (test : Point → Bool) (start : ℤ) (before : (p : Point) → InDomain p.time → p.time <ℤ start → test p ≡ false) (here : (p : Point) → start ≤ℤ p.time → p.time <ℤ (start +ℤ pos (width 0)) → (test p ≡ true) × (bottom_start p.time ≡ start)) where
  abbrev found : Option Point → Option ℤ
  found o = option_map (λ p. bottom_start p.time) o

  abbrev end : ℤ
  end = start +ℤ pos (width 0)

  found-start : (c : List Point) → IsInOrder c → AreInDomain c → 0 < length (within start end c) → found (find test c) ≡ Some start
  found-start [] order inside some = absurd (omega arith)
  found-start (p ∷ c) order inside some =
      by_lt_z p.time start
      (λ early.
      let out : is_within start end p ≡ false = grind (arith, ints) in
      let fails = before p inside.0 early in
      let more : 0 < length (within start end c) = subst (λ (l : List Point). 0 < length l) (ap (λ t. cond t (p ∷ within start end c) (within start end c)) out) some in
      ap (λ t. found (cond t (Some p) (find test c))) fails ∙ found-start c order.1 inside.1 more)
      (λ late. by_lt_z p.time end
      (λ low.
      let at = here p late low in
      ap (λ t. found (cond t (Some p) (find test c))) at.0 ∙ ap {A = ℤ} {B = Option ℤ} Some at.1)
      (λ high.
      let rest : AllByRecursion (λ q. end ≤ℤ q.time) c = each-weaker (λ q. IsTrue (is_not_after p q)) (λ q. end ≤ℤ q.time) (λ q k. let next = is_not_after-times p q k in omega (arith, ints)) c order.0 in
      let none : within start end (p ∷ c) ≡ [] = within-behind start end (p ∷ c) (high, rest) in
      let empty : length (within start end (p ∷ c)) ≡ 0 = ap (length {A = Point}) none in
      absurd (omega arith)))

-- No bottom span of the domain is crowded.
pub crowded-none : (b : List Point) → AreInDomain b → HasRoom FIRST END b → crowded b ≡ None
crowded-none b inside room =
    ap {A = Option Point} {B = Option ℤ} (option_map (λ p. bottom_start p.time)) (find-none (λ p. is_crowded b (bottom_start p.time)) b (each-weaker (λ (p : Point). InDomain p.time) (λ p. is_crowded b (bottom_start p.time) ≡ false) (λ p at. few-at b END p room at.0 at.1) b inside))

-- The bottom span of this number is the first crowded one.
pub crowded-first : (b : List Point) (start : ℤ) (k : ℕ) → IsInOrder b → AreInDomain b → start ≡ time_at (k * width 0) → LEAF_POINTS < length (within start (start +ℤ pos (width 0)) b) → HasRoom FIRST start b → crowded b ≡ Some start
crowded-first b start k order inside is many room =
    found-start (λ p. is_crowded b (bottom_start p.time)) start (λ p at early. few-at b start p room at.0 early) (λ p low high. many-at b start k p is many low high) b order inside (omega arith)
