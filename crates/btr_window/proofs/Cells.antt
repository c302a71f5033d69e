-- Lemmas on windows that points are added to: they are those of the definition.
use Rattle.std.specs.Prelude.{◌≡◌, ℕ, ◌+◌, ◌*◌, ◌<◌, ◌≤◌, nat_eq, ℤ, ◌-ℤ◌, ◌≤ℤ◌, ◌<ℤ◌, unsigned_abs, Bool, true, false, ◌&&◌, int_le, int_lt, List, [], ◌∷◌, map, cond, IsTrue}
use Rattle.std.specs.Ordering.{int_eq}
use Rattle.std.specs.List.{AllByRecursion}
use Rattle.std.proofs.Common.{inl, inr, refl, sym, ap, ◌∙◌, arith, subst, mul-le-mul_right}
use Rattle.std.proofs.lemmas.Int.{ints}
use Rattle.std.proofs.lemmas.Bool.{cases_lt}
use Rattle.std.proofs.lemmas.Bool.Decides.{nat_tests}
use Rattle.btr_base.specs.declared.point.Point.{Point}
use Rattle.btr_base.specs.Point.{is_not_after}
use Rattle.btr_base.specs.Bag.{IsInOrder, within, is_within}
use Rattle.btr_base.proofs.ListLemmas.{each-weaker, filter-passes}
use Rattle.btr_base.proofs.PointLemmas.{is_not_after-times}
use Rattle.btr_base.proofs.WithinLemmas.{within-nested, within-in_order, within-empty}
use Rattle.btr_base.proofs.WindowLemmas.{numbered}
use Rattle.btr_base.specs.Windows.{window_of, window_at, dedup, windows_with, cell_of, cells}
use Rattle.btr_base.specs.Agg.{AggValue, joined, one_point, agg, agg_within}
use Rattle.btr_base.proofs.AggLemmas.{joined-assoc, none-joined}
use Rattle.btr_base.specs.Windows.{begin_of}
use Rattle.btr_window.specs.Accumulate.{add_points}
use Rattle.btr_window.proofs.Adding.{cell, same-eq, add_points-prefix}

-- ---- Windows by number.

pub times-less : (a b w : ℕ) → a < b → (a + 1) * w ≤ b * w
times-less a b w h = mul-le-mul_right w (omega arith)

-- The window of a later time has no lesser number.
pub window-rise : (first : ℤ) (width : ℕ) (t u : ℤ) → 1 ≤ width → first ≤ℤ t → t ≤ℤ u → window_of first width t ≤ window_of first width u
window-rise first width t u some h le =
    let a = numbered first width t some h in
    let b = numbered first width u some (omega (arith, ints)) in
    let e = a.at in
    let f = b.at in
    let low = a.low in
    let high = b.high in
    elim (cases_lt (window_of first width u) (window_of first width t)) [
      | inl lt ↦
          let less = times-less (window_of first width u) (window_of first width t) width lt in
          absurd (omega (arith, ints))
      | inr ge ↦ ge
    ]

-- The starts of windows rise with their numbers.
pub at-rise : (first : ℤ) (width : ℕ) (j k : ℕ) → j ≤ k → window_at first width j ≤ℤ window_at first width k
at-rise first width j k h = let more : j * width ≤ k * width = mul-le-mul_right width h in omega (arith, ints)

-- A time is in its window, and in no other.
pub in_window : (first : ℤ) (width : ℕ) (t : ℤ) (k : ℕ) → 1 ≤ width → first ≤ℤ t → (int_le (window_at first width k) t && int_lt t (window_at first width (k + 1))) ≡ nat_eq (window_of first width t) k
in_window first width t k some h =
    let o = unsigned_abs (t -ℤ first) in
    let w = window_of first width t in
    let a = numbered first width t some h in
    let e = a.at in
    let low = a.low in
    let high = a.high in
    elim (cases_lt w k) [
      | inl lt ↦
          let less = times-less w k width lt in
          let out : int_le (window_at first width k) t ≡ false = grind (arith, ints) in
          let other : nat_eq w k ≡ false = grind (arith, nat_tests) in
          grind arith
      | inr ge ↦
          elim (cases_lt k w) [
            | inl gt ↦
                let less = times-less k w width gt in
                let out : int_lt t (window_at first width (k + 1)) ≡ false = grind (arith, ints) in
                let other : nat_eq w k ≡ false = grind (arith, nat_tests) in
                grind arith
            | inr le ↦
                let same : w ≡ k = omega arith in
                let from : k * width ≤ o = subst (λ j. j * width ≤ o) same low in
                let to : o < (k + 1) * width = subst (λ j. o < (j + 1) * width) same high in
                let begins : int_le (window_at first width k) t ≡ true = grind (arith, ints) in
                let ends : int_lt t (window_at first width (k + 1)) ≡ true = grind (arith, ints) in
                let here : nat_eq w k ≡ true = grind (arith, nat_tests) in
                grind arith
          ]
    ]

nat-same : (a b : ℕ) → nat_eq a b ≡ true → a ≡ b
nat-same a b e = grind (arith, nat_tests)

pub at-same : (first : ℤ) (width : ℕ) (j k : ℕ) → 1 ≤ width → int_eq (window_at first width j) (window_at first width k) ≡ nat_eq j k
at-same first width j k some =
    elim (cases_lt j k) [
      | inl lt ↦
          let less = times-less j k width lt in
          let apart : j * width < k * width = omega arith in
          let out : int_eq (window_at first width j) (window_at first width k) ≡ false = grind (arith, ints) in
          let other : nat_eq j k ≡ false = grind (arith, nat_tests) in
          out ∙ sym other
      | inr ge ↦
          elim (cases_lt k j) [
            | inl gt ↦
                let less = times-less k j width gt in
                let apart : k * width < j * width = omega arith in
                let out : int_eq (window_at first width j) (window_at first width k) ≡ false = grind (arith, ints) in
                let other : nat_eq j k ≡ false = grind (arith, nat_tests) in
                out ∙ sym other
            | inr le ↦
                let same : j ≡ k = omega arith in
                let here : nat_eq j k ≡ true = grind (arith, nat_tests) in
                same-eq (window_at first width j) (window_at first width k) (ap (window_at first width) same) ∙ sym here
          ]
    ]

-- The window of a time starts at the first window or later, and not after the time.
pub begin-bounds : (first : ℤ) (width : ℕ) (t : ℤ) → 1 ≤ width → first ≤ℤ t → (first ≤ℤ begin_of first width t) × (begin_of first width t ≤ℤ t)
begin-bounds first width t some h =
    let n = numbered first width t some h in
    let is = n.at in
    let low = n.low in
    (omega (arith, ints), omega (arith, ints))

-- ---- Numbers, each once.

-- The numbers that follow those that equal the first one.
after : ℕ → List ℕ → List ℕ
after k [] = []
after k (w ∷ ws) = cond (nat_eq k w) (after k ws) (w ∷ after w ws)

nat-other : (a b : ℕ) → nat_eq a b ≡ false → a ≡ b → ⊥
nat-other a b e h = grind (arith, nat_tests)

dedup-after : (k : ℕ) (ws : List ℕ) → dedup (k ∷ ws) ≡ k ∷ after k ws
unfolding after
dedup-after k [] = refl
dedup-after k (w ∷ ws) =
    elim (nat_eq k w) as (λ t. nat_eq k w ≡ t → cond t (dedup (w ∷ ws)) (k ∷ dedup (w ∷ ws)) ≡ k ∷ cond t (after k ws) (w ∷ after w ws)) [
      | true ↦ λ e. dedup-after w ws ∙ ap (λ j. j ∷ after j ws) (sym (nat-same k w e))
      | false ↦ λ e. ap (λ x. k ∷ x) (dedup-after w ws)
    ] refl

-- Numbers that never fall, from a number on.
abbrev pub AreRising : ℕ → List ℕ → Type 0
AreRising k [] = Unit {0}
AreRising k (w ∷ ws) = (k ≤ w) × AreRising w ws

rising-from : (j k : ℕ) (ws : List ℕ) → j ≤ k → AreRising k ws → AreRising j ws
rising-from j k [] h r = tt
rising-from j k (w ∷ ws) h r = (let low = r.0 in omega arith, r.1)

after-more : (k : ℕ) (ws : List ℕ) → AreRising k ws → AllByRecursion (λ j. k < j) (after k ws)
unfolding after
after-more k [] r = tt
after-more k (w ∷ ws) r =
    elim (nat_eq k w) as (λ t. nat_eq k w ≡ t → AllByRecursion (λ j. k < j) (cond t (after k ws) (w ∷ after w ws))) [
      | true ↦ λ e. after-more k ws (rising-from k w ws r.0 r.1)
      | false ↦ λ e.
          let low = r.0 in
          let other = nat-other k w e in
          let more : k < w = omega arith in
          (more, each-weaker (λ j. w < j) (λ j. k < j) (λ j h. omega arith) (after w ws) (after-more w ws r.1))
    ] refl

pub each-dedup : (P : ℕ → Type 0) (ws : List ℕ) → AllByRecursion P ws → AllByRecursion P (dedup ws)
each-dedup P [] h = tt
each-dedup P (w ∷ []) h = h
each-dedup P (w ∷ v ∷ ws) h =
    elim (nat_eq w v) as (λ t. AllByRecursion P (cond t (dedup (v ∷ ws)) (w ∷ dedup (v ∷ ws)))) [
      | true ↦ each-dedup P (v ∷ ws) h.1
      | false ↦ (h.0, each-dedup P (v ∷ ws) h.1)
    ]

map-same : {X : Type 0} (f g : ℕ → X) (ks : List ℕ) → AllByRecursion (λ k. f k ≡ g k) ks → map f ks ≡ map g ks
map-same f g [] h = refl
map-same f g (k ∷ ks) h = ap (λ x. x ∷ map f ks) h.0 ∙ ap (λ xs. g k ∷ xs) (map-same f g ks h.1)

-- ---- Points by their windows.

-- The times of the points of a range.
pub within-between : (from to : ℤ) (b : List Point) → AllByRecursion (λ p. (from ≤ℤ p.time) × (p.time <ℤ to)) (within from to b)
within-between from to b =
    each-weaker (λ p. is_within from to p ≡ true) (λ p. (from ≤ℤ p.time) × (p.time <ℤ to)) (λ p h. (grind (arith, ints), grind (arith, ints))) (within from to b) (filter-passes (is_within from to) b)

module _ (first : ℤ) (width : ℕ) (some : 1 ≤ width) where
  -- The points from the window of a number on.
  abbrev AreBehind : ℕ → List Point → Type 0
  AreBehind k ps = AllByRecursion (λ p. first ≤ℤ p.time) ps × AreRising k (map (λ p. window_of first width p.time) ps)

  within-window : (k : ℕ) (p : Point) (ps : List Point) → first ≤ℤ p.time → within (window_at first width k) (window_at first width (k + 1)) (p ∷ ps) ≡ cond (nat_eq (window_of first width p.time) k) (p ∷ within (window_at first width k) (window_at first width (k + 1)) ps) (within (window_at first width k) (window_at first width (k + 1)) ps)
  within-window k p ps h =
      let rest = within (window_at first width k) (window_at first width (k + 1)) ps in
      ap (λ t. cond t (p ∷ rest) rest) (in_window first width p.time k some h)

  -- None of the points is in an earlier window.
  none-before : (j k : ℕ) (ps : List Point) → j < k → AreBehind k ps → within (window_at first width j) (window_at first width (j + 1)) ps ≡ []
  none-before j k [] less h = refl
  none-before j k (p ∷ ps) less h =
      let low = h.1.0 in
      let other : nat_eq (window_of first width p.time) j ≡ false = grind (arith, nat_tests) in
      let rest = within (window_at first width j) (window_at first width (j + 1)) ps in
      within-window j p ps h.0.0
      ∙ ap (λ t. cond t (p ∷ rest) rest) other
      ∙ none-before j (window_of first width p.time) ps (omega arith) (h.0.1, h.1.1)

  -- A window after that of a point has the same points without it.
  cell-behind : (p : Point) (ps : List Point) (j : ℕ) → first ≤ℤ p.time → window_of first width p.time < j → cell_of first width (p ∷ ps) j ≡ cell_of first width ps j
  cell-behind p ps j h less =
      let other : nat_eq (window_of first width p.time) j ≡ false = grind (arith, nat_tests) in
      let rest = within (window_at first width j) (window_at first width (j + 1)) ps in
      ap (λ b. cell (window_at first width j) (agg b)) (within-window j p ps h ∙ ap (λ t. cond t (p ∷ rest) rest) other)

  cells-behind : (p : Point) (ps : List Point) (js : List ℕ) → first ≤ℤ p.time → AllByRecursion (λ j. window_of first width p.time < j) js → map (cell_of first width (p ∷ ps)) js ≡ map (cell_of first width ps) js
  cells-behind p ps js h less =
      map-same (cell_of first width (p ∷ ps)) (cell_of first width ps) js (each-weaker (λ j. window_of first width p.time < j) (λ j. cell_of first width (p ∷ ps) j ≡ cell_of first width ps j) (λ j k. cell-behind p ps j h k) js less)

  -- The window of the first point.
  cell-first : (p : Point) (ps : List Point) (k : ℕ) → first ≤ℤ p.time → window_of first width p.time ≡ k → agg_within (window_at first width k) (window_at first width (k + 1)) (p ∷ ps) ≡ joined (one_point p.value) (agg_within (window_at first width k) (window_at first width (k + 1)) ps)
  cell-first p ps k h e =
      let here : nat_eq (window_of first width p.time) k ≡ true = grind (arith, nat_tests) in
      let rest = within (window_at first width k) (window_at first width (k + 1)) ps in
      ap agg (within-window k p ps h ∙ ap (λ t. cond t (p ∷ rest) rest) here)

  -- The windows from that of a point on, if the others are those of the points after it.
  windows-first : (p : Point) (ps : List Point) → (let w = window_of first width p.time in add_points first width (cell (window_at first width w) (one_point p.value) ∷ []) ps ≡ cell (window_at first width w) (joined (one_point p.value) (agg_within (window_at first width w) (window_at first width (w + 1)) ps)) ∷ map (cell_of first width ps) (after w (map (λ q. window_of first width q.time) ps))) → first ≤ℤ p.time → AreRising (window_of first width p.time) (map (λ q. window_of first width q.time) ps) → (let w = window_of first width p.time in add_points first width (cell (window_at first width w) (one_point p.value) ∷ []) ps ≡ map (cell_of first width (p ∷ ps)) (w ∷ after w (map (λ q. window_of first width q.time) ps)))
  windows-first p ps said h rise =
      let w = window_of first width p.time in
      let ws = map (λ (q : Point). window_of first width q.time) ps in
      said
      ∙ ap (λ s. cell (window_at first width w) s ∷ map (cell_of first width ps) (after w ws)) (sym (cell-first p ps w h refl))
      ∙ ap (λ cs. cell_of first width (p ∷ ps) w ∷ cs) (sym (cells-behind p ps (after w ws) h (after-more w ws rise)))

  -- The windows of points that are in a window with points, or after it.
  windows-from : (k : ℕ) (x : AggValue) (ps : List Point) → AreBehind k ps → add_points first width (cell (window_at first width k) x ∷ []) ps ≡ cell (window_at first width k) (joined x (agg_within (window_at first width k) (window_at first width (k + 1)) ps)) ∷ map (cell_of first width ps) (after k (map (λ p. window_of first width p.time) ps))
  unfolding after
  windows-from k x [] h = ap (λ s. cell (window_at first width k) s ∷ []) (sym (none-joined x))
  windows-from k x (p ∷ ps) h =
      let w = window_of first width p.time in
      let ws = map (λ (q : Point). window_of first width q.time) ps in
      let at = window_at first width in
      let one = one_point p.value in
      let low = h.1.0 in
      let onto = λ (t : Bool). add_points first width (cond t (cell (at k) (joined x one) ∷ []) (cell (at k) x ∷ cell (at w) one ∷ [])) ps in
      ap onto (at-same first width k w some)
      ∙ elim (nat_eq k w) as (λ t. nat_eq k w ≡ t → onto t ≡ cell (at k) (joined x (agg_within (at k) (at (k + 1)) (p ∷ ps))) ∷ map (cell_of first width (p ∷ ps)) (cond t (after k ws) (w ∷ after w ws))) [
        | true ↦ λ e.
            let same = nat-same k w e in
            let behind = rising-from k w ws low h.1.1 in
            let later = each-weaker (λ j. k < j) (λ j. w < j) (λ j less. omega arith) (after k ws) (after-more k ws behind) in
            windows-from k (joined x one) ps (h.0.1, behind)
            ∙ ap (λ s. cell (at k) s ∷ map (cell_of first width ps) (after k ws)) (joined-assoc x one (agg_within (at k) (at (k + 1)) ps) ∙ ap (joined x) (sym (cell-first p ps k h.0.0 (sym same))))
            ∙ ap (λ cs. cell (at k) (joined x (agg_within (at k) (at (k + 1)) (p ∷ ps))) ∷ cs) (sym (cells-behind p ps (after k ws) h.0.0 later))
        | false ↦ λ e.
            let other = nat-other k w e in
            let more : k < w = omega arith in
            let none = none-before k w (p ∷ ps) more (h.0, (omega arith, h.1.1)) in
            add_points-prefix first width (cell (at k) x) ps (cell (at w) one ∷ []) (omega arith)
            ∙ ap (λ cs. cell (at k) x ∷ cs) (windows-first p ps (windows-from w one ps (h.0.1, h.1.1)) h.0.0 h.1.1)
            ∙ ap (λ s. cell (at k) s ∷ map (cell_of first width (p ∷ ps)) (w ∷ after w ws)) (sym (ap (λ b. joined x (agg b)) none ∙ none-joined x))
      ] refl

  -- The windows of points in order, by adding one point after the other.
  pub windows-are : (ps : List Point) → AreBehind 0 ps → add_points first width [] ps ≡ map (cell_of first width ps) (windows_with first width ps)
  windows-are [] h = refl
  windows-are (p ∷ ps) h =
      let w = window_of first width p.time in
      let ws = map (λ (q : Point). window_of first width q.time) ps in
      windows-first p ps (windows-from w (one_point p.value) ps (h.0.1, h.1.1)) h.0.0 h.1.1
      ∙ sym (ap (map (cell_of first width (p ∷ ps))) (dedup-after w ws))

  rising-in_order : (k : ℕ) (ps : List Point) → IsInOrder ps → AllByRecursion (λ p. (first ≤ℤ p.time) × (k ≤ window_of first width p.time)) ps → AreRising k (map (λ p. window_of first width p.time) ps)
  rising-in_order k [] order h = tt
  rising-in_order k (p ∷ ps) order h =
      let low = h.0.0 in
      (h.0.1, rising-in_order (window_of first width p.time) ps order.1 (each-weaker (λ q. IsTrue (is_not_after p q)) (λ q. (first ≤ℤ q.time) × (window_of first width p.time ≤ window_of first width q.time)) (λ q k. let later = is_not_after-times p q k in (omega (arith, ints), window-rise first width p.time q.time some low later)) ps order.0))

  behind-in_order : (ps : List Point) → IsInOrder ps → AllByRecursion (λ p. first ≤ℤ p.time) ps → AreBehind 0 ps
  behind-in_order ps order h =
      (h, rising-in_order 0 ps order (each-weaker (λ p. first ≤ℤ p.time) (λ p. (first ≤ℤ p.time) × (0 ≤ window_of first width p.time)) (λ p low. (low, omega arith)) ps h))

  -- ---- Windows between two bounds.

  -- The window is between two others.
  abbrev LiesBetween : ℕ → ℕ → ℕ → Type 0
  LiesBetween a c k = (a ≤ k) × (k < c)

  number-between : (a c : ℕ) (t : ℤ) → window_at first width a ≤ℤ t → t <ℤ window_at first width c → LiesBetween a c (window_of first width t)
  number-between a c t low high =
      let from = at-rise first width 0 a (omega arith) in
      let n = numbered first width t some (omega (arith, ints)) in
      let is = n.at in
      let begins = n.low in
      let ends = n.high in (
        elim (cases_lt (window_of first width t) a) [
          | inl lt ↦
              let less = times-less (window_of first width t) a width lt in
              absurd (omega (arith, ints))
          | inr ge ↦ ge
        ],
        elim (cases_lt (window_of first width t) c) [
          | inl lt ↦ lt
          | inr ge ↦
              let more : c * width ≤ window_of first width t * width = mul-le-mul_right width ge in
              absurd (omega (arith, ints))
        ],
      )

  cell-between : (a c k : ℕ) (b : List Point) → LiesBetween a c k → cell_of first width (within (window_at first width a) (window_at first width c) b) k ≡ cell_of first width b k
  cell-between a c k b h =
      let at = window_at first width in
      let less = h.1 in
      ap (λ ps. cell (at k) (agg ps)) (within-nested (at a) (at c) (at k) (at (k + 1)) b (at-rise first width a k h.0) (at-rise first width (k + 1) c (omega arith)))

  numbers-between : (a c : ℕ) (ps : List Point) → AllByRecursion (λ p. (window_at first width a ≤ℤ p.time) × (p.time <ℤ window_at first width c)) ps → AllByRecursion (LiesBetween a c) (map (λ p. window_of first width p.time) ps)
  numbers-between a c [] h = tt
  numbers-between a c (p ∷ ps) h = (number-between a c p.time h.0.0 h.0.1, numbers-between a c ps h.1)

  -- The windows between the bounds of two, by adding one point after the other.
  pub cells-are : (a c : ℕ) (b : List Point) → IsInOrder b → add_points first width [] (within (window_at first width a) (window_at first width c) b) ≡ cells first width (window_at first width a) (window_at first width c) b
  cells-are a c b order =
      let at = window_at first width in
      let ps = within (at a) (at c) b in
      let inside : AllByRecursion (λ p. (at a ≤ℤ p.time) × (p.time <ℤ at c)) ps = within-between (at a) (at c) b in
      let from = at-rise first width 0 a (omega arith) in
      let times = each-weaker (λ (p : Point). (at a ≤ℤ p.time) × (p.time <ℤ at c)) (λ p. first ≤ℤ p.time) (λ p h. let low = h.0 in omega (arith, ints)) ps inside in
      windows-are ps (behind-in_order ps (within-in_order (at a) (at c) b order) times)
      ∙ map-same (cell_of first width ps) (cell_of first width b) (windows_with first width ps) (each-weaker (LiesBetween a c) (λ k. cell_of first width ps k ≡ cell_of first width b k) (λ k h. cell-between a c k b h) (windows_with first width ps) (each-dedup (LiesBetween a c) (map (λ p. window_of first width p.time) ps) (numbers-between a c ps inside)))

pub cells-as : (first : ℤ) (width : ℕ) (from to : ℤ) (a c : ℕ) (b : List Point) → from ≡ window_at first width a → to ≡ window_at first width c → add_points first width [] (within (window_at first width a) (window_at first width c) b) ≡ cells first width (window_at first width a) (window_at first width c) b → add_points first width [] (within from to b) ≡ cells first width from to b
cells-as first width from to a c b p q h =
    subst (λ x. add_points first width [] (within x to b) ≡ cells first width x to b) (sym p) (subst (λ x. add_points first width [] (within (window_at first width a) x b) ≡ cells first width (window_at first width a) x b) (sym q) h)

-- There are no windows between a time and itself.
pub cells-none : (first : ℤ) (width : ℕ) (from to : ℤ) (b : List Point) → to ≡ from → cells first width from to b ≡ []
cells-none first width from to b e =
    ap (λ x. map (cell_of first width b) (windows_with first width x)) (ap (λ t. within from t b) e ∙ within-empty from b)
