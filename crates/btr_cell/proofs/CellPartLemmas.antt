-- Lemmas on the aligned windows that a range meets: those that begin in it give the points of a kernel of windows in the range.
use Rattle.std.specs.Prelude.{◌≡◌, ℕ, ◌+◌, ◌*◌, ◌/◌, ◌^◌, ◌≤◌, ◌<◌, nat_eq, ℤ, pos, ◌+ℤ◌, ◌-ℤ◌, ◌≤ℤ◌, ◌<ℤ◌, int_le, int_lt, unsigned_abs}
use Rattle.std.specs.Prelude.{true, false, not, ◌&&◌, List, [], ◌∷◌, map, cond, Option, None, IsTrue}
use Rattle.std.specs.List.{filter, filter_map, cons_option, AllByRecursion}
use Rattle.std.specs.Option.{option_map}
use Rattle.std.specs.Ordering.{int_eq}
use Rattle.std.proofs.Common.{refl, sym, ap, ◌∙◌, arith}
use Rattle.std.proofs.lemmas.Int.{ints}
use Rattle.std.proofs.lemmas.Bool.Decides.{nat_tests}
use Rattle.std.proofs.lemmas.Nat.{pow_pos, le-div}
use Rattle.std.proofs.Math.Nat.{div-mul-le_self}
use Rattle.btr_base.specs.declared.limits.TheConstants.{FIRST}
use Rattle.btr_base.specs.declared.point.Point.{Point}
use Rattle.btr_base.specs.Point.{InDomain, AreInDomain, is_not_after}
use Rattle.btr_base.specs.Range.{RangeValue, IsRange}
use Rattle.btr_base.specs.Bag.{IsInOrder, within, is_within}
use Rattle.btr_base.specs.Agg.{agg_within}
use Rattle.btr_base.specs.Windows.{window_of, window_at, dedup, cell_of, aligned}
use Rattle.btr_base.specs.Changes.{slot_around}
use Rattle.btr_base.proofs.ListLemmas.{each-weaker, each-filter, filter-all, filter-filter, filter-passes}
use Rattle.btr_base.proofs.PointLemmas.{is_not_after-times, filter-in_order}
use Rattle.btr_base.proofs.SpanLemmas.{times-up_to}
use Rattle.btr_hist.specs.Kernel.{distinct, WindowKernel, cell_value}
use Rattle.btr_hist.specs.Distil.{points_from, window_start, cell_at, cell_points}
use Rattle.btr_hist.proofs.CellLemmas.{start-between, in-window, equal-test, both-true, filter-each}
use Rattle.btr_hist.proofs.KernelLemmas.{each-map, each-distinct, filter-points_from, filter-distinct_map}
use Rattle.btr_cell.specs.Cells.{cell_point}

-- ---- the starts of windows, each once

-- No number is less than one that precedes it in the list.
abbrev NumbersRise : List ℕ → Type 0
NumbersRise [] = Unit {0}
NumbersRise (k ∷ ks) = AllByRecursion (λ l. k ≤ l) ks × NumbersRise ks

number-later : (w : ℕ) (t u : ℤ) → 0 < w → FIRST ≤ℤ t → t ≤ℤ u → window_of FIRST w t ≤ window_of FIRST w u
number-later w t u some low later =
    let o = unsigned_abs (t -ℤ FIRST) in
    let v = unsigned_abs (u -ℤ FIRST) in
    let below = div-mul-le_self o w in
    le-div (o / w) v w some (omega (arith, ints))

numbers-rise : (w : ℕ) (b : List Point) → 0 < w → IsInOrder b → AreInDomain b → NumbersRise (map (λ q. window_of FIRST w q.time) b)
numbers-rise w [] some h k = tt
numbers-rise w (q ∷ b) some h k =
    let number = λ (r : Point). window_of FIRST w r.time in
    let late = each-weaker (λ r. IsTrue (is_not_after q r)) (λ r. number q ≤ number r) (λ r l. number-later w q.time r.time some k.0.0 (is_not_after-times q r l)) b h.0 in
    (each-map (λ n. number q ≤ n) number b late, numbers-rise w b some h.1 k.1)

less-other : (t u : ℤ) → t <ℤ u → not (int_eq t u) ≡ true
less-other t u h = grind (arith, ints)

equal-number : (k l : ℕ) → nat_eq k l ≡ true → k ≡ l
equal-number k l h = grind (arith, nat_tests)

other-number : (k l : ℕ) → nat_eq k l ≡ false → k ≤ l → k < l
other-number k l h le = grind (arith, nat_tests)

-- A time that is there twice counts once.
distinct-again : (t : ℤ) (ts : List ℤ) → distinct (t ∷ t ∷ ts) ≡ distinct (t ∷ ts)
distinct-again t ts =
    let other = λ (u : ℤ). not (int_eq t u) in
    let rest = filter other (distinct ts) in
    ap (λ s. t ∷ cond (not s) (t ∷ filter other rest) (filter other rest)) (equal-test t t refl)
    ∙ ap (λ l. t ∷ l) (filter-all other rest (filter-passes other (distinct ts)))

start-later : (w k l : ℕ) → k < l → 0 < w → window_at FIRST w k <ℤ window_at FIRST w l
start-later w k l less some =
    let apart = times-up_to k l w less in
    omega (arith, ints)

starts-later : (w k : ℕ) (ls : List ℕ) → 0 < w → AllByRecursion (λ l. k < l) ls → AllByRecursion (λ u. not (int_eq (window_at FIRST w k) u) ≡ true) (map (window_at FIRST w) ls)
starts-later w k [] some h = tt
starts-later w k (l ∷ ls) some h =
    (less-other (window_at FIRST w k) (window_at FIRST w l) (start-later w k l h.0 some), starts-later w k ls some h.1)

-- The starts of the numbers that rise, each once.
dedup-starts : (w : ℕ) (ks : List ℕ) → 0 < w → NumbersRise ks → map (window_at FIRST w) (dedup ks) ≡ distinct (map (window_at FIRST w) ks)
dedup-starts w [] some h = refl
dedup-starts w (k ∷ []) some h = refl
dedup-starts w (k ∷ l ∷ ls) some h =
    let start = window_at FIRST w in
    let rest = dedup-starts w (l ∷ ls) some h.1 in
    elim (nat_eq k l) as (λ s. nat_eq k l ≡ s → map start (cond s (dedup (l ∷ ls)) (k ∷ dedup (l ∷ ls))) ≡ distinct (start k ∷ start l ∷ map start ls)) [
      | true ↦ λ e.
          rest ∙ sym (distinct-again (start l) (map start ls)) ∙ ap (λ n. distinct (start n ∷ start l ∷ map start ls)) (sym (equal-number k l e))
      | false ↦ λ e.
          let less = other-number k l e h.0.0 in
          let late = each-weaker (λ n. l ≤ n) (λ n. k < n) (λ n m. omega arith) ls h.1.0 in
          let other = λ (u : ℤ). not (int_eq (start k) u) in
          let each = each-distinct (λ u. other u ≡ true) (start l ∷ map start ls) (starts-later w k (l ∷ ls) some (less, late)) in
          ap (λ m. start k ∷ m) rest ∙ ap (λ m. start k ∷ m) (sym (filter-all other (distinct (start l ∷ map start ls)) each))
    ] refl

-- ---- the points of windows

cell-end : (w k : ℕ) → window_at FIRST w (k + 1) ≡ window_at FIRST w k +ℤ pos w
cell-end w k =
    let e : (k + 1) * w ≡ k * w + w = omega arith in
    omega (arith, ints)

-- The windows of some numbers give the points at their starts from a time on.
numbered-points : (c : WindowKernel) (b : List Point) (from : ℤ) (ks : List ℕ) → filter_map (cell_point c.which from) (map (cell_of FIRST (2 ^ c.p) b) ks) ≡ points_from (cell_at c b) (filter (λ t. not (int_lt t from)) (map (window_at FIRST (2 ^ c.p)) ks))
numbered-points c b from [] = refl
numbered-points c b from (k ∷ ks) =
    let w = 2 ^ c.p in
    let t = window_at FIRST w k in
    let point = λ (o : Option ℤ). option_map (λ v. let q : Point = record { time = t; value = v } in q) o in
    let late = λ (u : ℤ). not (int_lt u from) in
    let rest = numbered-points c b from ks in
    let value : cell_value c.which (agg_within t (window_at FIRST w (k + 1)) b) ≡ cell_at c b t = ap (λ e. cell_value c.which (agg_within t e b)) (cell-end w k) in
    let cells = filter_map (cell_point c.which from) (map (cell_of FIRST w b) ks) in
    let times = filter late (map (window_at FIRST w) ks) in
    elim (int_lt t from) as (λ s. cons_option (cond s None (point (cell_value c.which (agg_within t (window_at FIRST w (k + 1)) b)))) cells ≡ points_from (cell_at c b) (cond (not s) (t ∷ times) times)) [
      | true ↦ rest
      | false ↦ ap (λ o. cons_option (point o) cells) value ∙ ap (cons_option (point (cell_at c b t))) rest
    ]

-- ---- the windows that a range meets

within-is : (begin end from t start : ℤ) → ((int_le begin t && int_lt t end) && not (int_lt start from)) ≡ true → (begin ≤ℤ t) × (t <ℤ end) × (from ≤ℤ start)
within-is begin end from t start h = (grind (arith, ints), grind (arith, ints), grind (arith, ints))

within-test : (begin end from t start : ℤ) → begin ≤ℤ t → t <ℤ end → from ≤ℤ start → ((int_le begin t && int_lt t end) && not (int_lt start from)) ≡ true
within-test begin end from t start h k m = grind (arith, ints)

between-is : (from to t : ℤ) → (int_le from t && int_lt t to) ≡ true → (from ≤ℤ t) × (t <ℤ to)
between-is from to t h = (grind (arith, ints), grind (arith, ints))

between-test : (from to t : ℤ) → from ≤ℤ t → t <ℤ to → (int_le from t && int_lt t to) ≡ true
between-test from to t h k = grind (arith, ints)

starts-map : (p : ℕ) (b : List Point) → map (window_at FIRST (2 ^ p)) (map (λ q. window_of FIRST (2 ^ p) q.time) b) ≡ map (λ q. window_start p q.time) b
starts-map p [] = refl
starts-map p (q ∷ b) = ap (λ l. window_start p q.time ∷ l) (starts-map p b)

module _ (p : ℕ) (r : RangeValue) (is : IsRange r) where
  abbrev begin : ℤ
  begin = window_start p r.from

  abbrev end : ℤ
  end = (slot_around p (r.to -ℤ pos 1)).to

  -- A time of the windows that a range meets, of which the window begins from the range's first time on.
  start-inside : (t : ℤ) → FIRST ≤ℤ t → t <ℤ end → window_start p t <ℤ r.to
  start-inside t low h =
      let begins = is.begins in
      let some = is.not_empty in
      let here = in-window p t low in
      let last = in-window p (r.to -ℤ pos 1) (omega (arith, ints)) in
      let from = here.from in
      let late = last.from in
      let close = last.end in
      elim (int_lt t (r.to -ℤ pos 1)) as (λ s. int_lt t (r.to -ℤ pos 1) ≡ s → window_start p t <ℤ r.to) [
        | true ↦ λ e.
            let early : t <ℤ (r.to -ℤ pos 1) = grind (arith, ints) in
            omega (arith, ints)
        | false ↦ λ e.
            let after : (r.to -ℤ pos 1) ≤ℤ t = grind (arith, ints) in
            let same = start-between p (r.to -ℤ pos 1) t (omega (arith, ints)) (omega (arith, ints)) (omega (arith, ints)) in
            omega (arith, ints)
      ] refl

  -- A time of which the window begins before the range's end.
  time-inside : (t : ℤ) → FIRST ≤ℤ t → window_start p t <ℤ r.to → t <ℤ end
  time-inside t low h =
      let begins = is.begins in
      let some = is.not_empty in
      let here = in-window p t low in
      let last = in-window p (r.to -ℤ pos 1) (omega (arith, ints)) in
      let to = here.to in
      let late = last.to in
      let close = last.end in
      elim (int_lt t r.to) as (λ s. int_lt t r.to ≡ s → t <ℤ end) [
        | true ↦ λ e.
            let early : t <ℤ r.to = grind (arith, ints) in
            omega (arith, ints)
        | false ↦ λ e.
            let after : r.to ≤ℤ t = grind (arith, ints) in
            let same = start-between p t (r.to -ℤ pos 1) low (omega (arith, ints)) (omega (arith, ints)) in
            omega (arith, ints)
      ] refl

  start-test : (q : Point) → InDomain q.time → (is_within begin end q && not (int_lt (window_start p q.time) r.from)) ≡ (int_le r.from (window_start p q.time) && int_lt (window_start p q.time) r.to)
  start-test q h =
      let t = q.time in
      let start = window_start p q.time in
      let begins = is.begins in
      let here = in-window p t h.0 in
      let from = here.from in
      let first = in-window p r.from begins in
      let early = first.from in
      both-true (is_within begin end q && not (int_lt start r.from)) (int_le r.from start && int_lt start r.to) (λ k.
      let at = within-is begin end r.from t start k in
      between-test r.from r.to start at.2 (start-inside t h.0 at.1)) (λ k.
      let at = between-is r.from r.to start k in
      let low = at.0 in
      within-test begin end r.from t start (omega (arith, ints)) (time-inside t h.0 at.1) low)

-- The aligned windows that a range meets, without those that begin before it, give the points of the kernel in the range.
pub cells-in_range : (c : WindowKernel) (r : RangeValue) (b : List Point) → IsRange r → IsInOrder b → AreInDomain b → filter_map (cell_point c.which r.from) (aligned c.p r.from r.to b) ≡ within r.from r.to (cell_points c b)
cells-in_range c r b is order domain =
    let w = 2 ^ c.p in
    let some = pow_pos c.p in
    let starts = λ (q : Point). window_start c.p q.time in
    let number = λ (q : Point). window_of FIRST w q.time in
    let late = λ (t : ℤ). not (int_lt t r.from) in
    let inside = λ (t : ℤ). int_le r.from t && int_lt t r.to in
    let met = is_within (begin c.p r is) (end c.p r is) in
    let f = cell_at c b in
    let inner = filter met b in
    let rise = numbers-rise w inner some (filter-in_order met b order) (each-filter (λ q. InDomain q.time) met b domain) in
    let same : filter (λ q. late (starts q)) inner ≡ filter (λ q. inside (starts q)) b = filter-filter (λ q. late (starts q)) met b ∙ filter-each (λ q. met q && late (starts q)) (λ q. inside (starts q)) b (each-weaker (λ q. InDomain q.time) (λ q. (met q && late (starts q)) ≡ inside (starts q)) (λ q h. start-test c.p r is q h) b domain) in
    numbered-points c b r.from (dedup (map number inner))
    ∙ ap (λ ts. points_from f (filter late ts)) (dedup-starts w (map number inner) some rise ∙ ap distinct (starts-map c.p inner))
    ∙ ap (points_from f) (filter-distinct_map late starts inner ∙ ap (λ l. distinct (map starts l)) same ∙ sym (filter-distinct_map inside starts b))
    ∙ sym (filter-points_from f inside (distinct (map starts b)))
