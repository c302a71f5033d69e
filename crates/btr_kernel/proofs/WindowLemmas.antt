-- Lemmas on the window that ends with a time.
use Rattle.std.specs.Prelude.{◌≡◌, ℕ, ◌<◌, ℤ, pos, ◌+ℤ◌, ◌-ℤ◌, ◌≤ℤ◌, true, ◌&&◌, int_le, int_lt, List, length}
use Rattle.std.specs.Ordering.{int_eq}
use Rattle.std.specs.List.{filter}
use Rattle.std.proofs.Common.{sym, ap, ◌∙◌, arith, subst}
use Rattle.std.proofs.lemmas.Int.{ints}
use Rattle.btr_base.specs.declared.point.Point.{Point}
use Rattle.btr_base.specs.Bag.{IsInOrder, is_within}
use Rattle.btr_base.specs.Agg.{AggValue, agg}
use Rattle.btr_base.specs.Changes.{points_at}
use Rattle.btr_base.proofs.AggLemmas.{agg-count}
use Rattle.btr_base.proofs.ListLemmas.{each-weaker, filter-filter, filter-same, filter-passes, length-filter}
use Rattle.btr_base.proofs.PointLemmas.{filter-in_order}
use Rattle.btr_hist.specs.Kernel.{window}
use Rattle.btr_kernel.specs.Window.{AreUntil, HasPointAt}

time-within : (lead : ℕ) (x t : ℤ) → ((int_le (t -ℤ pos lead) x && int_lt x (t +ℤ pos 1)) && int_eq x t) ≡ int_eq x t
time-within lead x t = grind (arith, ints)

until-end : (from t x : ℤ) → (int_le from x && int_lt x (t +ℤ pos 1)) ≡ true → x ≤ℤ t
until-end from t x h = grind (arith, ints)

-- The window has the points at its end.
pub window-has : (lead : ℕ) (t : ℤ) (b : List Point) → HasPointAt t b → HasPointAt t (window lead t b)
window-has lead t b h =
    let from = t -ℤ pos lead in
    let same : points_at t (window lead t b) ≡ points_at t b =
    filter-filter (λ p. int_eq p.time t) (is_within from (t +ℤ pos 1)) b
    ∙ filter-same (λ p. is_within from (t +ℤ pos 1) p && int_eq p.time t) (λ p. int_eq p.time t) b (λ p. time-within lead p.time t) in
    subst (λ l. 0 < length l) (sym same) h

pub window-until : (lead : ℕ) (t : ℤ) (b : List Point) → IsInOrder b → AreUntil t (window lead t b)
window-until lead t b order =
    let f = is_within (t -ℤ pos lead) (t +ℤ pos 1) in
    record {
      in_order = filter-in_order f b order;
      until = each-weaker (λ p. f p ≡ true) (λ p. p.time ≤ℤ t) (λ p h. until-end (t -ℤ pos lead) t p.time h) (filter f b) (filter-passes f b);
    }

-- The aggregate of a window with a point at its end counts it.
pub window-count : (lead : ℕ) (t : ℤ) (b : List Point) (a : AggValue) → a ≡ agg (window lead t b) → HasPointAt t b → 0 < a.count
window-count lead t b a is h =
    let some = window-has lead t b h in
    omega (arith, ap (λ s. s.count) is, agg-count (window lead t b), length-filter (λ p. int_eq p.time t) (window lead t b))

-- The window of a time that is written in another way.
pub window-words : (lead : ℕ) (s t : ℤ) (b part : List Point) → part ≡ window lead s b → s ≡ t → part ≡ window lead t b
window-words lead s t b part is same = is ∙ ap (λ x. window lead x b) same
