-- Lemmas on a walk over points that finds each of their windows once.
use Rattle.std.specs.Prelude.{◌≡◌, ℕ, ◌+◌, ◌<◌, ◌≤◌, nat_eq, ℤ, ◌≤ℤ◌, Bool, true, false, not, List, [], ◌∷◌, ◌++◌, length, map, drop, get_or, cond, Option, Some, None}
use Rattle.std.specs.Option.{option_eq}
use Rattle.std.proofs.Common.{refl, sym, ap, ◌∙◌, arith, append_assoc}
use Rattle.std.proofs.lemmas.Bool.Decides.{nat_tests}
use Rattle.std.proofs.lemmas.Int.{ints}
use Rattle.std.proofs.lemmas.List.{drop_more, drop_all}
use mathlib.Core.List.{append-nil}
use Rattle.std.proofs.lemmas.List.Elements.{All-from_recursion}
use Rattle.btr_base.specs.declared.limits.TheConstants.{END}
use Rattle.btr_base.specs.declared.point.Point.{Point}
use Rattle.btr_base.specs.Bag.{within, is_within}
use Rattle.btr_base.proofs.ListLemmas.{filter-passes, each-weaker}
use Rattle.btr_base.proofs.WindowLemmas.{window-around}
use Rattle.btr_base.specs.Windows.{IsGrid, IsWindow, dedup, window_of}

-- ---- numbers, each once

-- Of the numbers after the last one, those that differ from the one before.
abbrev pub dedup_after : Option ℕ → List ℕ → List ℕ
dedup_after last [] = []
dedup_after None (l ∷ ls) = l ∷ dedup_after (Some l) ls
dedup_after (Some k) (l ∷ ls) = cond (nat_eq k l) (dedup_after (Some l) ls) (l ∷ dedup_after (Some l) ls)

same_number : (k l : ℕ) → nat_eq k l ≡ true → k ≡ l
same_number k l h = grind (arith, nat_tests)

dedup-first : (k : ℕ) (ls : List ℕ) → dedup (k ∷ ls) ≡ k ∷ dedup_after (Some k) ls
dedup-first k [] = refl
dedup-first k (l ∷ ls) =
    let rest = dedup-first l ls in
    elim (nat_eq k l) as (λ t. nat_eq k l ≡ t → cond t (dedup (l ∷ ls)) (k ∷ dedup (l ∷ ls)) ≡ k ∷ cond t (dedup_after (Some l) ls) (l ∷ dedup_after (Some l) ls)) [
      | true ↦ λ e. rest ∙ ap (λ (n : ℕ). n ∷ dedup_after (Some l) ls) (sym (same_number k l e))
      | false ↦ λ _. ap (λ (m : List ℕ). k ∷ m) rest
    ] refl

pub dedup-none : (ks : List ℕ) → dedup_after None ks ≡ dedup ks
dedup-none [] = refl
dedup-none (k ∷ ks) = sym (dedup-first k ks)

not-true : (b : Bool) → not b ≡ true → b ≡ false
not-true b h = grind arith

not-false : (b : Bool) → not b ≡ false → b ≡ true
not-false b h = grind arith

fresh : (last : Option ℕ) (k : ℕ) (ks : List ℕ) → not (option_eq nat_eq last (Some k)) ≡ true → dedup_after last (k ∷ ks) ≡ k ∷ dedup_after (Some k) ks
fresh None k ks h = refl
fresh (Some j) k ks h =
    ap (λ t. cond t (dedup_after (Some k) ks) (k ∷ dedup_after (Some k) ks)) (not-true (nat_eq j k) h)

seen : (last : Option ℕ) (k : ℕ) (ks : List ℕ) → not (option_eq nat_eq last (Some k)) ≡ false → dedup_after last (k ∷ ks) ≡ dedup_after last ks
seen None k ks h = absurd (cc)
seen (Some j) k ks h =
    let same = not-false (nat_eq j k) h in
    ap (λ t. cond t (dedup_after (Some k) ks) (k ∷ dedup_after (Some k) ks)) same ∙ ap (λ n. dedup_after (Some n) ks) (sym (same_number j k same))

-- ---- a walk over points

-- A point in another window than the one before.
pub walk-fresh : {C : Type 0} (f : ℕ → C) (num : Point → ℕ) (ps : List Point) (i : ℕ) (d : Point) (k : ℕ) (last next : Option ℕ) (done new goal : List C) → i < length ps → k ≡ num (get_or ps i d) → not (option_eq nat_eq last (Some k)) ≡ true → next ≡ Some k → new ≡ done ++ f k ∷ [] → done ++ map f (dedup_after last (map num (drop i ps))) ≡ goal → new ++ map f (dedup_after next (map num (drop (i + 1) ps))) ≡ goal
walk-fresh f num ps i d k last next done new goal low at other is more so_far =
    let rest = map num (drop (i + 1) ps) in
    let split : map num (drop i ps) ≡ k ∷ rest = ap (map num) (drop_more ps i d low) ∙ ap (λ n. n ∷ rest) (sym at) in
    let step : dedup_after last (map num (drop i ps)) ≡ k ∷ dedup_after next rest =
    ap (dedup_after last) split ∙ fresh last k rest other ∙ ap (λ o. k ∷ dedup_after o rest) (sym is) in
    ap (λ cs. cs ++ map f (dedup_after next rest)) more
    ∙ append_assoc done (f k ∷ []) (map f (dedup_after next rest))
    ∙ ap (λ ks. done ++ map f ks) (sym step)
    ∙ so_far

-- A point in the same window as the one before.
pub walk-seen : {C : Type 0} (f : ℕ → C) (num : Point → ℕ) (ps : List Point) (i : ℕ) (d : Point) (k : ℕ) (last next : Option ℕ) (done new goal : List C) → i < length ps → k ≡ num (get_or ps i d) → not (option_eq nat_eq last (Some k)) ≡ false → next ≡ last → new ≡ done → done ++ map f (dedup_after last (map num (drop i ps))) ≡ goal → new ++ map f (dedup_after next (map num (drop (i + 1) ps))) ≡ goal
walk-seen f num ps i d k last next done new goal low at other is more so_far =
    let rest = map num (drop (i + 1) ps) in
    let split : map num (drop i ps) ≡ k ∷ rest = ap (map num) (drop_more ps i d low) ∙ ap (λ n. n ∷ rest) (sym at) in
    let step : dedup_after last (map num (drop i ps)) ≡ dedup_after next rest =
    ap (dedup_after last) split ∙ seen last k rest other ∙ ap (λ o. dedup_after o rest) (sym is) in
    ap (λ cs. cs ++ map f (dedup_after next rest)) more ∙ ap (λ ks. done ++ map f ks) (sym step) ∙ so_far

-- The end of the walk.
pub walk-done : {C : Type 0} (f : ℕ → C) (num : Point → ℕ) (ps : List Point) (i : ℕ) (last : Option ℕ) (done goal : List C) → length ps ≤ i → done ++ map f (dedup_after last (map num (drop i ps))) ≡ goal → done ≡ goal
walk-done f num ps i last done goal high so_far =
    let none : map f (dedup_after last (map num (drop i ps))) ≡ [] = ap (λ qs. map f (dedup_after last (map num qs))) (drop_all i ps high) in
    sym (append-nil done) ∙ ap (λ cs. done ++ cs) (sym none) ∙ so_far

-- ---- windows of times

inside : (from to : ℤ) (p : Point) → is_within from to p ≡ true → (from ≤ℤ p.time) × (p.time ≤ℤ to)
inside from to p h = (grind (arith, ints), grind (arith, ints))

-- The window of a point between two times of the domain.
pub window-within : (first from to : ℤ) (width : ℕ) (ps : List Point) (i : ℕ) (d : Point) → IsGrid first width → first ≤ℤ from → to ≤ℤ END → i < length (within from to ps) → IsWindow first width (window_of first width (get_or (within from to ps) i d).time)
window-within first from to width ps i d are low high at =
    let each = each-weaker (λ p. is_within from to p ≡ true) (λ p. (from ≤ℤ p.time) × (p.time ≤ℤ to)) (inside from to) (within from to ps) (filter-passes (is_within from to) ps) in
    let here = All-from_recursion (λ p. (from ≤ℤ p.time) × (p.time ≤ℤ to)) (within from to ps) each i d at in
    let early = here.0 in
    let late = here.1 in
    window-around first width (get_or (within from to ps) i d).time are (omega (arith, ints)) (omega (arith, ints))
