-- Lemmas on the aggregate of the points of a range, which is added slot by slot.
use Rattle.std.specs.Prelude.{◌≡◌, ℕ, ◌+◌, ◌≤◌, ℤ, List, [], ◌∷◌, ◌++◌, length}
use Rattle.std.proofs.Common.{refl, sym, ap, ◌∙◌, arith}
use Rattle.btr_base.specs.declared.point.Point.{Point}
use Rattle.btr_base.specs.Bag.{within, is_within}
use Rattle.btr_base.specs.Agg.{AggValue, joined, agg, agg_within}
use Rattle.btr_base.proofs.AggLemmas.{agg-append, agg-count, joined-assoc, none-joined}
use Rattle.btr_base.proofs.WithinLemmas.{within-append}
use Rattle.btr_base.proofs.ListLemmas.{length-filter}

-- What is added for points, and then for more points, is added for all.
pub sum-more : (from to : ℤ) (before here next : List Point) (old all new : AggValue) → next ≡ before ++ here → all ≡ joined old (agg_within from to before) → new ≡ joined all (agg_within from to here) → new ≡ joined old (agg_within from to next)
sum-more from to before here next old all new e p q =
    q
    ∙ ap (λ x. joined x (agg_within from to here)) p
    ∙ joined-assoc old (agg_within from to before) (agg_within from to here)
    ∙ ap (joined old) (sym (agg-append (within from to before) (within from to here)) ∙ sym (ap agg (ap (within from to) e ∙ within-append from to before here)))

-- If no point is in the range, nothing is added.
pub sum-none : (from to : ℤ) (b : List Point) (a : AggValue) → within from to b ≡ [] → a ≡ joined a (agg_within from to b)
sum-none from to b a e = sym (none-joined a) ∙ sym (ap (λ x. joined a (agg x)) e)

-- A list whose aggregate has no points is empty.
pub no-points : (b : List Point) (s : AggValue) → s ≡ agg b → s.count ≡ 0 → b ≡ []
no-points [] s e none = refl
no-points (p ∷ b) s e none =
    absurd (omega (arith, ap (λ (u : AggValue). u.count) e, agg-count (p ∷ b)))

pub agg-empty : (from to : ℤ) (b : List Point) (s : AggValue) → s ≡ agg b → s.count ≡ 0 → s ≡ agg_within from to b
agg-empty from to b s e none =
    e ∙ ap agg (no-points b s e none) ∙ sym (ap (agg_within from to) (no-points b s e none))

-- The aggregate of those of the points of a leaf that are in a range.
pub leaf-count : (from to : ℤ) (here ps leaf : List Point) (a : AggValue) (most : ℕ) → a ≡ agg here → here ≡ within from to ps → ps ≡ leaf → length leaf ≤ most → a.count ≤ most
leaf-count from to here ps leaf a most e p q few =
    omega (arith, ap (λ (u : AggValue). u.count) e, agg-count here, ap (length {A = Point}) p, length-filter (is_within from to) ps, ap (length {A = Point}) q)

pub count-joined : (a b c : AggValue) (old most : ℕ) → c ≡ joined a b → a.count ≤ old → b.count ≤ most → c.count ≤ old + most
count-joined a b c old most e p q = omega (arith, ap (λ (u : AggValue). u.count) e)
