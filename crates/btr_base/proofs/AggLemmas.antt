-- Lemmas on aggregates: the aggregate of two lists together joins their aggregates.
use Rattle.std.specs.Prelude.{◌≡◌, ℕ, ◌+◌, ◌<◌, ℤ, pos, negsuc, ◌^◌, ◌+ℤ◌, ◌*ℤ◌, ◌≤ℤ◌, List, [], ◌∷◌, ◌++◌, length, Option, Some, None}
use Rattle.std.proofs.Common.{zero, suc, refl, sym, ap, ◌∙◌, arith, subst, SFits}
use Rattle.std.specs.Int.{w128, int_min, int_max}
use Rattle.std.proofs.lemmas.Int.{ints, clamps}
use Rattle.std.proofs.Math.IntN.{suc_ℤ-*ℤ, pos-*ℤ-negsuc, pos-*ℤ-pos}
use Rattle.btr_base.specs.declared.point.Point.{Point}
use Rattle.btr_base.specs.Agg.{AggValue, join_ends, no_points, one_point, joined, agg, IsValue, EndsFit}

pub summary-by : (n m : ℕ) (t u : ℤ) (d e : Option (ℤ × ℤ)) → n ≡ m → t ≡ u → d ≡ e → (let s : AggValue = record { count = n; total = t; ends = d } in s) ≡ record { count = m; total = u; ends = e }
summary-by n m t u d e p q r = cc

min-assoc : (a b c : ℤ) → int_min (int_min a b) c ≡ int_min a (int_min b c)
min-assoc a b c = omega (arith, ints, clamps)

max-assoc : (a b c : ℤ) → int_max (int_max a b) c ≡ int_max a (int_max b c)
max-assoc a b c = omega (arith, ints, clamps)

pub join_ends-assoc : (a b c : Option (ℤ × ℤ)) → join_ends (join_ends a b) c ≡ join_ends a (join_ends b c)
join_ends-assoc None b c = refl
join_ends-assoc (Some a) None c = refl
join_ends-assoc (Some a) (Some b) None = refl
join_ends-assoc (Some a) (Some b) (Some c) =
    let low = min-assoc a.0 b.0 c.0 in
    let high = max-assoc a.1 b.1 c.1 in
    cc

pub joined-assoc : (a b c : AggValue) → joined (joined a b) c ≡ joined a (joined b c)
joined-assoc a b c =
    summary-by _ _ _ _ _ _ (omega arith) (omega (arith, ints)) (join_ends-assoc a.ends b.ends c.ends)

pub joined-none : (a : AggValue) → joined no_points a ≡ a
joined-none a = summary-by _ _ _ _ _ _ (omega arith) (omega (arith, ints)) refl

join_ends-none : (a : Option (ℤ × ℤ)) → join_ends a None ≡ a
join_ends-none None = refl
join_ends-none (Some a) = refl

pub none-joined : (a : AggValue) → joined a no_points ≡ a
none-joined a = summary-by _ _ _ _ _ _ (omega arith) (omega (arith, ints)) (join_ends-none a.ends)

pub agg-append : (a b : List Point) → agg (a ++ b) ≡ joined (agg a) (agg b)
agg-append [] b = sym (joined-none (agg b))
agg-append (p ∷ a) b =
    ap (joined (one_point p.value)) (agg-append a b) ∙ sym (joined-assoc (one_point p.value) (agg a) (agg b))

pub agg-one : (p : Point) → agg (p ∷ []) ≡ one_point p.value
agg-one p = none-joined (one_point p.value)

pub agg-count : (a : List Point) → (agg a).count ≡ length a
agg-count [] = refl
agg-count (p ∷ a) = omega (arith, agg-count a)

-- ---- the bounds of a sum

pub times-mono : (n : ℕ) (y z : ℤ) → y ≤ℤ z → (pos n *ℤ y) ≤ℤ (pos n *ℤ z)
times-mono zero y z h = omega (arith, ints)
times-mono (suc n) y z h =
    omega (arith, ints, suc_ℤ-*ℤ (pos n) y, suc_ℤ-*ℤ (pos n) z, times-mono n y z h)

pub times-both : (n m : ℕ) (z : ℤ) → pos (n + m) *ℤ z ≡ (pos n *ℤ z) +ℤ (pos m *ℤ z)
times-both n m z = omega (arith, ints)

min-value : (a b : ℤ) → IsValue a → IsValue b → IsValue (int_min a b)
min-value a b h k = (omega (arith, ints, clamps), omega (arith, ints, clamps))

max-value : (a b : ℤ) → IsValue a → IsValue b → IsValue (int_max a b)
max-value a b h k = (omega (arith, ints, clamps), omega (arith, ints, clamps))

least-both : (n m : ℕ) (t u a b : ℤ) → (pos n *ℤ a) ≤ℤ t → (pos m *ℤ b) ≤ℤ u → (pos (n + m) *ℤ int_min a b) ≤ℤ (t +ℤ u)
least-both n m t u a b h k =
    let l : int_min a b ≤ℤ a = omega (arith, ints, clamps) in
    let r : int_min a b ≤ℤ b = omega (arith, ints, clamps) in
    omega (arith, ints, times-both n m (int_min a b), times-mono n (int_min a b) a l, times-mono m (int_min a b) b r)

greatest-both : (n m : ℕ) (t u a b : ℤ) → t ≤ℤ (pos n *ℤ a) → u ≤ℤ (pos m *ℤ b) → (t +ℤ u) ≤ℤ (pos (n + m) *ℤ int_max a b)
greatest-both n m t u a b h k =
    let l : a ≤ℤ int_max a b = omega (arith, ints, clamps) in
    let r : b ≤ℤ int_max a b = omega (arith, ints, clamps) in
    omega (arith, ints, times-both n m (int_max a b), times-mono n a (int_max a b) l, times-mono m b (int_max a b) r)

ends_fit-as : (n m : ℕ) (t u : ℤ) (e : Option (ℤ × ℤ)) → n ≡ m → t ≡ u → EndsFit n t e → EndsFit m u e
ends_fit-as n m t u e p q h = subst (λ k. EndsFit k u e) p (subst (λ s. EndsFit n s e) q h)

pub ends_fit-joined : (n m : ℕ) (t u : ℤ) (d e : Option (ℤ × ℤ)) → EndsFit n t d → EndsFit m u e → EndsFit (n + m) (t +ℤ u) (join_ends d e)
ends_fit-joined n m t u None e h k =
    ends_fit-as m (n + m) u (t +ℤ u) e (omega arith) (omega (arith, ints)) k
ends_fit-joined n m t u (Some d) None h k =
    ends_fit-as n (n + m) t (t +ℤ u) (Some d) (omega arith) (omega (arith, ints)) h
ends_fit-joined n m t u (Some d) (Some e) h k =
    (omega arith, least-both n m t u d.0 e.0 h.1 k.1, greatest-both n m t u d.1 e.1 h.2 k.2, min-value d.0 e.0 h.3 k.3, max-value d.1 e.1 h.4 k.4)

-- A sum of fewer than 2^64 values fits 128 bits.
pub sum-fits : (n : ℕ) (t : ℤ) (e : Option (ℤ × ℤ)) → EndsFit n t e → n < 2 ^ 64 → SFits w128 t
sum-fits n t None h k = omega (arith, ints)
sum-fits n t (Some e) h k =
    let low = times-mono n (negsuc 9223372036854775807) e.0 h.3.0 in
    let high = times-mono n e.1 (pos 9223372036854775807) h.4.1 in
    omega (arith, ints, pos-*ℤ-negsuc n 9223372036854775807, pos-*ℤ-pos n 9223372036854775807)
