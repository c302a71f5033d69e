-- Lemmas on the points that several ranges cover.
use Rattle.std.specs.Prelude.{◌≡◌, ℤ, ◌≤ℤ◌, ◌<ℤ◌, Bool, true, false, ◌||◌, List, [], ◌∷◌, ◌++◌, cond}
use Rattle.std.specs.List.{filter}
use Rattle.std.proofs.Common.{refl, sym, ap, ◌∙◌, arith}
use Rattle.std.proofs.lemmas.Int.{ints, by_lt_z}
use Rattle.btr_base.specs.declared.point.Point.{Point}
use Rattle.btr_base.specs.Bag.{IsInOrder, within}
use Rattle.btr_base.specs.Range.{RangeValue, IsCut, contains, covered}
use Rattle.btr_base.proofs.Last.{ends_before-last}
use Rattle.btr_base.proofs.ListLemmas.{each-weaker, filter-none, filter-same}
use Rattle.btr_base.proofs.RangeLemmas.{EndBefore, contains-before, covered-after, covered-push}
use Rattle.btr_kernel.proofs.PlaceLemmas.{rest-from}

cond-append : {X : Type 0} (t : Bool) (x : X) (b c : List X) → cond t (x ∷ (b ++ c)) (b ++ c) ≡ cond t (x ∷ b) b ++ c
cond-append true x b c = refl
cond-append false x b c = refl

or-false : (a b : Bool) → b ≡ false → (a || b) ≡ a
or-false true b h = refl
or-false false b h = h

-- Of points in order, those that pass one of two tests, of which the first passes only before a time, and the second only from it on.
pub filter-two : (f g : Point → Bool) (m : ℤ) (b : List Point) → IsInOrder b → ((p : Point) → m ≤ℤ p.time → f p ≡ false) → ((p : Point) → p.time <ℤ m → g p ≡ false) → filter (λ p. f p || g p) b ≡ filter f b ++ filter g b
filter-two f g m [] order h k = refl
filter-two f g m (p ∷ b) order h k =
    let rest = filter-two f g m b order.1 h k in
    let both = filter (λ (q : Point). f q || g q) b in
    let first = filter f b in
    let second = filter g b in
    by_lt_z p.time m (λ early.
    ap (λ t. cond t (p ∷ both) both) (or-false (f p) (g p) (k p early))
    ∙ ap (λ l. cond (f p) (p ∷ l) l) rest
    ∙ cond-append (f p) p first second
    ∙ ap (λ t. cond (f p) (p ∷ first) first ++ cond t (p ∷ second) second) (sym (k p early))) (λ late.
    let none : first ≡ [] = filter-none f b (each-weaker (λ q. p.time ≤ℤ q.time) (λ q. f q ≡ false) (λ q e. h q (omega (arith, ints))) b (rest-from p b order)) in
    ap (λ t. cond (t || g p) (p ∷ both) both) (h p late)
    ∙ ap (λ l. cond (g p) (p ∷ l) l) (rest ∙ ap (λ l. l ++ second) none)
    ∙ ap (λ l. l ++ cond (g p) (p ∷ second) second) (sym none)
    ∙ ap (λ t. cond t (p ∷ first) first ++ cond (g p) (p ∷ second) second) (sym (h p late)))

covered-late : (rs : List RangeValue) (m t : ℤ) → EndBefore m rs → m ≤ℤ t → covered rs t ≡ false
covered-late rs m t h le =
    covered-after rs t (each-weaker (λ r. r.to <ℤ m) (λ r. r.to ≤ℤ t) (λ r k. omega (arith, ints)) rs h)

-- The points of one more range follow.
pub gather-more : (b : List Point) (rs : List RangeValue) (r : RangeValue) → IsInOrder b → IsCut (rs ++ r ∷ []) → filter (λ p. covered (rs ++ r ∷ []) p.time) b ≡ filter (λ p. covered rs p.time) b ++ within r.from r.to b
gather-more b rs r order cut =
    filter-same (λ p. covered (rs ++ r ∷ []) p.time) (λ p. covered rs p.time || contains r p.time) b (λ p. covered-push rs r p.time)
    ∙ filter-two (λ p. covered rs p.time) (λ p. contains r p.time) r.from b order (λ p late. covered-late rs r.from p.time (ends_before-last rs r cut) late) (λ p early. contains-before r p.time early)

pub gather-none : (b : List Point) → filter (λ p. covered [] p.time) b ≡ []
gather-none [] = refl
gather-none (p ∷ b) = gather-none b
