-- Lemmas on the pieces of an entry's bytes: the bytes determine each piece.
use Rattle.std.proofs.Common.{◌≡◌, ℕ, ◌+◌, ◌*◌, ◌<◌, ◌≤◌, ◌^◌, List, [], ◌∷◌, ◌++◌, length, sym, ap, ◌∙◌, subst, arith, length-append}
use Rattle.std.specs.Int.{w64}
use Rattle.btr_entry.specs.Grammar.{number}
use Rattle.btr_entry.specs.Fields.{IsItems, AreLists}
use Rattle.btr_entry.proofs.NumberLemmas.{same_parts, number_once, wide64}

-- ---- the first byte

pub heads : (a b : ℕ) (x y : List ℕ) → a ∷ x ≡ b ∷ y → a ≡ b
heads a b x y same = cc

pub tails : (a b : ℕ) (x y : List ℕ) → a ∷ x ≡ b ∷ y → x ≡ y
tails a b x y same = cc

-- ---- a count and its items

-- A count takes eight bytes, and each of its items sixteen.
pub counted_long : (limit : ℕ) (bytes items rest : List ℕ) (h : IsItems limit bytes items rest) → length bytes ≡ 8 + 16 * h.count + length rest
counted_long limit bytes items rest h =
    let len = ap (length {A = ℕ}) h.parts in
    omega (arith, h.long, len, length-append (number w64 h.count) (items ++ rest), length-append items rest, wide64.len h.count)

-- The number at the start of the bytes is the count.
pub counted_number : (limit : ℕ) → limit ≤ 2 ^ 34 → (bytes items rest : List ℕ) (n : ℕ) (after : List ℕ) → n < 2 ^ 64 → bytes ≡ number w64 n ++ after → (h : IsItems limit bytes items rest) → (h.count ≡ n) × (items ++ rest ≡ after)
counted_number limit small bytes items rest n after lt is h =
    number_once w64 (2 ^ 64) wide64 h.count n (items ++ rest) after (omega (arith, h.bounded)) lt (sym h.parts ∙ is)

-- The bytes determine the items and the rest.
pub counted_once : (limit : ℕ) → limit ≤ 2 ^ 34 → (bytes a b x y : List ℕ) → IsItems limit bytes a x → IsItems limit bytes b y → (a ≡ b) × (x ≡ y)
counted_once limit small bytes a b x y h k =
    let same = counted_number limit small bytes a x k.count (b ++ y) (omega (arith, k.bounded)) k.parts h in
    same_parts a b x y (omega (arith, h.long, k.long, same.0)) same.1

-- ---- the ranges and the points

-- The bytes determine the bytes of the ranges and those of the points.
pub lists_once : (m n : ℕ) → m ≤ 2 ^ 34 → n ≤ 2 ^ 34 → (bytes a b x y : List ℕ) → AreLists m n bytes a x → AreLists m n bytes b y → (a ≡ b) × (x ≡ y)
lists_once m n m_small n_small bytes a b x y h k =
    let first = counted_once m m_small bytes a b h.after_ranges k.after_ranges h.ranges_are k.ranges_are in
    let second = counted_once n n_small k.after_ranges x y [] [] (subst (λ l. IsItems n l x []) first.1 h.points_are) k.points_are in
    (first.0, second.0)

-- After the ranges follow the points.
pub after_ranges : (m n : ℕ) → m ≤ 2 ^ 34 → (bytes a x r p : List ℕ) → IsItems m bytes a x → AreLists m n bytes r p → (a ≡ r) × IsItems n x p []
after_ranges m n small bytes a x r p counted h =
    let once = counted_once m small bytes a r x h.after_ranges counted h.ranges_are in
    (once.0, subst (λ l. IsItems n l p []) (sym once.1) h.points_are)

-- After the points nothing follows.
pub after_points : (m n : ℕ) → m ≤ 2 ^ 34 → n ≤ 2 ^ 34 → (bytes a x b y r p : List ℕ) → IsItems m bytes a x → IsItems n x b y → AreLists m n bytes r p → length y ≡ 0
after_points m n m_small n_small bytes a x b y r p first second h =
    let points = (after_ranges m n m_small bytes a x r p first h).1 in
    ap length (counted_once n n_small x b p y [] second points).1
