-- Lemmas on the numbers of entries: how often a list has one, rising lists, and the numbers that were given.
use Rattle.std.proofs.Common.{◌≡◌, ◌≢◌, ℕ, ◌+◌, ◌<◌, ◌≤◌, Bool, true, false, ◌&&◌, ◌==◌, nat_le, if◌then◌else◌, List, [], ◌∷◌, ◌++◌, inl, inr, refl, sym, ap, ap₂, subst, arith}
use Rattle.std.proofs.lemmas.Bool.{cases_lt, cases_eq, lt-ltb, le-ltb, le-leb, lt-leb, eq-eqb, ne_eqb}
use Rattle.btr_gate.specs.Numbers.{one, times, given, Climbs, placed, merged}
use Rattle.btr_gate.proofs.Totals.{total_append, total_snoc}

pub one_same : (m n : ℕ) → m ≡ n → one (m == n) ≡ 1
one_same m n e = ap one (eq-eqb m n e)

pub one_other : (m n : ℕ) → m ≢ n → one (m == n) ≡ 0
one_other m n ne = ap one (ne_eqb m n ne)

pub times_append : (n : ℕ) (a b : List ℕ) → times n (a ++ b) ≡ times n a + times n b
times_append n a b = total_append (λ m. one (m == n)) a b

pub times_snoc : (n : ℕ) (ms : List ℕ) (m : ℕ) → times n (ms ++ m ∷ []) ≡ times n ms + one (m == n)
times_snoc n ms m = total_snoc (λ k. one (k == n)) ms m

times_either : (n m x : ℕ) (b : Bool) (ns rest : List ℕ) → times n rest ≡ one (m == n) + times n ns → times n (if b then x ∷ rest else m ∷ x ∷ ns) ≡ one (m == n) + times n (x ∷ ns)
times_either n m x true ns rest e = omega arith
times_either n m x false ns rest e = omega arith

times_placed : (n m : ℕ) (ns : List ℕ) → times n (placed m ns) ≡ one (m == n) + times n ns
times_placed n m [] = refl
times_placed n m (x ∷ ns) = times_either n m x _ ns (placed m ns) (times_placed n m ns)

-- A merged list has each number as often as both lists together.
pub times_merged : (n : ℕ) (a b : List ℕ) → times n (merged a b) ≡ times n a + times n b
times_merged n [] b = omega arith
times_merged n (m ∷ a) b =
    let e = times_placed n m (merged a b) in
    let t = times_merged n a b in
    omega arith

pub climbs_higher : (low high top : ℕ) (ms : List ℕ) → high ≤ top → Climbs low ms high → Climbs low ms top
climbs_higher low high top [] more c = tt
climbs_higher low high top (m ∷ ms) more c =
    let at = c.1 in (c.0, omega arith, climbs_higher m high top ms more c.2)

pub climbs_lower : (least low high : ℕ) (ms : List ℕ) → least ≤ low → Climbs low ms high → Climbs least ms high
climbs_lower least low high [] less c = tt
climbs_lower least low high (m ∷ ms) less c = let at = c.0 in (omega arith, c.1, c.2)

pub climbs_snoc : (low high n : ℕ) (ms : List ℕ) → low ≤ high → high < n → Climbs low ms high → Climbs low (ms ++ n ∷ []) n
climbs_snoc low high n [] le lt c = (omega arith, omega arith, tt)
climbs_snoc low high n (m ∷ ms) le lt c =
    let at = c.1 in (c.0, omega arith, climbs_snoc m high n ms c.1 lt c.2)

-- A rising list has no number above its bound.
pub times_above : (low high n : ℕ) (ms : List ℕ) → Climbs low ms high → high < n → times n ms ≡ 0
times_above low high n [] c above = refl
times_above low high n (m ∷ ms) c above =
    let at = c.1 in
    let here = one_other m n (λ e. omega arith) in
    let later = times_above m high n ms c.2 above in
    omega arith

-- A rising list has no number up to its lower bound.
pub times_below : (low high n : ℕ) (ms : List ℕ) → Climbs low ms high → n ≤ low → times n ms ≡ 0
times_below low high n [] c below = refl
times_below low high n (m ∷ ms) c below =
    let at = c.0 in
    let here = one_other m n (λ e. omega arith) in
    let later = times_below m high n ms c.2 (omega arith) in
    omega arith

pub times_within : (low high n : ℕ) (ms : List ℕ) → Climbs low ms high → 0 < times n ms → (low < n) × (n ≤ high)
times_within low high n ms c some_of = (
  elim (cases_lt low n) [
    | inl lt ↦ lt
    | inr le ↦ let none = times_below low high n ms c le in absurd (omega arith)
  ],
  elim (cases_lt high n) [
    | inl lt ↦ let none = times_above low high n ms c lt in absurd (omega arith)
    | inr le ↦ le
  ],
)

climbs_placed : (low high m : ℕ) (ns : List ℕ) → low < m → m ≤ high → times m ns ≡ 0 → Climbs low ns high → Climbs low (placed m ns) high
climbs_placed low high m [] lt le none c = (lt, le, tt)
climbs_placed low high m (x ∷ ns) lt le none c =
    elim (cases_lt x m) [
      | inl less ↦ subst (λ (b : Bool). Climbs low (if b then x ∷ placed m ns else m ∷ x ∷ ns) high) (sym (lt-ltb x m less)) (c.0, c.1, climbs_placed x high m ns less le (omega arith) c.2)
      | inr more ↦
          let apart : x ≢ m = λ e. let here = one_same x m e in omega arith in
          subst (λ (b : Bool). Climbs low (if b then x ∷ placed m ns else m ∷ x ∷ ns) high) (sym (le-ltb x m more)) (lt, le, (omega arith, c.1, c.2))
    ]

-- Two rising lists without a common number merge into a rising list.
pub climbs_merged : (low high : ℕ) (a b : List ℕ) → Climbs low a high → Climbs low b high → ((n : ℕ) → times n a + times n b ≤ 1) → Climbs low (merged a b) high
climbs_merged low high [] b p q apart = q
climbs_merged low high (m ∷ a) b p q apart =
    let here = one_same m m refl in
    let both = apart m in
    let sum = times_merged m a b in
    let first = p.0 in
    let rest = climbs_lower low m high a (omega arith) p.2 in
    climbs_placed low high m (merged a b) p.0 p.1 (omega arith)
    (climbs_merged low high a b rest q (λ n. let t = apart n in omega arith))

pub given_inside : (low high n : ℕ) → low < n → n ≤ high → given low high n ≡ 1
given_inside low high n lt le = ap₂ (λ x y. one (x && y)) (lt-ltb low n lt) (le-leb n high le)

pub given_below : (low high n : ℕ) → n ≤ low → given low high n ≡ 0
given_below low high n le = ap (λ x. one (x && nat_le n high)) (le-ltb low n le)

pub given_above : (low high n : ℕ) → high < n → given low high n ≡ 0
given_above low high n lt =
    elim (cases_lt low n) [
      | inl more ↦ ap₂ (λ x y. one (x && y)) (lt-ltb low n more) (lt-leb n high lt)
      | inr less ↦ given_below low high n less
    ]

pub given_none : (low n : ℕ) → given low low n ≡ 0
given_none low n =
    elim (cases_lt low n) [
      | inl more ↦ given_above low low n more
      | inr less ↦ given_below low low n less
    ]

pub given_once : (low high n : ℕ) → given low high n ≤ 1
given_once low high n =
    elim (cases_lt low n) [
      | inr less ↦ let g = given_below low high n less in omega arith
      | inl more ↦ elim (cases_lt high n) [
        | inl above ↦ let g = given_above low high n above in omega arith
        | inr within ↦ let g = given_inside low high n more within in omega arith
      ]
    ]

-- One number more is given.
pub given_more : (low high n : ℕ) → low ≤ high → given low (high + 1) n ≡ given low high n + one (high + 1 == n)
given_more low high n le =
    elim (cases_eq (high + 1) n) [
      | inl e ↦
          let new = given_inside low (high + 1) n (omega arith) (omega arith) in
          let old = given_above low high n (omega arith) in
          let same = one_same (high + 1) n e in
          omega arith
      | inr ne ↦
          let other = one_other (high + 1) n ne in
          elim (cases_lt low n) [
            | inr less ↦
                let new = given_below low (high + 1) n less in
                let old = given_below low high n less in
                omega arith
            | inl more ↦ elim (cases_lt high n) [
              | inl above ↦
                  let new = given_above low (high + 1) n (omega arith) in
                  let old = given_above low high n above in
                  omega arith
              | inr within ↦
                  let new = given_inside low (high + 1) n more (omega arith) in
                  let old = given_inside low high n more within in
                  omega arith
            ]
          ]
    ]
