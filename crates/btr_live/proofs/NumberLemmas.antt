-- Lemmas on the numbers of entries: which are given next, and lists of which one alone has numbers.
use Rattle.std.specs.Prelude.{◌≡◌, ◌⊎◌, ℕ, zero, suc, ◌+◌, ◌<◌, ◌≤◌, ◌==◌, List, [], ◌∷◌, ◌++◌, slice_index_or}
use Rattle.std.proofs.Common.{refl, ap, arith, inl, inr}
use Rattle.std.proofs.lemmas.Bool.{cases_lt, cases_eq}
use Rattle.btr_gate.specs.Numbers.{one, total, times, given}
use Rattle.btr_gate.proofs.NumberLemmas.{one_same, one_other, given_inside, given_below, given_above, times_append}

-- ---- what is given next

-- The first number that is given, and those after it.
pub given_first : (low high n : ℕ) → low < high → given low high n ≡ one (low + 1 == n) + given (low + 1) high n
given_first low high n less =
    elim (cases_eq (low + 1) n) [
      | inl same ↦
          let here = one_same (low + 1) n same in
          let all = given_inside low high n (omega (arith, same)) (omega (arith, same, less)) in
          let later = given_below (low + 1) high n (omega (arith, same)) in
          omega (arith, here, all, later)
      | inr other ↦
          let none = one_other (low + 1) n other in
          elim (cases_lt low n) [
            | inr below ↦
                let a = given_below low high n below in
                let b = given_below (low + 1) high n (omega (arith, below)) in
                omega (arith, none, a, b)
            | inl above ↦ elim (cases_lt high n) [
              | inl past ↦
                  let a = given_above low high n past in
                  let b = given_above (low + 1) high n past in
                  omega (arith, none, a, b)
              | inr within ↦ elim (cases_lt (low + 1) n) [
                | inl more ↦
                    let a = given_inside low high n above within in
                    let b = given_inside (low + 1) high n more within in
                    omega (arith, none, a, b)
                | inr less_than ↦ absurd (other (omega (arith, above, less_than)))
              ]
            ]
          ]
    ]

-- If the first of two lists has no number or the first that is given, the second has those after it.
pub given_rest : (low next high : ℕ) (first rest own : List ℕ) → own ≡ first ++ rest → next ≤ high → ((first ≡ []) × (next ≡ low)) ⊎ ((first ≡ (low + 1) ∷ []) × (next ≡ low + 1)) → ((n : ℕ) → times n own ≡ given low high n) → (n : ℕ) → times n rest ≡ given next high n
given_rest low next high first rest own split fits moves all n =
    let both = times_append n first rest in
    let sum = ap (times n) split in
    let every = all n in
    elim moves [
      | inl none ↦
          let no_first : times n first ≡ 0 = ap (times n) none.0 in
          let same = ap (λ low. given low high n) none.1 in
          omega (arith, both, sum, every, no_first, same)
      | inr some ↦
          let its : times n first ≡ one (low + 1 == n) + 0 = ap (times n) some.0 in
          let same = ap (λ low. given low high n) some.1 in
          let next_is = some.1 in
          let begin = given_first low high n (omega (arith, fits, next_is)) in
          omega (arith, both, sum, every, its, same, begin)
    ]

-- ---- one list alone

-- No list has the number.
in_none : (n : ℕ) (lists : List (List ℕ)) → ((k : ℕ) → times n (slice_index_or lists k []) ≡ 0) → total (times n) lists ≡ 0
in_none n [] none = refl
in_none n (l ∷ ls) none =
    let first : times n l ≡ 0 = none 0 in
    let rest = in_none n ls (λ k. none (suc k)) in
    omega (arith, first, rest)

-- If no list but one has the number, all lists have it as often as that one.
pub in_one : (n at : ℕ) (lists : List (List ℕ)) → ((k : ℕ) → (k ≡ at → ⊥) → times n (slice_index_or lists k []) ≡ 0) → total (times n) lists ≡ times n (slice_index_or lists at [])
in_one n at [] none = refl
in_one n zero (l ∷ ls) none =
    let rest = in_none n ls (λ k. none (suc k) (λ e. omega (arith, e))) in
    omega (arith, rest)
in_one n (suc at) (l ∷ ls) none =
    let first : times n l ≡ 0 = none 0 (λ e. omega (arith, e)) in
    let rest = in_one n at ls (λ k differs. none (suc k) (λ e. differs (omega (arith, e)))) in
    omega (arith, first, rest)
