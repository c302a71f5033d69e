-- Lemmas on sums over lists with the same numbers, and on the numbers of the entries of a history.
use Rattle.std.specs.Prelude.{◌≡◌, ℕ, ◌+◌, ◌-◌, ◌<◌, ◌≤◌, ◌==◌, true, false, List, [], ◌∷◌, ◌++◌, length, slice_get, Option, Some, None}
use Rattle.std.proofs.Common.{zero, suc, refl, sym, ap, ◌∙◌, arith, inl, inr, append_assoc, length-append}
use Rattle.std.proofs.lemmas.List.{append-nil}
use Rattle.std.proofs.lemmas.Bool.{cases_lt, eqb-true}
use Rattle.std.proofs.lemmas.Option.{slice_get_past}
use Rattle.btr_hist.specs.declared.entry.Entry.{Entry}
use Rattle.btr_gate.specs.Numbers.{one, total, times, given}
use Rattle.btr_gate.proofs.NumberLemmas.{one_same, one_other, times_append, given_inside, given_below, given_above}

-- ---- sums

pub total_append : {A : Type 0} (f : A → ℕ) (xs ys : List A) → total f (xs ++ ys) ≡ total f xs + total f ys
total_append f [] ys = omega arith
total_append f (x ∷ xs) ys = let rest = total_append f xs ys in omega (arith, rest)

-- A number that is in a list stands between two parts of it.
pub record IsIn (m : ℕ) (b : List ℕ) : Type 0 where
  pub front : List ℕ
  pub back : List ℕ
  pub is : b ≡ front ++ m ∷ back

pub taken : (m : ℕ) (b : List ℕ) → 0 < times m b → IsIn m b
taken m [] there = absurd (omega arith)
taken m (n ∷ b) there =
    elim (n == m) as (λ t. (n == m) ≡ t → IsIn m (n ∷ b)) [
      | true ↦ λ e. record { front = []; back = b; is = ap (λ k. k ∷ b) (eqb-true n m e) }
      | false ↦ λ e.
          let none : one (n == m) ≡ 0 = ap one e in
          let rest = taken m b (omega (arith, there, none)) in
          record { front = n ∷ rest.front; back = rest.back; is = ap (λ l. n ∷ l) rest.is }
    ] refl

-- Sums over lists with the same numbers are the same.
pub totals_alike : (g : ℕ → ℕ) (a b : List ℕ) → ((n : ℕ) → times n a ≡ times n b) → total g a ≡ total g b
totals_alike g [] [] alike = refl
totals_alike g [] (m ∷ b) alike = absurd (omega (arith, alike m, one_same m m refl))
totals_alike g (m ∷ a) b alike =
    let cut = taken m b (omega (arith, alike m, one_same m m refl)) in
    let rest = totals_alike g a (cut.front ++ cut.back) (λ n.
    let here = alike n in
    let whole : times n b ≡ times n (cut.front ++ m ∷ cut.back) = ap (times n) cut.is in
    omega (arith, here, whole, times_append n cut.front (m ∷ cut.back), times_append n cut.front cut.back)) in
    let whole : total g b ≡ total g (cut.front ++ m ∷ cut.back) = ap (total g) cut.is in
    omega (arith, rest, whole, total_append g cut.front (m ∷ cut.back), total_append g cut.front cut.back)

-- ---- the numbers after a number

-- So many numbers after a number.
abbrev pub numbers_after : ℕ → ℕ → List ℕ
numbers_after low zero = []
numbers_after low (suc count) = (low + 1) ∷ numbers_after (low + 1) count

given_front : (low high n : ℕ) → low < high → given low high n ≡ one ((low + 1) == n) + given (low + 1) high n
given_front low high n some =
    elim (cases_lt low n) [
      | inr below ↦
          let a = given_below low high n below in
          let b = given_below (low + 1) high n (omega arith) in
          let c = one_other (low + 1) n (λ e. omega arith) in
          omega (arith, a, b, c)
      | inl above ↦ elim (cases_lt (low + 1) n) [
        | inr at ↦
            let a = given_inside low high n above (omega arith) in
            let b = given_below (low + 1) high n at in
            let c = one_same (low + 1) n (omega arith) in
            omega (arith, a, b, c)
        | inl far ↦
            let c = one_other (low + 1) n (λ e. omega arith) in
            elim (cases_lt high n) [
              | inl out ↦
                  let a = given_above low high n out in
                  let b = given_above (low + 1) high n out in
                  omega (arith, a, b, c)
              | inr within ↦
                  let a = given_inside low high n above within in
                  let b = given_inside (low + 1) high n far within in
                  omega (arith, a, b, c)
            ]
      ]
    ]

given_nothing : (low high n : ℕ) → high ≤ low → given low high n ≡ 0
given_nothing low high n none =
    elim (cases_lt low n) [
      | inl above ↦ given_above low high n (omega arith)
      | inr below ↦ given_below low high n below
    ]

pub times_after : (n low count high : ℕ) → high ≡ low + count → times n (numbers_after low count) ≡ given low high n
times_after n low zero high is = sym (given_nothing low high n (omega arith))
times_after n low (suc count) high is =
    let rest = times_after n (low + 1) count high (omega arith) in
    let front = given_front low high n (omega arith) in
    omega (arith, rest, front)

-- ---- the entries at numbers

-- What a function says of the entry of a number, and 0 if there is none.
abbrev pub of_entry : (Entry → ℕ) → Option Entry → ℕ
of_entry f None = 0
of_entry f (Some e) = f e

abbrev pub at_number : (Entry → ℕ) → List Entry → ℕ → ℕ
at_number f h n = of_entry f (slice_get h (n - 1))

pub get_middle : {A : Type 0} (low since : List A) (e : A) (n : ℕ) → n ≡ length low → slice_get (low ++ e ∷ since) n ≡ Some e
get_middle [] since e zero is = refl
get_middle [] since e (suc n) is = absurd (omega arith)
get_middle (x ∷ low) since e zero is = absurd (omega arith)
get_middle (x ∷ low) since e (suc n) is = get_middle low since e n (omega arith)

pub at_there : (f : Entry → ℕ) (low since : List Entry) (e : Entry) (n : ℕ) → n ≡ length low + 1 → at_number f (low ++ e ∷ since) n ≡ f e
at_there f low since e n is = ap (of_entry f) (get_middle low since e (n - 1) (omega arith))

pub at_past : (f : Entry → ℕ) (h : List Entry) (n : ℕ) → length h < n → at_number f h n ≡ 0
at_past f h n past = ap (of_entry f) (slice_get_past h (n - 1) (omega arith))

past_sum : (f : Entry → ℕ) (h : List Entry) (low count : ℕ) → length h ≤ low → total (at_number f h) (numbers_after low count) ≡ 0
past_sum f h low zero past = refl
past_sum f h low (suc count) past =
    let here = at_past f h (low + 1) (omega arith) in
    let rest = past_sum f h (low + 1) count (omega arith) in
    omega (arith, here, rest)

since_sum : (f : Entry → ℕ) (h low since : List Entry) (start count : ℕ) → h ≡ low ++ since → start ≡ length low → length since ≤ count → total (at_number f h) (numbers_after start count) ≡ total f since
since_sum f h low [] start count is at most =
    let long : length h ≡ length low = ap (length {A = Entry}) (is ∙ append-nil low) in
    past_sum f h start count (omega (arith, long))
since_sum f h low (e ∷ since) start zero is at most = absurd (omega arith)
since_sum f h low (e ∷ since) start (suc count) is at most =
    let here : at_number f h (start + 1) ≡ f e = ap (λ k. at_number f k (start + 1)) is ∙ at_there f low since e (start + 1) (omega arith) in
    let long = length-append low (e ∷ []) in
    let rest = since_sum f h (low ++ e ∷ []) since (start + 1) count (is ∙ sym (append_assoc low (e ∷ []) since)) (omega (arith, long)) (omega arith) in
    omega (arith, here, rest)

-- If a list has just the numbers of the entries after a history, sums over it are those over these entries.
pub entries_sum : (f : Entry → ℕ) (h low since : List Entry) (more : ℕ) (numbers : List ℕ) → h ≡ low ++ since → ((n : ℕ) → times n numbers ≡ given (length low) (length h + more) n) → total (at_number f h) numbers ≡ total f since
entries_sum f h low since more numbers is just =
    let long : length h ≡ length low + length since = ap (length {A = Entry}) is ∙ length-append low since in
    totals_alike (at_number f h) numbers (numbers_after (length low) (length since + more)) (λ n.
    just n ∙ sym (times_after n (length low) (length since + more) (length h + more) (omega (arith, long))))
    ∙ since_sum f h low since (length low) (length since + more) is refl (omega arith)
