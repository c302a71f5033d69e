-- The readers of the streams of a board with one stream more.
use Rattle.std.specs.Prelude.{◌≡◌, ℕ, ◌+◌, ◌<◌, ◌≤◌, ◌==◌, ◌||◌, true, false, cond, List, [], ◌∷◌, ◌++◌, length, slice_set, slice_index_or, Option, Some, None, IfSome}
use Rattle.std.specs.List.{AllByRecursion}
use Rattle.std.proofs.Common.{suc, refl, sym, ap, ◌∙◌, subst, arith, inl, inr, length-append}
use Rattle.std.proofs.lemmas.List.{append-nil, get_or_append_left, get_or_push, get_or-set_same, get_or-set_other, length-set}
use Rattle.std.proofs.lemmas.Bool.{cases_lt, cases_eq, eq-eqb, ne_eqb}
use Rattle.std.proofs.lemmas.Option.{slice_get-get_or, get_or_from_slice_get}
use Rattle.btr_base.proofs.ListLemmas.{each-append}
use Rattle.btr_hist.specs.declared.kernel.Spec.{Spec}
use Rattle.btr_streams.specs.Readers.{second_is, is_input, AreInputsBelow, readers_from, AreReaders}

-- ---- inputs

not-second : (s : ℕ) (o : Option ℕ) → IfSome o (λ input. input < s) → second_is s o ≡ false
not-second s None low = refl
not-second s (Some i) low = ne_eqb i s (λ same. omega (arith, low, same))

-- A stream is no input if the inputs are before it.
not-input : (s : ℕ) (spec : Spec) → AreInputsBelow s spec → is_input s spec ≡ false
not-input s spec below =
    let low = below.first in
    ap (λ t. t || second_is s spec.second) (ne_eqb spec.first s (λ same. omega (arith, low, same))) ∙ not-second s spec.second below.second

second-more : (a b : ℕ) → a ≤ b → (o : Option ℕ) → IfSome o (λ input. input < a) → IfSome o (λ input. input < b)
second-more a b le None low = tt
second-more a b le (Some i) low = omega (arith, le, low)

below-more : (a b : ℕ) → a ≤ b → (o : Option Spec) → IfSome o (AreInputsBelow a) → IfSome o (AreInputsBelow b)
below-more a b le None below = tt
below-more a b le (Some spec) below =
    let low = below.first in
    record { first = omega (arith, le, low); second = second-more a b le spec.second below.second }

all-more : (a b : ℕ) → a ≤ b → (kinds : List (Option Spec)) → AllByRecursion (λ o. IfSome o (AreInputsBelow a)) kinds → AllByRecursion (λ o. IfSome o (AreInputsBelow b)) kinds
all-more a b le [] below = tt
all-more a b le (o ∷ kinds) below = (below-more a b le o below.0, all-more a b le kinds below.1)

-- ---- readers

-- A stream after all inputs has no reader.
no-readers : (s n : ℕ) (kinds : List (Option Spec)) → AllByRecursion (λ o. IfSome o (AreInputsBelow s)) kinds → readers_from s n kinds ≡ []
no-readers s n [] below = refl
no-readers s n (None ∷ kinds) below = no-readers s (n + 1) kinds below.1
no-readers s n (Some spec ∷ kinds) below =
    let more : List ℕ = readers_from s (n + 1) kinds in
    ap (λ t. cond t (n ∷ more) more) (not-input s spec below.0) ∙ no-readers s (n + 1) kinds below.1

readers-push : (s n : ℕ) (kinds : List (Option Spec)) (o : Option Spec) → readers_from s n (kinds ++ o ∷ []) ≡ readers_from s n kinds ++ readers_from s (n + length kinds) (o ∷ [])
readers-push s n [] o =
    let here : n ≡ n + 0 = omega arith in
    ap (λ (k : ℕ). readers_from s k (o ∷ [])) here
readers-push s n (None ∷ kinds) o =
    let far : (n + 1) + length kinds ≡ n + suc (length kinds) = omega arith in
    readers-push s (n + 1) kinds o ∙ ap (λ (k : ℕ). readers_from s (n + 1) kinds ++ readers_from s k (o ∷ [])) far
readers-push s n (Some spec ∷ kinds) o =
    let far : (n + 1) + length kinds ≡ n + suc (length kinds) = omega arith in
    let old : List ℕ = readers_from s (n + 1) kinds in
    let new : List ℕ = readers_from s (n + 1) (kinds ++ o ∷ []) in
    let last : List ℕ = readers_from s (n + suc (length kinds)) (o ∷ []) in
    let rest : new ≡ old ++ last = readers-push s (n + 1) kinds o ∙ ap (λ (k : ℕ). old ++ readers_from s k (o ∷ [])) far in
    elim (is_input s spec) as (λ t. cond t (n ∷ new) new ≡ cond t (n ∷ old) old ++ last) [
      | true ↦ ap (λ (l : List ℕ). n ∷ l) rest
      | false ↦ rest
    ]

-- ---- one stream more

-- The number, if the stream is the input.
abbrev reader_if : ℕ → ℕ → ℕ → List ℕ
reader_if input s n = cond (input == s) (n ∷ []) []

-- One reader more of an input.
set-reader : (l : List (List ℕ)) (input n s : ℕ) (d : List ℕ) → input < length l → slice_index_or (slice_set l input (slice_index_or l input [] ++ n ∷ [])) s d ≡ slice_index_or l s d ++ reader_if input s n
set-reader l input n s d low =
    let new : List ℕ = slice_index_or l input [] ++ n ∷ [] in
    elim (cases_eq s input) [
      | inl same ↦
          let here : slice_index_or l input [] ≡ slice_index_or l input d = sym (get_or_from_slice_get l input (slice_index_or l input []) d (slice_get-get_or l input [] low)) in
          ap (λ (k : ℕ). slice_index_or (slice_set l input new) k d) same
          ∙ get_or-set_same l input new d low
          ∙ ap (λ (x : List ℕ). x ++ n ∷ []) (here ∙ ap (λ (k : ℕ). slice_index_or l k d) (sym same))
          ∙ ap (λ t. slice_index_or l s d ++ cond t (n ∷ []) []) (sym (eq-eqb input s (sym same)))
      | inr other ↦
          get_or-set_other l input s new d other
          ∙ sym (append-nil (slice_index_or l s d))
          ∙ ap (λ t. slice_index_or l s d ++ cond t (n ∷ []) []) (sym (ne_eqb input s (λ same. other (sym same))))
    ]

module _ (readers : List (List ℕ)) (n : ℕ) (last : n ≡ length readers) (kinds : List (Option Spec)) (was : AreReaders kinds readers) where
  abbrev more : List (List ℕ)
  more = readers ++ [] ∷ []

  size : length more ≡ n + 1
  size = omega (arith, last, length-append readers ([] ∷ []))

  -- The lists are the readers, if each has the new stream more where it is a reader.
  are-readers : (o : Option Spec) → IfSome o (AreInputsBelow n) → (after : List (List ℕ)) → length after ≡ n + 1 → ((s : ℕ) (d : List ℕ) → slice_index_or after s d ≡ slice_index_or more s d ++ readers_from s n (o ∷ [])) → AreReaders (kinds ++ o ∷ []) after
  are-readers o inputs after long each =
      let counted = was.counted in
      let all : length (kinds ++ o ∷ []) ≡ n + 1 = omega (arith, last, counted, length-append kinds (o ∷ [])) in
      let place : 0 + length kinds ≡ n = omega (arith, last, counted) in
      let pushed : (s : ℕ) → readers_from s 0 (kinds ++ o ∷ []) ≡ readers_from s 0 kinds ++ readers_from s n (o ∷ []) =
      λ s. readers-push s 0 kinds o ∙ ap (λ (k : ℕ). readers_from s 0 kinds ++ readers_from s k (o ∷ [])) place in
      record {
        counted = long ∙ sym all;
        below = each-append (λ x. IfSome x (AreInputsBelow (length (kinds ++ o ∷ [])))) kinds (o ∷ []) (all-more (length kinds) (length (kinds ++ o ∷ [])) (omega (arith, all, counted, last)) kinds was.below) (below-more n (length (kinds ++ o ∷ [])) (omega (arith, all)) o inputs, tt);
        each = λ s d low. elim (cases_lt s n) [
          | inl before ↦
              let old : slice_index_or more s d ≡ readers_from s 0 kinds = get_or_append_left readers ([] ∷ []) d s (omega (arith, last)) ∙ was.each s d (omega (arith, last, counted)) in
              each s d ∙ ap (λ (l : List ℕ). l ++ readers_from s n (o ∷ [])) old ∙ sym (pushed s)
          | inr end ↦
              let at : length readers ≡ s = omega (arith, last, all) in
              let none : slice_index_or more s d ≡ [] = get_or_push readers [] d s at in
              let unread : readers_from s 0 kinds ≡ [] = no-readers s 0 kinds (all-more (length kinds) s (omega (arith, counted, at)) kinds was.below) in
              each s d ∙ ap (λ (l : List ℕ). l ++ readers_from s n (o ∷ [])) (none ∙ sym unread) ∙ sym (pushed s)
        ];
      }

  pub plain-read : (after : List (List ℕ)) → after ≡ more → AreReaders (kinds ++ None ∷ []) after
  plain-read after is =
      are-readers None tt after (ap (length {A = List ℕ}) is ∙ size) (λ s d.
      ap (λ (l : List (List ℕ)). slice_index_or l s d) is ∙ sym (append-nil (slice_index_or more s d)))

  module _ (spec : Spec) (inputs : AreInputsBelow n spec) (once : List (List ℕ)) (first : once ≡ slice_set more spec.first (slice_index_or more spec.first [] ++ n ∷ [])) where
    low : spec.first < length more
    low = let below = inputs.first in omega (arith, size, below)

    once-size : length once ≡ n + 1
    once-size = ap (length {A = List ℕ}) first ∙ length-set more spec.first _ ∙ size

    once-at : (s : ℕ) (d : List ℕ) → slice_index_or once s d ≡ slice_index_or more s d ++ reader_if spec.first s n
    once-at s d = ap (λ (l : List (List ℕ)). slice_index_or l s d) first ∙ set-reader more spec.first n s d low

    -- An output with one input, or with one stream as both inputs.
    single-read : ((s : ℕ) → is_input s spec ≡ (spec.first == s)) → AreReaders (kinds ++ Some spec ∷ []) once
    single-read same =
        are-readers (Some spec) inputs once once-size (λ s d.
        once-at s d ∙ ap (λ t. slice_index_or more s d ++ cond t (n ∷ []) []) (sym (same s)))

    pub one-read : spec.second ≡ None → AreReaders (kinds ++ Some spec ∷ []) once
    one-read none =
        single-read (λ s.
        ap (λ (o : Option ℕ). spec.first == s || second_is s o) none
        ∙ elim (spec.first == s) as (λ t. (t || false) ≡ t) [ true ↦ refl | false ↦ refl ])

    pub same-read : (second : ℕ) → spec.second ≡ Some second → second ≡ spec.first → AreReaders (kinds ++ Some spec ∷ []) once
    same-read second is same =
        single-read (λ s.
        ap (λ (o : Option ℕ). spec.first == s || second_is s o) (is ∙ ap (λ (k : ℕ). Some k) same)
        ∙ elim (spec.first == s) as (λ t. (t || t) ≡ t) [ true ↦ refl | false ↦ refl ])

    -- An output with two inputs.
    pub two-read : (second : ℕ) → spec.second ≡ Some second → (second ≡ spec.first → ⊥) → (after : List (List ℕ)) → after ≡ slice_set once second (slice_index_or once second [] ++ n ∷ []) → AreReaders (kinds ++ Some spec ∷ []) after
    two-read second is other after set =
        let second_low : second < n = subst (λ (o : Option ℕ). IfSome o (λ input. input < n)) is inputs.second in
        are-readers (Some spec) inputs after (ap (length {A = List ℕ}) set ∙ length-set once second _ ∙ once-size) (λ s d.
        let old : List ℕ = slice_index_or more s d in
        ap (λ (l : List (List ℕ)). slice_index_or l s d) set
        ∙ set-reader once second n s d (omega (arith, once-size, second_low))
        ∙ ap (λ (l : List ℕ). l ++ reader_if second s n) (once-at s d)
        ∙ both s old
        ∙ ap (λ (o : Option ℕ). old ++ cond (spec.first == s || second_is s o) (n ∷ []) []) (sym is))
      where
        both : (s : ℕ) (old : List ℕ) → (old ++ reader_if spec.first s n) ++ reader_if second s n ≡ old ++ cond (spec.first == s || second == s) (n ∷ []) []
        both s old = elim (cases_eq spec.first s) [
          | inl same ↦
              ap (λ t. (old ++ cond t (n ∷ []) []) ++ reader_if second s n) (eq-eqb spec.first s same)
              ∙ ap (λ t. (old ++ n ∷ []) ++ cond t (n ∷ []) []) (ne_eqb second s (λ here. other (here ∙ sym same)))
              ∙ append-nil (old ++ n ∷ [])
              ∙ ap (λ t. old ++ cond (t || second == s) (n ∷ []) []) (sym (eq-eqb spec.first s same))
          | inr differ ↦
              ap (λ t. (old ++ cond t (n ∷ []) []) ++ reader_if second s n) (ne_eqb spec.first s differ)
              ∙ ap (λ (l : List ℕ). l ++ reader_if second s n) (append-nil old)
              ∙ ap (λ t. old ++ cond (t || second == s) (n ∷ []) []) (sym (ne_eqb spec.first s differ))
        ]
