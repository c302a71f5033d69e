-- The numbers of the entries that made the versions of a stream: how many there are, between which they are, and which a history with one
-- entry more has.
use Rattle.std.specs.Prelude.{◌≡◌, ℕ, ◌+◌, ◌<◌, ◌≤◌, Bool, true, false, cond, List, [], ◌∷◌, ◌++◌, length, slice_get, get_or, Option, Some, None, is_some}
use Rattle.std.specs.List.{filter_map, cons_option}
use Rattle.std.proofs.Common.{zero, suc, refl, sym, ap, ◌∙◌, subst, arith}
use Rattle.std.proofs.lemmas.List.{append-nil}
use Rattle.std.proofs.lemmas.Option.{slice_get_past, slice_get-get_or}
use Rattle.btr_base.specs.Commit.{Change}
use Rattle.btr_base.proofs.ListLemmas.{get-append, get_last}
use Rattle.btr_hist.specs.declared.entry.Entry.{Entry}
use Rattle.btr_hist.specs.declared.kernel.Spec.{Spec}
use Rattle.btr_hist.specs.declared.kernel.Reads.{Reads}
use Rattle.btr_hist.specs.History.{new_id, change_of, ids, latest}
use Rattle.btr_streams.specs.Past.{entry_numbers, creation_numbers, commit_numbers, stream_numbers}
use Rattle.btr_streams.specs.Stage.{MakesStream, MakesVersion, RetiresVersions}
use Rattle.btr_streams.proofs.BoardStreamLemmas.{none-in}

-- ---- how many there are

-- There is one number for each entry of which something is read.
numbers-length : {X : Type 0} (f : Entry → Option X) (n : ℕ) (h : List Entry) → length (entry_numbers (λ e. is_some (f e)) n h) ≡ length (filter_map f h)
numbers-length f n [] = refl
numbers-length {X} f n (e ∷ h) =
    let more : List ℕ = entry_numbers (λ x. is_some (f x)) (n + 1) h in
    let rest : length more ≡ length (filter_map f h) = numbers-length f (n + 1) h in
    elim (f e) as (λ (o : Option X). length (cond (is_some o) (n ∷ more) more) ≡ length (cons_option o (filter_map f h))) [
      | None ↦ rest
      | Some x ↦ ap (λ (k : ℕ). suc k) rest
    ]

creations-length : (h : List Entry) → length (creation_numbers h) ≡ length (ids h)
creations-length h = numbers-length new_id 1 h

commits-length : (h : List Entry) (s : ℕ) → length (commit_numbers h s) ≡ latest h s
commits-length h s = numbers-length (change_of s) 1 h

-- A stream without versions but version 0 has no commit.
no-commits : (h : List Entry) (s : ℕ) → latest h s ≡ 0 → commit_numbers h s ≡ []
no-commits h s none = none-in (commit_numbers h s) (commits-length h s ∙ none)

-- A stream that the history does not have has no numbers.
pub numbers-past : (h : List Entry) (s : ℕ) → length (ids h) ≤ s → latest h s ≡ 0 → stream_numbers h s ≡ []
numbers-past h s past none =
    ap (λ (o : Option ℕ). cons_option o (commit_numbers h s)) (slice_get_past (creation_numbers h) s (omega (arith, creations-length h, past)))
    ∙ no-commits h s none

module _ (h : List Entry) (s : ℕ) (known : s < length (ids h)) where
  -- The first number is that of the entry that made the stream.
  numbers-parts : stream_numbers h s ≡ get_or (creation_numbers h) s 0 ∷ commit_numbers h s
  numbers-parts =
      ap (λ (o : Option ℕ). cons_option o (commit_numbers h s)) (slice_get-get_or (creation_numbers h) s 0 (omega (arith, creations-length h, known)))

  -- There is one number for each version.
  pub numbers-counted : length (stream_numbers h s) ≡ latest h s + 1
  numbers-counted =
      let more : length (commit_numbers h s) ≡ latest h s = commits-length h s in
      let parts : length (stream_numbers h s) ≡ suc (length (commit_numbers h s)) = ap (length {A = ℕ}) numbers-parts in
      omega (arith, more, parts)

-- ---- between which numbers they are

-- A number from n on that is below `end`.
abbrev pub IsBetween : ℕ → ℕ → ℕ → Type 0
IsBetween n end k = (n ≤ k) × (k < end)

between-first : (n end : ℕ) (more : List ℕ) → n < end → ((j : ℕ) → j < length more → IsBetween (n + 1) end (get_or more j 0)) → (i : ℕ) → i < suc (length more) → IsBetween n end (get_or (n ∷ more) i 0)
between-first n end more few rest zero low = (omega arith, few)
between-first n end more few rest (suc j) low =
    let r = rest j (omega (arith, low)) in
    (omega (arith, r.0), r.1)

-- Each is the number of an entry.
between : (test : Entry → Bool) (n : ℕ) (h : List Entry) (i : ℕ) → i < length (entry_numbers test n h) → IsBetween n (n + length h) (get_or (entry_numbers test n h) i 0)
between test n [] i low = absurd (omega (arith, low))
between test n (x ∷ h) i low =
    let more : List ℕ = entry_numbers test (n + 1) h in
    let far : (n + 1) + length h ≡ n + suc (length h) = omega arith in
    let rest : (j : ℕ) → j < length more → IsBetween (n + 1) (n + suc (length h)) (get_or more j 0) =
    λ j few. subst (λ (k : ℕ). IsBetween (n + 1) k (get_or more j 0)) far (between test (n + 1) h j few) in
    elim (test x) as (λ t. i < length (cond t (n ∷ more) more) → IsBetween n (n + suc (length h)) (get_or (cond t (n ∷ more) more) i 0)) [
      | true ↦ λ few. between-first n (n + suc (length h)) more (omega arith) rest i few
      | false ↦ λ few.
          let r = rest i few in
          (omega (arith, r.0), r.1)
    ] low

-- The number of a version from 1 on is that of an entry of the history.
pub number-between : (h : List Entry) (s version : ℕ) → s < length (ids h) → 1 ≤ version → version ≤ latest h s → IsBetween 1 (1 + length h) (get_or (stream_numbers h s) version 0)
number-between h s zero known some few = absurd (omega (arith, some))
number-between h s (suc v) known some few =
    subst (λ (l : List ℕ). IsBetween 1 (1 + length h) (get_or l (suc v) 0)) (sym (numbers-parts h s known))
    (between (λ e. is_some (change_of s e)) 1 h v (omega (arith, few, commits-length h s)))

-- ---- a history with one entry more

-- The number of an entry, if it passes a test.
abbrev number_if : Bool → ℕ → List ℕ
number_if true n = n ∷ []
number_if false n = []

numbers-push : (test : Entry → Bool) (n : ℕ) (h : List Entry) (e : Entry) → entry_numbers test n (h ++ e ∷ []) ≡ entry_numbers test n h ++ number_if (test e) (n + length h)
numbers-push test n [] e =
    let here : n ≡ n + 0 = omega arith in
    elim (test e) as (λ t. cond t (n ∷ []) [] ≡ number_if t (n + 0)) [
      | true ↦ ap (λ (k : ℕ). k ∷ []) here
      | false ↦ refl
    ]
numbers-push test n (x ∷ h) e =
    let far : (n + 1) + length h ≡ n + suc (length h) = omega arith in
    let old : List ℕ = entry_numbers test (n + 1) h in
    let new : List ℕ = entry_numbers test (n + 1) (h ++ e ∷ []) in
    let last : List ℕ = number_if (test e) (n + suc (length h)) in
    let rest : new ≡ old ++ last = numbers-push test (n + 1) h e ∙ ap (λ (k : ℕ). old ++ number_if (test e) k) far in
    elim (test x) as (λ t. cond t (n ∷ new) new ≡ cond t (n ∷ old) old ++ last) [
      | true ↦ ap (λ (l : List ℕ). n ∷ l) rest
      | false ↦ rest
    ]

-- One number more if the last entry passes the test, and else none.
one-number : (test : Entry → Bool) (h : List Entry) (e : Entry) → test e ≡ true → entry_numbers test 1 (h ++ e ∷ []) ≡ entry_numbers test 1 h ++ (length h + 1) ∷ []
one-number test h e passes =
    let last : 1 + length h ≡ length h + 1 = omega arith in
    numbers-push test 1 h e
    ∙ ap (λ (t : Bool). entry_numbers test 1 h ++ number_if t (1 + length h)) passes
    ∙ ap (λ (k : ℕ). entry_numbers test 1 h ++ k ∷ []) last

no-number : (test : Entry → Bool) (h : List Entry) (e : Entry) → test e ≡ false → entry_numbers test 1 (h ++ e ∷ []) ≡ entry_numbers test 1 h
no-number test h e fails =
    numbers-push test 1 h e
    ∙ ap (λ (t : Bool). entry_numbers test 1 h ++ number_if t (1 + length h)) fails
    ∙ append-nil (entry_numbers test 1 h)

module _ (h : List Entry) (e : Entry) (id : ℕ) (spec : Option Spec) (makes : MakesStream e id spec) where
  creations-more : creation_numbers (h ++ e ∷ []) ≡ creation_numbers h ++ (length h + 1) ∷ []
  creations-more = one-number (λ x. is_some (new_id x)) h e (ap (is_some {T = ℕ}) makes.named)

  commits-same : (s : ℕ) → commit_numbers (h ++ e ∷ []) s ≡ commit_numbers h s
  commits-same s = no-number (λ x. is_some (change_of s x)) h e (ap (is_some {T = Change}) (makes.no_change s))

  -- The other streams keep their numbers.
  pub numbers-still : (s : ℕ) → s < length (ids h) → stream_numbers (h ++ e ∷ []) s ≡ stream_numbers h s
  numbers-still s low =
      let at = slice_get-get_or (creation_numbers h) s 0 (omega (arith, creations-length h, low)) in
      let same : slice_get (creation_numbers (h ++ e ∷ [])) s ≡ slice_get (creation_numbers h) s =
      ap (λ (l : List ℕ). slice_get l s) creations-more ∙ get-append (creation_numbers h) ((length h + 1) ∷ []) s _ at ∙ sym at in
      ap (λ (o : Option ℕ). cons_option o (commit_numbers (h ++ e ∷ []) s)) same
      ∙ ap (cons_option (slice_get (creation_numbers h) s)) (commits-same s)

  -- The new stream has the number of the entry.
  pub numbers-new : (s : ℕ) → s ≡ length (ids h) → latest h s ≡ 0 → stream_numbers (h ++ e ∷ []) s ≡ (length h + 1) ∷ []
  numbers-new s end none =
      let last : slice_get (creation_numbers (h ++ e ∷ [])) s ≡ Some (length h + 1) =
      ap (λ (l : List ℕ). slice_get l s) creations-more ∙ ap (slice_get (creation_numbers h ++ (length h + 1) ∷ [])) (end ∙ sym (creations-length h)) ∙ get_last (creation_numbers h) (length h + 1) in
      ap (λ (o : Option ℕ). cons_option o (commit_numbers (h ++ e ∷ []) s)) last
      ∙ ap (λ (l : List ℕ). (length h + 1) ∷ l) (commits-same s ∙ no-commits h s none)

-- A number more at the end.
cons-push : (o : Option ℕ) (ns : List ℕ) (n : ℕ) → cons_option o (ns ++ n ∷ []) ≡ cons_option o ns ++ n ∷ []
cons-push None ns n = refl
cons-push (Some m) ns n = refl

module _ (h : List Entry) (e : Entry) (s : ℕ) (c : Change) (read : Option Reads) (makes : MakesVersion e s c read) where
  creations-same : creation_numbers (h ++ e ∷ []) ≡ creation_numbers h
  creations-same = no-number (λ x. is_some (new_id x)) h e (ap (is_some {T = ℕ}) makes.no_id)

  -- The stream has the number of the entry at the end.
  pub numbers-more : stream_numbers (h ++ e ∷ []) s ≡ stream_numbers h s ++ (length h + 1) ∷ []
  numbers-more =
      ap (λ (l : List ℕ). cons_option (slice_get l s) (commit_numbers (h ++ e ∷ []) s)) creations-same
      ∙ ap (cons_option (slice_get (creation_numbers h) s)) (one-number (λ x. is_some (change_of s x)) h e (ap (is_some {T = Change}) makes.changes))
      ∙ cons-push (slice_get (creation_numbers h) s) (commit_numbers h s) (length h + 1)

  -- The other streams keep their numbers.
  pub numbers-other : (stream : ℕ) → (s ≡ stream → ⊥) → stream_numbers (h ++ e ∷ []) stream ≡ stream_numbers h stream
  numbers-other stream other =
      ap (λ (l : List ℕ). cons_option (slice_get l stream) (commit_numbers (h ++ e ∷ []) stream)) creations-same
      ∙ ap (cons_option (slice_get (creation_numbers h) stream)) (no-number (λ x. is_some (change_of stream x)) h e (ap (is_some {T = Change}) (makes.no_other_change stream other)))

module _ (h : List Entry) (e : Entry) (s first : ℕ) (retires : RetiresVersions e s first) where
  -- All streams keep their numbers.
  pub numbers-kept : (stream : ℕ) → stream_numbers (h ++ e ∷ []) stream ≡ stream_numbers h stream
  numbers-kept stream =
      ap (λ (l : List ℕ). cons_option (slice_get l stream) (commit_numbers (h ++ e ∷ []) stream)) (no-number (λ x. is_some (new_id x)) h e (ap (is_some {T = ℕ}) retires.no_id))
      ∙ ap (cons_option (slice_get (creation_numbers h) stream)) (no-number (λ x. is_some (change_of stream x)) h e (ap (is_some {T = Change}) (retires.no_change stream)))
