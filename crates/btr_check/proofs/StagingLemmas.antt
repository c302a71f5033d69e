-- The next entry of a log, as a check judges it: whether the version that the entry makes has no point; and the versions that entries make.
use Rattle.std.specs.Prelude.{◌≡◌, ◌↔◌, ◌⊎◌, ℕ, ◌+◌, ◌<◌, nat_eq, Bool, true, false, List, [], ◌∷◌, ◌++◌, length, take, get_or, slice_get}
use Rattle.std.specs.Prelude.{Some, IsTrue}
use Rattle.std.specs.Bool.{beq}
use Rattle.std.specs.Option.{option_map}
use Rattle.std.proofs.Common.{refl, sym, ◌∙◌, ap, subst, inl, inr, arith, length-append}
use Rattle.std.proofs.lemmas.Bool.{false≢true, eqb-true, eq-eqb, cases_lt}
use Rattle.std.proofs.lemmas.List.{take_at, take-append-le, get_or_append_left, get_or_push}
use Rattle.std.proofs.lemmas.Option.{slice_get_past}
use Rattle.btr_base.specs.declared.point.Point.{Point}
use Rattle.btr_base.specs.Range.{RangeValue}
use Rattle.btr_base.specs.Commit.{Change}
use Rattle.btr_base.proofs.ListLemmas.{get-append, get_last}
use Rattle.btr_hist.specs.declared.entry.Entry.{Entry}
use Rattle.btr_hist.specs.declared.entry.Entry.TheVariants.{Create, Define, Commit, Distillate, Retire}
use Rattle.btr_hist.specs.declared.kernel.Reads.{Reads}
use Rattle.btr_hist.specs.History.{change_of, latest, bag}
use Rattle.btr_hist.specs.Legal.{Follows}
use Rattle.btr_hist.specs.Machine.{receipt}
use Rattle.btr_hist.proofs.AcceptedLemmas.{change-accepted}
use Rattle.btr_hist.proofs.HistoryLemmas.{follows-last, streams-append, latest-append}
use Rattle.btr_hist.proofs.RetireLemmas.{first-accepted}
use Rattle.btr_hist.proofs.VersionLemmas.{latest-push}
use Rattle.btr_streams.specs.Board.{HasVersion}
use Rattle.btr_streams.proofs.BoardStreamLemmas.{retire-retires}
use Rattle.btr_open.proofs.ListLemmas.{is-there}
use Rattle.btr_open.proofs.RootLemmas.{its-change}
use Rattle.btr_verify.specs.declared.verifying.Made.{Made}
use Rattle.btr_check.specs.Rule.{IsZeroIfEmpty, FitsPoints}
use Rattle.btr_check.specs.Checker.{made_by, AreMade}

-- ---- tests

-- A number is 0 exactly if the test says so.
pub is-zero : (n : ℕ) → IsTrue (nat_eq n 0) ↔ (n ≡ 0)
is-zero n = (λ t. eqb-true n 0 t, λ zero. eq-eqb n 0 zero)

-- A count of points is 0 exactly if there is none.
pub empty-counted : (n : ℕ) (b : List Point) → n ≡ length b → IsTrue (nat_eq n 0) ↔ (b ≡ [])
empty-counted n [] counted = (λ t. refl, λ none. (is-zero n).1 counted)
empty-counted n (p ∷ b) counted = (λ t. absurd (omega (arith, (is-zero n).0 t, counted)), λ none. absurd (cc))

-- Two tests have the same answer exactly if each is true if the other is.
same-answer : (a b : Bool) (P Q : Type 0) → (IsTrue a ↔ P) → (IsTrue b ↔ Q) → IsTrue (beq a b) ↔ (P ↔ Q)
same-answer true true P Q p q = (λ t. (λ x. q.0 refl, λ y. p.0 refl), λ both. refl)
same-answer true false P Q p q = (λ t. absurd (false≢true t), λ both. absurd (false≢true (q.1 (both.0 (p.0 refl)))))
same-answer false true P Q p q = (λ t. absurd (false≢true t), λ both. absurd (false≢true (p.1 (both.1 (q.0 refl)))))
same-answer false false P Q p q = (λ t. (λ x. absurd (false≢true (p.1 x)), λ y. absurd (false≢true (q.1 y))), λ both. refl)

-- ---- the version that an entry makes

-- The history has the version that a commit makes, which is the latest one.
commit-has : (h : List Entry) (e : Entry) (stream : ℕ) (c : Change) → Follows (h ++ e ∷ []) → change_of stream e ≡ Some c → HasVersion (h ++ e ∷ []) stream (latest h stream + 1)
commit-has h e stream c follows makes =
    let known = (change-accepted h e stream c (follows-last h e follows) makes).known in
    (omega (arith, known, streams-append h (e ∷ [])), omega (arith, latest-push h e stream c makes))

-- The history has the version that an entry makes.
pub made-has : (h : List Entry) (e : Entry) → Follows (h ++ e ∷ []) → HasVersion (h ++ e ∷ []) (receipt h e).stream (receipt h e).version
made-has h (Create id) follows = (omega (arith, streams-append h (Create id ∷ [])), omega arith)
made-has h (Define id spec) follows = (omega (arith, streams-append h (Define id spec ∷ [])), omega arith)
made-has h (Retire stream least) follows =
    let known = (first-accepted h (Retire stream least) stream least (follows-last h (Retire stream least) follows) (retire-retires stream least).leaves).known in
    (omega (arith, known, streams-append h (Retire stream least ∷ [])), omega arith)
made-has h (Commit stream cut added) follows =
    let c : Change = record { cut = cut; added = added } in commit-has h (Commit stream cut added) stream c follows (its-change stream c)
made-has h (Distillate stream cut added reads) follows =
    let c : Change = record { cut = cut; added = added } in commit-has h (Distillate stream cut added reads) stream c follows (its-change stream c)

-- So does a longer one.
pub has-more : (h more : List Entry) (stream version : ℕ) → HasVersion h stream version → HasVersion (h ++ more) stream version
has-more h more stream version has = (omega (arith, has.0, streams-append h more), omega (arith, has.1, latest-append h more stream))

-- ---- whether it has no point

-- What is said of a version of a stream is said of the same version of the same stream.
pub empty-version : (h : List Entry) (empty : Bool) (stream version other its : ℕ) → stream ≡ other → version ≡ its → (HasVersion h stream version → IsTrue empty ↔ (bag h stream version ≡ [])) → HasVersion h other its → IsTrue empty ↔ (bag h other its ≡ [])
empty-version h empty stream version other its same at of =
    subst {A = ℕ × ℕ} (λ p. HasVersion h p.0 p.1 → IsTrue empty ↔ (bag h p.0 p.1 ≡ [])) (λ i. (same i, at i)) of

module _ (h : List Entry) (e : Entry) (root : ℕ) (empty : Bool) (follows : Follows (h ++ e ∷ [])) (of : HasVersion (h ++ e ∷ []) (receipt h e).stream (receipt h e).version → IsTrue empty ↔ (bag (h ++ e ∷ []) (receipt h e).stream (receipt h e).version ≡ [])) where
  -- The test of the root of a commit of a stream.
  fits-commit : (stream : ℕ) (c : Change) → change_of stream e ≡ Some c → (receipt h e).stream ≡ stream → (receipt h e).version ≡ latest h stream + 1 → IsTrue (beq (nat_eq root 0) empty) ↔ IsZeroIfEmpty (h ++ e ∷ []) stream root
  fits-commit stream c makes its_stream its_version =
      let all = h ++ e ∷ [] in
      let last : (receipt h e).version ≡ latest all stream = omega (arith, its_version, latest-push h e stream c makes) in
      let points : bag all (receipt h e).stream (receipt h e).version ≡ bag all stream (latest all stream) = λ i. bag all (its_stream i) (last i) in
      same-answer (nat_eq root 0) empty (root ≡ 0) (bag all stream (latest all stream) ≡ []) (is-zero root)
      (subst (λ b. IsTrue empty ↔ (b ≡ [])) points (of (made-has h e follows)))

  -- That of an entry that makes a version.
  pub fits-version : ((stream : ℕ) × (cut : List RangeValue) × (added : List Point) × (e ≡ Commit stream cut added)) ⊎ ((stream : ℕ) × (cut : List RangeValue) × (added : List Point) × (reads : Reads) × (e ≡ Distillate stream cut added reads)) → IsTrue (beq (nat_eq root 0) empty) ↔ FitsPoints h e root
  fits-version (inl x) =
      let c : Change = record { cut = x.1; added = x.2 } in
      let is = x.3 in
      let test = fits-commit x.0 c (ap (change_of x.0) is ∙ its-change x.0 c) (ap (λ f. (receipt h f).stream) is) (ap (λ f. (receipt h f).version) is) in
      subst (λ f. IsTrue (beq (nat_eq root 0) empty) ↔ FitsPoints h f root) (sym is) (subst (λ f. IsTrue (beq (nat_eq root 0) empty) ↔ IsZeroIfEmpty (h ++ f ∷ []) x.0 root) is test)
  fits-version (inr x) =
      let c : Change = record { cut = x.1; added = x.2 } in
      let is = x.4 in
      let test = fits-commit x.0 c (ap (change_of x.0) is ∙ its-change x.0 c) (ap (λ f. (receipt h f).stream) is) (ap (λ f. (receipt h f).version) is) in
      subst (λ f. IsTrue (beq (nat_eq root 0) empty) ↔ FitsPoints h f root) (sym is) (subst (λ f. IsTrue (beq (nat_eq root 0) empty) ↔ IsZeroIfEmpty (h ++ f ∷ []) x.0 root) is test)

-- ---- the versions that entries make

-- With one entry more.
module _ (h : List Entry) (roots : List ℕ) (made : List Made) (e : Entry) (root : ℕ) (counted : length made ≡ length h) (rooted : length roots ≡ length h) (are : AreMade h roots made) where
  abbrev all : List Entry
  all = h ++ e ∷ []

  abbrev all_roots : List ℕ
  all_roots = roots ++ root ∷ []

  abbrev all_made : List Made
  all_made = made ++ made_by h e root ∷ []

  abbrev IsMadeAt : ℕ → Type 0
  IsMadeAt n = slice_get all_made n ≡ option_map (λ f. made_by (take n all) f (get_or all_roots n 0)) (slice_get all n)

  made-before : (n : ℕ) → n < length h → IsMadeAt n
  made-before n low =
      let it = is-there h n low in
      let was : slice_get made n ≡ Some (made_by (take n h) it.0 (get_or roots n 0)) = are n ∙ ap (option_map (λ f. made_by (take n h) f (get_or roots n 0))) it.1 in
      let firsts : take n all ≡ take n h = take-append-le n h (e ∷ []) (omega (arith, low)) in
      let its : get_or all_roots n 0 ≡ get_or roots n 0 = get_or_append_left roots (root ∷ []) 0 n (omega (arith, low, rooted)) in
      get-append made (made_by h e root ∷ []) n (made_by (take n h) it.0 (get_or roots n 0)) was
      ∙ (λ i. Some (made_by (sym firsts i) it.0 (sym its i)))
      ∙ sym (ap (option_map (λ f. made_by (take n all) f (get_or all_roots n 0))) (get-append h (e ∷ []) n it.0 it.1))

  made-last : IsMadeAt (length h)
  made-last =
      let n = length h in
      let there : slice_get all_made n ≡ Some (made_by h e root) = subst (λ k. slice_get all_made k ≡ Some (made_by h e root)) counted (get_last made (made_by h e root)) in
      let firsts : take n all ≡ h = take_at h (e ∷ []) n refl in
      let its : get_or all_roots n 0 ≡ root = get_or_push roots root 0 n rooted in
      there
      ∙ (λ i. Some (made_by (sym firsts i) e (sym its i)))
      ∙ sym (ap (option_map (λ f. made_by (take n all) f (get_or all_roots n 0))) (get_last h e))

  made-past : (n : ℕ) → length h < n → IsMadeAt n
  made-past n high =
      slice_get_past all_made n (omega (arith, high, counted, length-append made (made_by h e root ∷ [])))
      ∙ sym (ap (option_map (λ f. made_by (take n all) f (get_or all_roots n 0))) (slice_get_past all n (omega (arith, high, length-append h (e ∷ [])))))

  pub made-push : AreMade all all_roots all_made
  made-push n = elim (cases_lt n (length h)) [
    | inl low ↦ made-before n low
    | inr le ↦ elim (cases_lt (length h) n) [
      | inl high ↦ made-past n high
      | inr ge ↦ let same : length h ≡ n = omega (arith, le, ge) in subst IsMadeAt same made-last
    ]
  ]
