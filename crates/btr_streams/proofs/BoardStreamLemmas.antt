-- The streams of a history with one entry more: their ids, their numbers, their kinds, their commits, what they have read and which of their
-- versions are retired.
use Rattle.std.specs.Prelude.{◌≡◌, ℕ, ◌+◌, ◌<◌, ◌≤◌, Bool, true, false, cond, ◌==◌, ◌||◌, nat_eq, List, [], ◌∷◌, ◌++◌, length, slice_index_or, Option, Some, None, is_some}
use Rattle.std.specs.List.{list_any, position_from, filter_map, cons_option}
use Rattle.std.proofs.Common.{zero, suc, refl, sym, ap, ◌∙◌, arith, inl, inr}
use Rattle.std.proofs.lemmas.List.{append-nil, get_or_past}
use Rattle.std.proofs.lemmas.List.Elements.{filter_map-append}
use Rattle.std.proofs.lemmas.Bool.{cases_eq, eq-eqb, ne_eqb}
use Rattle.btr_base.specs.declared.point.Point.{Point}
use Rattle.btr_base.specs.Range.{RangeValue}
use Rattle.btr_base.specs.Commit.{Change}
use Rattle.btr_board.specs.Put.{put_at}
use Rattle.btr_hist.specs.declared.entry.Entry.{Entry}
use Rattle.btr_hist.specs.declared.entry.Entry.TheVariants.{Create, Commit, Define, Distillate, Retire}
use Rattle.btr_hist.specs.declared.kernel.Spec.{Spec}
use Rattle.btr_hist.specs.declared.kernel.Reads.{Reads}
use Rattle.btr_hist.specs.History.{new_id, new_kind, change_of, read_of, ids, kinds, spec_of, commits, recorded, read_by, earliest}
use Rattle.btr_hist.specs.Legal.{Follows}
use Rattle.btr_hist.proofs.HistoryLemmas.{length-kinds, length-recorded, unknown}
use Rattle.btr_hist.proofs.RetireLemmas.{follows-past}
use Rattle.btr_streams.specs.Board.{place_of}
use Rattle.btr_streams.specs.Stage.{MakesStream, MakesVersion, RetiresVersions, change}

-- ---- the position of a number in a list

abbrev pub sooner : Option ℕ → Option ℕ → Option ℕ
sooner None o = o
sooner (Some n) o = Some n

position-push : (test : ℕ → Bool) (i : ℕ) (xs : List ℕ) (y : ℕ) → position_from test i (xs ++ y ∷ []) ≡ sooner (position_from test i xs) (cond (test y) (Some (i + length xs)) None)
position-push test i [] y = ap (λ (n : ℕ). cond (test y) (Some n) None) (omega arith)
position-push test i (x ∷ xs) y =
    let far : (i + 1) + length xs ≡ i + suc (length xs) = omega arith in
    let rest : position_from test (i + 1) (xs ++ y ∷ []) ≡ sooner (position_from test (i + 1) xs) (cond (test y) (Some (i + suc (length xs))) None) =
    position-push test (i + 1) xs y ∙ ap (λ (n : ℕ). sooner (position_from test (i + 1) xs) (cond (test y) (Some n) None)) far in
    elim (test x) as (λ t. cond t (Some i) (position_from test (i + 1) (xs ++ y ∷ [])) ≡ sooner (cond t (Some i) (position_from test (i + 1) xs)) (cond (test y) (Some (i + suc (length xs))) None)) [
      | true ↦ refl
      | false ↦ rest
    ]

position-low : (test : ℕ → Bool) (i : ℕ) (xs : List ℕ) (n : ℕ) → position_from test i xs ≡ Some n → n < i + length xs
position-low test i [] n at = absurd (cc)
position-low test i (x ∷ xs) n at =
    let step : cond (test x) (Some i) (position_from test (i + 1) xs) ≡ Some n → n < i + suc (length xs) =
    elim (test x) as (λ t. cond t (Some i) (position_from test (i + 1) xs) ≡ Some n → n < i + suc (length xs)) [
      | true ↦ (λ here. let same : i ≡ n = cc in omega arith)
      | false ↦ (λ there. let low = position-low test (i + 1) xs n there in omega arith)
    ] in
    step at

position-any : (test : ℕ → Bool) (i : ℕ) (xs : List ℕ) → is_some (position_from test i xs) ≡ list_any test xs
position-any test i [] = refl
position-any test i (x ∷ xs) =
    elim (test x) as (λ t. is_some (cond t (Some i) (position_from test (i + 1) xs)) ≡ (t || list_any test xs)) [
      | true ↦ refl
      | false ↦ position-any test (i + 1) xs
    ]

-- ---- a history with one entry more

-- What is read off the entries, if there is something to be read off the last.
pushed-some : {X : Type 0} (f : Entry → Option X) (h : List Entry) (e : Entry) (x : X) → f e ≡ Some x → filter_map f (h ++ e ∷ []) ≡ filter_map f h ++ x ∷ []
pushed-some {X} f h e x is =
    filter_map-append f h (e ∷ []) ∙ ap (λ (o : Option X). filter_map f h ++ cons_option o []) is

pushed-none : {X : Type 0} (f : Entry → Option X) (h : List Entry) (e : Entry) → f e ≡ None → filter_map f (h ++ e ∷ []) ≡ filter_map f h
pushed-none {X} f h e is =
    filter_map-append f h (e ∷ []) ∙ ap (λ (o : Option X). filter_map f h ++ cons_option o []) is ∙ append-nil (filter_map f h)

module _ (h : List Entry) (e : Entry) (id : ℕ) (spec : Option Spec) (makes : MakesStream e id spec) where
  pub ids-more : ids (h ++ e ∷ []) ≡ ids h ++ id ∷ []
  ids-more = pushed-some new_id h e id makes.named

  pub kinds-more : kinds (h ++ e ∷ []) ≡ kinds h ++ spec ∷ []
  kinds-more = pushed-some new_kind h e spec makes.kind

  pub commits-still : (s : ℕ) → commits (h ++ e ∷ []) s ≡ commits h s
  commits-still s = pushed-none (change_of s) h e (makes.no_change s)

  pub recorded-still : (s : ℕ) → recorded (h ++ e ∷ []) s ≡ recorded h s
  recorded-still s = pushed-none (read_of s) h e (makes.no_read s)

module _ (h : List Entry) (e : Entry) (s : ℕ) (c : Change) (read : Option Reads) (makes : MakesVersion e s c read) where
  pub ids-still : ids (h ++ e ∷ []) ≡ ids h
  ids-still = pushed-none new_id h e makes.no_id

  pub kinds-still : kinds (h ++ e ∷ []) ≡ kinds h
  kinds-still = pushed-none new_kind h e makes.no_kind

  pub commits-more : commits (h ++ e ∷ []) s ≡ commits h s ++ c ∷ []
  commits-more = pushed-some (change_of s) h e c makes.changes

  pub recorded-more : recorded (h ++ e ∷ []) s ≡ recorded h s ++ read ∷ []
  recorded-more = pushed-some (read_of s) h e read makes.reads

  pub commits-other : (stream : ℕ) → (s ≡ stream → ⊥) → commits (h ++ e ∷ []) stream ≡ commits h stream
  commits-other stream other = pushed-none (change_of stream) h e (makes.no_other_change stream other)

  pub recorded-other : (stream : ℕ) → (s ≡ stream → ⊥) → recorded (h ++ e ∷ []) stream ≡ recorded h stream
  recorded-other stream other = pushed-none (read_of stream) h e (makes.no_other_read stream other)

module _ (h : List Entry) (e : Entry) (s first : ℕ) (retires : RetiresVersions e s first) where
  pub ids-kept : ids (h ++ e ∷ []) ≡ ids h
  ids-kept = pushed-none new_id h e retires.no_id

  pub kinds-kept : kinds (h ++ e ∷ []) ≡ kinds h
  kinds-kept = pushed-none new_kind h e retires.no_kind

  pub commits-kept : (stream : ℕ) → commits (h ++ e ∷ []) stream ≡ commits h stream
  commits-kept stream = pushed-none (change_of stream) h e (retires.no_change stream)

  pub recorded-kept : (stream : ℕ) → recorded (h ++ e ∷ []) stream ≡ recorded h stream
  recorded-kept stream = pushed-none (read_of stream) h e (retires.no_read stream)

-- ---- what each entry makes

pub create-makes : (id : ℕ) → MakesStream (Create id) id None
create-makes id = record { named = refl; kind = refl; no_change = λ stream. refl; no_read = λ stream. refl; no_first = λ stream. refl }

pub define-makes : (id : ℕ) (spec : Spec) → MakesStream (Define id spec) id (Some spec)
define-makes id spec = record { named = refl; kind = refl; no_change = λ stream. refl; no_read = λ stream. refl; no_first = λ stream. refl }

pub commit-makes : (s : ℕ) (cut : List RangeValue) (added : List Point) → MakesVersion (Commit s cut added) s (change cut added) None
commit-makes s cut added = record {
  no_id = refl;
  no_kind = refl;
  changes = ap (λ t. cond t (Some (change cut added)) None) (eq-eqb s s refl);
  reads = ap {A = Bool} {B = Option (Option Reads)} (λ t. cond t (Some None) None) (eq-eqb s s refl);
  no_other_change = λ other ne. ap (λ t. cond t (Some (change cut added)) None) (ne_eqb s other ne);
  no_other_read = λ other ne. ap {A = Bool} {B = Option (Option Reads)} (λ t. cond t (Some None) None) (ne_eqb s other ne);
  no_first = λ other. refl;
}

pub distillate-makes : (s : ℕ) (cut : List RangeValue) (added : List Point) (r : Reads) → MakesVersion (Distillate s cut added r) s (change cut added) (Some r)
distillate-makes s cut added r = record {
  no_id = refl;
  no_kind = refl;
  changes = ap (λ t. cond t (Some (change cut added)) None) (eq-eqb s s refl);
  reads = ap (λ t. cond t (Some (Some r)) None) (eq-eqb s s refl);
  no_other_change = λ other ne. ap (λ t. cond t (Some (change cut added)) None) (ne_eqb s other ne);
  no_other_read = λ other ne. ap (λ t. cond t (Some (Some r)) None) (ne_eqb s other ne);
  no_first = λ other. refl;
}

pub retire-retires : (s first : ℕ) → RetiresVersions (Retire s first) s first
retire-retires s first = record {
  no_id = refl;
  no_kind = refl;
  no_change = λ other. refl;
  no_read = λ other. refl;
  leaves = ap (λ t. cond t (Some first) None) (eq-eqb s s refl);
  no_other_first = λ other ne. ap (λ t. cond t (Some first) None) (ne_eqb s other ne);
}

-- ---- the places of ids

-- A place is below the number of ids.
pub place-low : (xs : List ℕ) (id n : ℕ) → place_of xs id ≡ Some n → n < length xs
place-low xs id n at = let low = position-low (nat_eq id) 0 xs n at in omega arith

pub place-any : (xs : List ℕ) (id : ℕ) → is_some (place_of xs id) ≡ list_any (nat_eq id) xs
place-any xs id = position-any (nat_eq id) 0 xs

pub none_from : (o : Option ℕ) → is_some o ≡ false → o ≡ None
none_from None is = refl
none_from (Some n) is = absurd (cc)

put-is : (i x : ℕ) (f : ℕ → Option ℕ) (j : ℕ) → put_at i x f j ≡ cond (j == i) (Some x) (f j)
unfolding put_at
put-is i x f j = refl

module _ (xs : List ℕ) (id : ℕ) where
  place-push : (q : ℕ) → place_of (xs ++ id ∷ []) q ≡ sooner (place_of xs q) (cond (nat_eq q id) (Some (length xs)) None)
  place-push q =
      let from : 0 + length xs ≡ length xs = omega arith in
      position-push (nat_eq q) 0 xs id ∙ ap (λ (n : ℕ). sooner (place_of xs q) (cond (nat_eq q id) (Some n) None)) from

  place-new : place_of xs id ≡ None → place_of (xs ++ id ∷ []) id ≡ Some (length xs)
  place-new none =
      place-push id ∙ ap (λ (o : Option ℕ). sooner o (cond (nat_eq id id) (Some (length xs)) None)) none ∙ ap (λ t. cond t (Some (length xs)) None) (eq-eqb id id refl)

  place-other : (q : ℕ) → (q ≡ id → ⊥) → place_of (xs ++ id ∷ []) q ≡ place_of xs q
  place-other q other =
      let none : sooner (place_of xs q) None ≡ place_of xs q =
      elim (place_of xs q) as (λ o. sooner o None ≡ o) [ None ↦ refl | Some n ↦ refl ] in
      place-push q ∙ ap (λ t. sooner (place_of xs q) (cond t (Some (length xs)) None)) (ne_eqb q id other) ∙ none

  -- With the next place at a new id, the places are those with the id at the end.
  pub places-push : (f g : ℕ → Option ℕ) (number : ℕ) → number ≡ length xs → place_of xs id ≡ None → ((q : ℕ) → f q ≡ place_of xs q) → ((q : ℕ) → g q ≡ put_at id number f q) → (q : ℕ) → g q ≡ place_of (xs ++ id ∷ []) q
  places-push f g number last none are put q =
      elim (cases_eq q id) [
        | inl same ↦ put q ∙ put-is id number f q ∙ ap (λ t. cond t (Some number) (f q)) (eq-eqb q id same) ∙ ap {A = ℕ} {B = Option ℕ} Some last ∙ sym (place-new none) ∙ ap (place_of (xs ++ id ∷ [])) (sym same)
        | inr other ↦ put q ∙ put-is id number f q ∙ ap (λ t. cond t (Some number) (f q)) (ne_eqb q id other) ∙ are q ∙ sym (place-other q other)
      ]

-- ---- streams that the history does not have

pub none-in : {X : Type 0} (xs : List X) → length xs ≡ 0 → xs ≡ []
none-in [] none = refl
none-in (x ∷ xs) none = absurd (omega arith)

pub unknown-recorded : (h : List Entry) (s : ℕ) → Follows h → length (ids h) ≤ s → recorded h s ≡ []
unknown-recorded h s follows past = none-in (recorded h s) (length-recorded h s ∙ unknown h s follows past)

-- Without records of what was read each version has read none.
pub read-none : (rs : List (Option Reads)) → rs ≡ [] → (version : ℕ) → slice_index_or (None ∷ rs) version None ≡ None
read-none rs none zero = refl
read-none rs none (suc n) = ap (λ (l : List (Option Reads)). slice_index_or l n None) none

pub unknown-read : (h : List Entry) (s version : ℕ) → Follows h → length (ids h) ≤ s → read_by h s version ≡ None
unknown-read h s version follows past = read-none (recorded h s) (unknown-recorded h s follows past) version

-- None of their versions is retired.
pub unknown-earliest : (h : List Entry) (s : ℕ) → Follows h → length (ids h) ≤ s → earliest h s ≡ 0
unknown-earliest h s follows past = omega (arith, follows-past h s follows, unknown h s follows past)

pub unknown-spec : (h : List Entry) (s : ℕ) → length (ids h) ≤ s → spec_of h s ≡ None
unknown-spec h s past = get_or_past (kinds h) s None (omega (arith, length-kinds h))
