-- Lemmas on the streams of levels: each output is in one level, once, and its inputs are in lower ones.
use Rattle.std.specs.Prelude.{◌≡◌, ◌⊎◌, ℕ, ◌+◌, ◌-◌, ◌<◌, ◌≤◌, ◌==◌, Bool, true, false, max, List, [], ◌∷◌, ◌++◌, length, take, cond, map, slice_index_or}
use Rattle.std.specs.Prelude.{Option, Some, None}
use Rattle.std.specs.List.{AllByRecursion}
use Rattle.std.proofs.Common.{zero, suc, refl, sym, ap, ◌∙◌, subst, arith, inl, inr, length-append, append_assoc, append-nil}
use Rattle.std.proofs.lemmas.Bool.{eq-eqb, eqb-true, cases_lt}
use Rattle.std.proofs.lemmas.List.{get_or_past, get_or-append-add, get_or-take, take_more, length-take-le, ext_get_or}
use Rattle.std.proofs.Math.Seq.{take-append_seam}
use Rattle.btr_hist.specs.declared.entry.Entry.{Entry}
use Rattle.btr_hist.specs.declared.kernel.Spec.{Spec}
use Rattle.btr_hist.specs.History.{ids, kinds, spec_of}
use Rattle.btr_hist.specs.Legal.{Follows}
use Rattle.btr_hist.proofs.HistoryLemmas.{length-kinds}
use Rattle.btr_hist.proofs.VersionLemmas.{from_end, kind-push, spec_of-known}
use Rattle.btr_hist.proofs.AcceptedLemmas.{new-defined}
use Rattle.btr_work.specs.Levels.{second_level, next_level, levels_from, levels_of, places_from, streams_at, outputs_from, outputs, AreGroups}

-- ---- members

-- The number is in the list.
abbrev pub IsIn : ℕ → List ℕ → Type 0
IsIn x [] = ⊥
IsIn x (y ∷ ys) = (x ≡ y) ⊎ IsIn x ys

-- No number is in the list twice.
abbrev pub Distinct : List ℕ → Type 0
Distinct [] = Unit {0}
Distinct (x ∷ xs) = (IsIn x xs → ⊥) × Distinct xs

-- The number is in one of the lists.
abbrev pub IsInAny : ℕ → List (List ℕ) → Type 0
IsInAny x [] = ⊥
IsInAny x (l ∷ ls) = IsIn x l ⊎ IsInAny x ls

pub in-get : (xs : List ℕ) (k x : ℕ) → k < length xs → slice_index_or xs k 0 ≡ x → IsIn x xs
in-get [] k x low is = absurd (omega arith)
in-get (y ∷ xs) zero x low is = inl (sym is)
in-get (y ∷ xs) (suc k) x low is = inr (in-get xs k x (omega arith) is)

pub in_any-at : (x : ℕ) (ls : List (List ℕ)) (k : ℕ) → IsIn x (slice_index_or ls k []) → IsInAny x ls
in_any-at x [] k is = absurd is
in_any-at x (l ∷ ls) zero is = inl is
in_any-at x (l ∷ ls) (suc k) is = inr (in_any-at x ls k is)

-- What holds of each member holds of the whole list.
pub all-members : {A : Type 0} (P : A → Type 0) (f : ℕ → A) (xs : List ℕ) → ((x : ℕ) → IsIn x xs → P (f x)) → AllByRecursion P (map f xs)
all-members P f [] each = tt
all-members P f (x ∷ xs) each = (each x (inl refl), all-members P f xs (λ y is. each y (inr is)))

-- ---- the places of a number in a list

-- The number is a place of k in the list.
abbrev pub IsPlace : ℕ → ℕ → List ℕ → ℕ → Type 0
IsPlace p k ns x = (i : ℕ) × (x ≡ p + i) × (i < length ns) × (slice_index_or ns i 0 ≡ k)

place-later : (p k n : ℕ) (ns : List ℕ) (x : ℕ) → IsPlace (p + 1) k ns x → IsPlace p k (n ∷ ns) x
place-later p k n ns x r = (suc r.0, omega (arith, r.1), omega (arith, r.2), r.3)

place-here : (p k n : ℕ) (ns : List ℕ) (x : ℕ) → x ≡ p → n ≡ k → IsPlace p k (n ∷ ns) x
place-here p k n ns x at same = (0, omega (arith, at), omega arith, same)

place-cons : (p k n : ℕ) (ns : List ℕ) (x : ℕ) (b : Bool) → (b ≡ true → n ≡ k) → (IsIn x (places_from (p + 1) k ns) → IsPlace (p + 1) k ns x) → IsIn x (cond b (p ∷ places_from (p + 1) k ns) (places_from (p + 1) k ns)) → IsPlace p k (n ∷ ns) x
place-cons p k n ns x true same more (inl at) = place-here p k n ns x at (same refl)
place-cons p k n ns x true same more (inr rest) = place-later p k n ns x (more rest)
place-cons p k n ns x false same more is = place-later p k n ns x (more is)

pub place-at : (p k : ℕ) (ns : List ℕ) (x : ℕ) → IsIn x (places_from p k ns) → IsPlace p k ns x
place-at p k [] x is = absurd is
place-at p k (n ∷ ns) x is = place-cons p k n ns x (n == k) (eqb-true n k) (place-at (p + 1) k ns x) is

pub at-place : (p k : ℕ) (ns : List ℕ) (i : ℕ) → i < length ns → slice_index_or ns i 0 ≡ k → IsIn (p + i) (places_from p k ns)
at-place p k [] i low is = absurd (omega arith)
at-place p k (n ∷ ns) zero low is =
    let at : p + 0 ≡ p = omega arith in
    subst (λ (b : Bool). IsIn (p + 0) (cond b (p ∷ places_from (p + 1) k ns) (places_from (p + 1) k ns))) (sym (eq-eqb n k is)) (inl at)
at-place p k (n ∷ ns) (suc i) low is =
    let at : p + 1 + i ≡ p + suc i = omega arith in
    let rest = subst (λ x. IsIn x (places_from (p + 1) k ns)) at (at-place (p + 1) k ns i (omega arith) is) in
    elim (n == k) as (λ b. IsIn (p + suc i) (cond b (p ∷ places_from (p + 1) k ns) (places_from (p + 1) k ns))) [
      | true ↦ inr rest
      | false ↦ rest
    ]

places-distinct : (p k : ℕ) (ns : List ℕ) → Distinct (places_from p k ns)
places-distinct p k [] = tt
places-distinct p k (n ∷ ns) =
    elim (n == k) as (λ b. Distinct (cond b (p ∷ places_from (p + 1) k ns) (places_from (p + 1) k ns))) [
      | true ↦ ((λ is. let r = place-at (p + 1) k ns p is in absurd (omega (arith, r.1))), places-distinct (p + 1) k ns)
      | false ↦ places-distinct (p + 1) k ns
    ]

-- ---- graded lists

-- If the streams have these levels, the streams of the first list have the level `base`, those of the next the next one, and so on.
-- No stream is in a list twice.
abbrev pub Graded : List ℕ → ℕ → List (List ℕ) → Type 0
Graded levels base [] = Unit {0}
Graded levels base (group ∷ groups) =
    ((x : ℕ) → IsIn x group → slice_index_or levels x 0 ≡ base) × Distinct group × Graded levels (suc base) groups

graded : (levels : List ℕ) (base : ℕ) (groups : List (List ℕ)) → ((k : ℕ) → k < length groups → slice_index_or groups k [] ≡ streams_at levels (base + k)) → Graded levels base groups
graded levels base [] each = tt
graded levels base (group ∷ groups) each =
    let here : group ≡ streams_at levels (base + 0) = each 0 (omega arith) in
    let at : base + 0 ≡ base = omega arith in
    let here_level : (x : ℕ) → IsIn x group → slice_index_or levels x 0 ≡ base = λ x is.
    let r = place-at 0 (base + 0) levels x (subst (IsIn x) here is) in
    let place : x ≡ r.0 = omega (arith, r.1) in
    ap (λ i. slice_index_or levels i 0) place ∙ r.3 ∙ at in
    let next : (k : ℕ) → base + suc k ≡ suc base + k = λ k. omega arith in
    let rest = graded levels (suc base) groups (λ k low. each (suc k) (omega (arith, low)) ∙ ap (streams_at levels) (next k)) in
    (here_level, subst Distinct (sym here) (places-distinct 0 (base + 0) levels), rest)

-- The groups of levels are graded.
pub groups-graded : (levels : List ℕ) (groups : List (List ℕ)) → AreGroups levels groups → Graded levels 1 groups
groups-graded levels groups are = graded levels 1 groups (λ k low. are.each k ∙ ap (streams_at levels) (let e : k + 1 ≡ 1 + k = omega arith in e))

-- Each stream of graded lists has a level from `base` on.
pub graded-above : (levels : List ℕ) (base : ℕ) (groups : List (List ℕ)) (x : ℕ) → Graded levels base groups → IsInAny x groups → base ≤ slice_index_or levels x 0
graded-above levels base [] x is any = absurd any
graded-above levels base (group ∷ groups) x is (inl here) = omega (arith, is.0 x here)
graded-above levels base (group ∷ groups) x is (inr later) = omega (arith, graded-above levels (suc base) groups x is.2 later)

-- ---- the levels of the streams of a history

levels-begin : (levels : List ℕ) (kinds : List (Option Spec)) → (rest : List ℕ) × (levels_from levels kinds ≡ levels ++ rest)
levels-begin levels [] = ([], sym (append-nil levels))
levels-begin levels (kind ∷ kinds) =
    let v = next_level levels kind in
    let r = levels-begin (levels ++ v ∷ []) kinds in
    (v ∷ r.0, r.1 ∙ append_assoc levels (v ∷ []) r.0)

level-at : (levels : List ℕ) (kinds : List (Option Spec)) (i : ℕ) → i < length kinds → slice_index_or (levels_from levels kinds) (length levels + i) 0 ≡ next_level (take (length levels + i) (levels_from levels kinds)) (slice_index_or kinds i None)
level-at levels [] i low = absurd (omega arith)
level-at levels (kind ∷ kinds) zero low =
    let v = next_level levels kind in
    let r = levels-begin (levels ++ v ∷ []) kinds in
    let is : levels_from (levels ++ v ∷ []) kinds ≡ levels ++ (v ∷ r.0) = r.1 ∙ append_assoc levels (v ∷ []) r.0 in
    let n : length levels + 0 ≡ length levels = omega arith in
    ap (λ l. slice_index_or l (length levels + 0) 0) is
    ∙ get_or-append-add levels (v ∷ r.0) 0 0
    ∙ sym (ap (λ l. next_level (take (length levels + 0) l) kind) is ∙ ap (λ m. next_level (take m (levels ++ (v ∷ r.0))) kind) n ∙ ap (λ l. next_level l kind) (take-append_seam levels (v ∷ r.0)))
level-at levels (kind ∷ kinds) (suc i) low =
    let v = next_level levels kind in
    let n : length (levels ++ v ∷ []) + i ≡ length levels + suc i = omega (arith, length-append levels (v ∷ [])) in
    subst (λ m. slice_index_or (levels_from (levels ++ v ∷ []) kinds) m 0 ≡ next_level (take m (levels_from (levels ++ v ∷ []) kinds)) (slice_index_or kinds i None)) n
    (level-at (levels ++ v ∷ []) kinds i (omega arith))

-- The level of a stream is the one after those before it.
pub level-of : (h : List Entry) (stream : ℕ) → stream < length (ids h) → slice_index_or (levels_of h) stream 0 ≡ next_level (take stream (levels_of h)) (spec_of h stream)
level-of h stream low =
    let n : 0 + stream ≡ stream = omega arith in
    subst (λ m. slice_index_or (levels_of h) m 0 ≡ next_level (take m (levels_of h)) (spec_of h stream)) n
    (level-at [] (kinds h) stream (omega (arith, low, length-kinds h)))

-- The inputs of an output were there before it.
pub record IsBefore (stream : ℕ) (spec : Spec) : Type 0 where
  pub first : spec.first < stream
  pub second : (input : ℕ) → spec.second ≡ Some input → input < stream

pub inputs-before : (h : List Entry) → Follows h → (stream : ℕ) (spec : Spec) → spec_of h stream ≡ Some spec → IsBefore stream spec
inputs-before h follows =
    from_end (λ h. (stream : ℕ) (spec : Spec) → spec_of h stream ≡ Some spec → IsBefore stream spec) h (λ stream spec output. absurd (cc))
    (λ n e at before stream spec output. elim (kind-push (take n h) e stream spec output) [
      | inl old ↦ before stream spec old
      | inr new ↦
          let defined = new-defined (take n h) e spec (follows n e at) new.1 in
          record { first = omega (arith, defined.first, new.0); second = λ input is. omega (arith, defined.second input is, new.0) }
    ])

second-lower : (levels : List ℕ) (stream : ℕ) (second : Option ℕ) (input : ℕ) → second ≡ Some input → input < stream → second_level (take stream levels) second ≡ slice_index_or levels input 0
second-lower levels stream None input is low = absurd (cc)
second-lower levels stream (Some other) input is low =
    let same : other ≡ input = cc in
    ap (λ s. slice_index_or (take stream levels) s 0) same ∙ get_or-take stream levels input 0 low

-- The inputs of an output have lower levels.
module _ (h : List Entry) (follows : Follows h) (stream : ℕ) (spec : Spec) (output : spec_of h stream ≡ Some spec) where
  level-is : slice_index_or (levels_of h) stream 0 ≡ max (slice_index_or (take stream (levels_of h)) spec.first 0) (second_level (take stream (levels_of h)) spec.second) + 1
  level-is = level-of h stream (spec_of-known h stream spec output) ∙ ap (next_level (take stream (levels_of h))) output

  pub first-lower : slice_index_or (levels_of h) spec.first 0 < slice_index_or (levels_of h) stream 0
  first-lower =
      let before = inputs-before h follows stream spec output in
      omega (arith, level-is, get_or-take stream (levels_of h) spec.first 0 before.first)

  pub second-below : (input : ℕ) → spec.second ≡ Some input → slice_index_or (levels_of h) input 0 < slice_index_or (levels_of h) stream 0
  second-below input is =
      let before = inputs-before h follows stream spec output in
      omega (arith, level-is, second-lower (levels_of h) stream spec.second input is (before.second input is))

  pub level-some : 0 < slice_index_or (levels_of h) stream 0
  level-some = omega (arith, level-is)

-- A place with a number above 0 is inside the list.
pub inside-some : (ns : List ℕ) (x : ℕ) → 0 < slice_index_or ns x 0 → x < length ns
inside-some ns x some =
    elim (cases_lt x (length ns)) [
      | inl low ↦ low
      | inr past ↦ absurd (omega (arith, get_or_past ns x 0 past))
    ]

-- ---- outputs

-- An output is one of the streams.
pub output-of : (p : ℕ) (kinds : List (Option Spec)) (x : ℕ) → IsIn x (outputs_from p kinds) → (i : ℕ) × (x ≡ p + i) × (spec : Spec) × (slice_index_or kinds i None ≡ Some spec)
output-of p [] x is = absurd is
output-of p (None ∷ kinds) x is =
    let r = output-of (p + 1) kinds x is in
    (suc r.0, omega (arith, r.1), r.2, r.3)
output-of p (Some spec ∷ kinds) x (inl here) = (0, omega (arith, here), spec, refl)
output-of p (Some spec ∷ kinds) x (inr later) =
    let r = output-of (p + 1) kinds x later in
    (suc r.0, omega (arith, r.1), r.2, r.3)

pub output-spec : (h : List Entry) (x : ℕ) → IsIn x (outputs h) → (spec : Spec) × (spec_of h x ≡ Some spec)
output-spec h x is =
    let r = output-of 0 (kinds h) x is in
    let at : r.0 ≡ x = omega (arith, r.1) in
    (r.2, subst (λ i. spec_of h i ≡ Some r.2) at r.3)

-- Each output is in one of the levels.
pub output-level : (h : List Entry) (groups : List (List ℕ)) → Follows h → AreGroups (levels_of h) groups → (x : ℕ) (spec : Spec) → spec_of h x ≡ Some spec → IsInAny x groups
output-level h groups follows are x spec output =
    let levels = levels_of h in
    let level = slice_index_or levels x 0 in
    let some : 0 < level = level-some h follows x spec output in
    let inside : x < length levels = inside-some levels x some in
    let here : IsIn (0 + x) (streams_at levels level) = at-place 0 level levels x inside refl in
    let at : 0 + x ≡ x = omega arith in
    let k : level - 1 + 1 ≡ level = omega arith in
    in_any-at x groups (level - 1)
    (subst (IsIn x) (sym (are.each (level - 1) ∙ ap (streams_at levels) k)) (subst (λ y. IsIn y (streams_at levels level)) at here))

-- The outputs of streams with one more.
pub outputs-snoc : (p : ℕ) (kinds : List (Option Spec)) (kind : Option Spec) → outputs_from p (kinds ++ kind ∷ []) ≡ outputs_from p kinds ++ outputs_from (p + length kinds) (kind ∷ [])
outputs-snoc p [] kind = ap (λ n. outputs_from n (kind ∷ [])) (let e : p ≡ p + 0 = omega arith in e)
outputs-snoc p (None ∷ kinds) kind =
    outputs-snoc (p + 1) kinds kind ∙ ap (λ n. outputs_from (p + 1) kinds ++ outputs_from n (kind ∷ [])) (let e : p + 1 + length kinds ≡ p + suc (length kinds) = omega arith in e)
outputs-snoc p (Some spec ∷ kinds) kind =
    ap (λ l. p ∷ l) (outputs-snoc (p + 1) kinds kind ∙ ap (λ n. outputs_from (p + 1) kinds ++ outputs_from n (kind ∷ [])) (let e : p + 1 + length kinds ≡ p + suc (length kinds) = omega arith in e))

pub outputs-few : (p : ℕ) (kind : Option Spec) → length (outputs_from p (kind ∷ [])) ≤ 1
outputs-few p None = omega arith
outputs-few p (Some spec) = omega arith

pub outputs-next : (kinds : List (Option Spec)) (n : ℕ) (kind : Option Spec) → n < length kinds → kind ≡ slice_index_or kinds n None → outputs_from 0 (take n kinds) ++ outputs_from n (kind ∷ []) ≡ outputs_from 0 (take (n + 1) kinds)
outputs-next kinds n kind inside is =
    let at : n ≡ 0 + length (take n kinds) = omega (arith, inside, length-take-le n kinds (omega (arith, inside))) in
    ap (λ k. outputs_from 0 (take n kinds) ++ outputs_from k (kind ∷ [])) at
    ∙ sym (outputs-snoc 0 (take n kinds) kind)
    ∙ ap (λ k. outputs_from 0 (take n kinds ++ k ∷ [])) is
    ∙ ap (outputs_from 0) (sym (take_more kinds n None inside))

-- Each stream has a level.
pub levels-length : (levels : List ℕ) (ks : List (Option Spec)) → length (levels_from levels ks) ≡ length levels + length ks
levels-length levels [] = omega arith
levels-length levels (kind ∷ ks) =
    let rest = levels-length (levels ++ next_level levels kind ∷ []) ks in
    omega (arith, rest, length-append levels (next_level levels kind ∷ []))

-- There is one list of the groups of levels.
module _ (levels : List ℕ) (a b : List (List ℕ)) (in_a : AreGroups levels a) (in_b : AreGroups levels b) where
  same-at : (k : ℕ) → slice_index_or a k [] ≡ slice_index_or b k []
  same-at k = in_a.each k ∙ sym (in_b.each k)

  no-longer : length b < length a → ⊥
  no-longer more =
      let some = in_a.some (length b) more in
      let none = same-at (length b) ∙ get_or_past b (length b) [] (omega arith) in
      absurd (omega (arith, some, ap (λ (l : List ℕ). length l) none))

pub groups-unique : (levels : List ℕ) (a b : List (List ℕ)) → AreGroups levels a → AreGroups levels b → a ≡ b
groups-unique levels a b in_a in_b =
    elim (cases_lt (length a) (length b)) [
      | inl less ↦ absurd (no-longer levels b a in_b in_a less)
      | inr more ↦ elim (cases_lt (length b) (length a)) [
        | inl longer ↦ absurd (no-longer levels a b in_a in_b longer)
        | inr short ↦ ext_get_or [] a b (omega (arith, more, short)) (λ k low. same-at levels a b in_a in_b k)
      ]
    ]

-- A stream of a level above 0 is an output.
pub level-output : (h : List Entry) (stream : ℕ) → 0 < slice_index_or (levels_of h) stream 0 → (spec : Spec) × (spec_of h stream ≡ Some spec)
level-output h stream some = go (spec_of h stream) refl
  where
    go : (o : Option Spec) → spec_of h stream ≡ o → (spec : Spec) × (spec_of h stream ≡ Some spec)
    go (Some spec) is = (spec, is)
    go None is =
        let inside = inside-some (levels_of h) stream some in
        let long = levels-length [] (kinds h) in
        let level = level-of h stream (omega (arith, inside, long, length-kinds h)) ∙ ap (next_level (take stream (levels_of h))) is in
        absurd (omega (arith, some, level))

output-at : (p : ℕ) (kinds : List (Option Spec)) (i : ℕ) (spec : Spec) → slice_index_or kinds i None ≡ Some spec → IsIn (p + i) (outputs_from p kinds)
output-at p [] i spec is = absurd (cc)
output-at p (None ∷ kinds) zero spec is = absurd (cc)
output-at p (None ∷ kinds) (suc i) spec is =
    subst (λ n. IsIn n (outputs_from (p + 1) kinds)) (let e : p + 1 + i ≡ p + suc i = omega arith in e) (output-at (p + 1) kinds i spec is)
output-at p (Some other ∷ kinds) zero spec is = inl (let e : p + 0 ≡ p = omega arith in e)
output-at p (Some other ∷ kinds) (suc i) spec is =
    inr (subst (λ n. IsIn n (outputs_from (p + 1) kinds)) (let e : p + 1 + i ≡ p + suc i = omega arith in e) (output-at (p + 1) kinds i spec is))

-- A stream that has a spec is one of the outputs.
pub output-in : (h : List Entry) (output : ℕ) (spec : Spec) → spec_of h output ≡ Some spec → IsIn output (outputs h)
output-in h output spec is = subst (λ n. IsIn n (outputs h)) (let e : 0 + output ≡ output = omega arith in e) (output-at 0 (kinds h) output spec is)
