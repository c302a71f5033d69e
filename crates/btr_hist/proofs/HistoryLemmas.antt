-- Lemmas on histories that grow, and on the points of their versions.
use Rattle.std.specs.Prelude.{◌≡◌, ℕ, ◌+◌, ◌<◌, ◌≤◌, ◌==◌, nat_le, Bool, true, false, not, List, [], ◌∷◌, ◌++◌, length, take, drop, get_or, cond, slice_get, Option, Some, None}
use Rattle.std.specs.List.{AllByRecursion, cons_option}
use Rattle.std.specs.Option.{is_some}
use Rattle.std.proofs.Common.{suc, refl, sym, ap, ◌∙◌, arith, inl, inr, subst}
use Rattle.std.proofs.lemmas.List.{length-append, take-append-le, take-append-drop, take_all, get_or_append_left}
use Rattle.std.proofs.lemmas.List.Elements.{filter_map-append}
use Rattle.std.proofs.lemmas.Bool.{cases_lt, ne_eqb}
use Rattle.std.proofs.lemmas.Bool.Decides.{nat_tests}
use Rattle.std.proofs.lemmas.Option.{slice_get_within}
use Rattle.btr_base.specs.declared.point.Point.{Point}
use Rattle.btr_base.specs.Range.{covered}
use Rattle.btr_base.specs.Bag.{IsInOrder, outside, copies}
use Rattle.btr_base.proofs.ListLemmas.{each-append, each-filter, get-append, get_back, get_last}
use Rattle.btr_base.proofs.PointLemmas.{each-sort, sort-in_order, copies-sort, copies-append, copies-filter}
use Rattle.btr_hist.specs.declared.entry.Entry.{Entry}
use Rattle.btr_hist.specs.declared.entry.Entry.TheVariants.{Create, Commit, Define, Distillate, Retire}
use Rattle.btr_hist.specs.declared.kernel.Spec.{Spec}
use Rattle.btr_hist.specs.declared.kernel.Reads.{Reads}
use Rattle.btr_base.specs.Commit.{Change, after}
use Rattle.btr_hist.specs.History.{new_id, new_kind, change_of, read_of, ids, kinds, spec_of, is_output, replay, commits, latest, bag, recorded, read_by}
use Rattle.btr_hist.specs.Legal.{rejection, Allowed, Legal, Follows}
use Rattle.btr_hist.specs.Laws.{copies_after}
use Rattle.btr_hist.specs.Machine.{offered}
use Rattle.btr_hist.specs.declared.rejection.Rejection.TheVariants.{NoStream}
use Rattle.btr_hist.proofs.RejectionLemmas.{first_none, when_none}

-- ---- a history and what follows it

pub ids-append : (h more : List Entry) → ids (h ++ more) ≡ ids h ++ ids more
ids-append h more = filter_map-append new_id h more

pub kinds-append : (h more : List Entry) → kinds (h ++ more) ≡ kinds h ++ kinds more
kinds-append h more = filter_map-append new_kind h more

pub commits-append : (h more : List Entry) (stream : ℕ) → commits (h ++ more) stream ≡ commits h stream ++ commits more stream
commits-append h more stream = filter_map-append (change_of stream) h more

pub recorded-append : (h more : List Entry) (stream : ℕ) → recorded (h ++ more) stream ≡ recorded h stream ++ recorded more stream
recorded-append h more stream = filter_map-append (read_of stream) h more

pub latest-append : (h more : List Entry) (stream : ℕ) → latest (h ++ more) stream ≡ latest h stream + latest more stream
latest-append h more stream =
    ap (length {A = Change}) (commits-append h more stream) ∙ length-append (commits h stream) (commits more stream)

pub take_commits-append : (h more : List Entry) (stream version : ℕ) → version ≤ latest h stream → take version (commits (h ++ more) stream) ≡ take version (commits h stream)
take_commits-append h more stream version old =
    ap (λ (l : List Change). take version l) (commits-append h more stream) ∙ take-append-le version (commits h stream) (commits more stream) old

-- The points of a version never change.
pub bag-append : (h more : List Entry) (stream version : ℕ) → version ≤ latest h stream → bag (h ++ more) stream version ≡ bag h stream version
bag-append h more stream version old = ap (replay []) (take_commits-append h more stream version old)

-- ---- streams and their kinds

-- Each stream has one kind.
pub length-kinds : (h : List Entry) → length (kinds h) ≡ length (ids h)
length-kinds [] = refl
length-kinds (Create id ∷ h) = let rest = length-kinds h in omega arith
length-kinds (Define id spec ∷ h) = let rest = length-kinds h in omega arith
length-kinds (Commit s cut added ∷ h) = length-kinds h
length-kinds (Distillate s cut added reads ∷ h) = length-kinds h
length-kinds (Retire s first ∷ h) = length-kinds h

pub streams-append : (h more : List Entry) → length (ids (h ++ more)) ≡ length (ids h) + length (ids more)
streams-append h more = ap (length {A = ℕ}) (ids-append h more) ∙ length-append (ids h) (ids more)

-- The kind of a stream never changes.
pub spec_of-append : (h more : List Entry) (stream : ℕ) → stream < length (ids h) → spec_of (h ++ more) stream ≡ spec_of h stream
spec_of-append h more stream known =
    let long = length-kinds h in
    ap (λ (l : List (Option Spec)). get_or l stream None) (kinds-append h more) ∙ get_or_append_left (kinds h) (kinds more) None stream (omega arith)

pub is_output-append : (h more : List Entry) (stream : ℕ) → stream < length (ids h) → is_output (h ++ more) stream ≡ is_output h stream
is_output-append h more stream known = ap (λ (o : Option Spec). is_some o) (spec_of-append h more stream known)

-- ---- what the versions have read

recorded-more : (t : Bool) (r : Option Reads) (c : Change) (rs : List (Option Reads)) (cs : List Change) → length rs ≡ length cs → length (cons_option (cond t (Some r) None) rs) ≡ length (cons_option (cond t (Some c) None) cs)
recorded-more true r c rs cs same = omega arith
recorded-more false r c rs cs same = same

-- Each commit has one record of what it has read.
pub length-recorded : (h : List Entry) (stream : ℕ) → length (recorded h stream) ≡ latest h stream
length-recorded [] stream = refl
length-recorded (Create id ∷ h) stream = length-recorded h stream
length-recorded (Define id spec ∷ h) stream = length-recorded h stream
length-recorded (Commit s cut added ∷ h) stream = recorded-more (s == stream) None (record { cut = cut; added = added }) (recorded h stream) (commits h stream) (length-recorded h stream)
length-recorded (Distillate s cut added reads ∷ h) stream = recorded-more (s == stream) (Some reads) (record { cut = cut; added = added }) (recorded h stream) (commits h stream) (length-recorded h stream)
length-recorded (Retire s first ∷ h) stream = length-recorded h stream

-- What a version has read never changes.
pub read_by-append : (h more : List Entry) (stream version : ℕ) → version ≤ latest h stream → read_by (h ++ more) stream version ≡ read_by h stream version
read_by-append h more stream version old =
    let long = length-recorded h stream in
    ap (λ (l : List (Option Reads)). get_or (None ∷ l) version None) (recorded-append h more stream) ∙ get_or_append_left (None ∷ recorded h stream) (recorded more stream) None version (omega arith)

-- ---- some commits and others after them

pub replay-append : (b : List Point) (cs ds : List Change) → replay b (cs ++ ds) ≡ replay (replay b cs) ds
replay-append b [] ds = refl
replay-append b (c ∷ cs) ds = replay-append (after b c) cs ds

-- The latest version.
pub bag-latest : (h : List Entry) (stream : ℕ) → bag h stream (latest h stream) ≡ replay [] (commits h stream)
bag-latest h stream = ap (replay []) (take_all (latest h stream) (commits h stream) (omega arith))

-- Each version is in order.
pub replay-in_order : (b : List Point) (cs : List Change) → IsInOrder b → IsInOrder (replay b cs)
replay-in_order b [] h = h
replay-in_order b (c ∷ cs) h = replay-in_order (after b c) cs (sort-in_order (outside b c.cut ++ c.added))

pub bag-in_order : (h : List Entry) (stream version : ℕ) → IsInOrder (bag h stream version)
bag-in_order h stream version = replay-in_order [] (take version (commits h stream)) tt

-- ---- what holds of all points

pub each-after : (P : Point → Type 0) (b : List Point) (c : Change) → AllByRecursion P b → AllByRecursion P c.added → AllByRecursion P (after b c)
each-after P b c h k =
    each-sort P (outside b c.cut ++ c.added) (each-append P (outside b c.cut) c.added (each-filter P (λ p. not (covered c.cut p.time)) b h) k)

-- ---- how often a version contains a point

pub copies-commit : (p : Point) (b : List Point) (c : Change) → copies p (after b c) ≡ cond (covered c.cut p.time) 0 (copies p b) + copies p c.added
copies-commit p b c =
    let sorted = copies-sort p (outside b c.cut ++ c.added) in
    let both = copies-append p (outside b c.cut) c.added in
    let kept = copies-filter (λ q. not (covered c.cut q.time)) p b in
    let which : cond (not (covered c.cut p.time)) (copies p b) 0 ≡ cond (covered c.cut p.time) 0 (copies p b) =
    elim (covered c.cut p.time) as (λ t. cond (not t) (copies p b) 0 ≡ cond t 0 (copies p b)) [
      | true ↦ refl
      | false ↦ refl
    ] in
    sorted ∙ both ∙ ap (λ (n : ℕ). n + copies p c.added) (kept ∙ which)

pub copies-replay : (p : Point) (b : List Point) (cs : List Change) → copies p (replay b cs) ≡ copies_after p (copies p b) cs
copies-replay p b [] = refl
copies-replay p b (c ∷ cs) =
    copies-replay p (after b c) cs ∙ ap (λ (n : ℕ). copies_after p n cs) (copies-commit p b c)

-- ---- what holds of each entry after those before it

abbrev EachAfter : (List Entry → Entry → Type 0) → List Entry → Type 0
EachAfter A h = (n : ℕ) (e : Entry) → slice_get h n ≡ Some e → A (take n h) e

after-none : (A : List Entry → Entry → Type 0) → EachAfter A []
after-none A n e at = absurd (omega (arith, slice_get_within {A = Entry} [] n e at))

after-prefix : (A : List Entry → Entry → Type 0) (h more : List Entry) → EachAfter A (h ++ more) → EachAfter A h
after-prefix A h more each n e at =
    let low = slice_get_within h n e at in
    let same : take n (h ++ more) ≡ take n h = take-append-le n h more (omega arith) in
    subst (λ l. A l e) same (each n e (get-append h more n e at))

after-last : (A : List Entry → Entry → Type 0) (h : List Entry) (e : Entry) → EachAfter A (h ++ e ∷ []) → A h e
after-last A h e each =
    let same : take (length h) (h ++ e ∷ []) ≡ h = take-append-le (length h) h (e ∷ []) (omega arith) ∙ take_all (length h) h (omega arith) in
    subst (λ l. A l e) same (each (length h) e (get_last h e))

after-push : (A : List Entry → Entry → Type 0) (h : List Entry) (e : Entry) → EachAfter A h → A h e → EachAfter A (h ++ e ∷ [])
after-push A h e each last n f at =
    let within = slice_get_within (h ++ e ∷ []) n f at in
    let long = length-append h (e ∷ []) in
    elim (cases_lt n (length h)) [
      | inl low ↦
          let same : take n (h ++ e ∷ []) ≡ take n h = take-append-le n h (e ∷ []) (omega arith) in
          subst (λ l. A l f) (sym same) (each n f (get_back h (e ∷ []) n f low at))
      | inr high ↦
          let end : n ≡ length h = omega arith in
          let same : take n (h ++ e ∷ []) ≡ h = ap (λ (i : ℕ). take i (h ++ e ∷ [])) end ∙ take-append-le (length h) h (e ∷ []) (omega arith) ∙ take_all (length h) h (omega arith) in
          let other : slice_get (h ++ e ∷ []) n ≡ Some e = ap (λ (i : ℕ). slice_get (h ++ e ∷ []) i) end ∙ get_last h e in
          let entry : f ≡ e = cc in
          subst (λ l. A l f) (sym same) (subst (λ g. A h g) (sym entry) last)
    ]

-- ---- legal histories

pub legal-none : Legal []
legal-none = after-none Allowed

-- A prefix of a legal history is legal.
pub legal-prefix : (h more : List Entry) → Legal (h ++ more) → Legal h
legal-prefix h more legal = after-prefix Allowed h more legal

-- The last entry of a legal history is allowed after the others.
pub legal-last : (h : List Entry) (e : Entry) → Legal (h ++ e ∷ []) → Allowed h e
legal-last h e legal = after-last Allowed h e legal

-- A history stays legal with an entry that is allowed.
pub legal-push : (h : List Entry) (e : Entry) → Legal h → Allowed h e → Legal (h ++ e ∷ [])
legal-push h e legal allowed = after-push Allowed h e legal allowed

-- What a user may commit is allowed.
pub allowed-of_offered : (h : List Entry) (e : Entry) → offered h e ≡ None → Allowed h e
allowed-of_offered h (Create id) accepted = record { accepted = accepted; computed = tt }
allowed-of_offered h (Define id spec) accepted = record { accepted = accepted; computed = tt }
allowed-of_offered h (Commit s cut added) accepted = record { accepted = accepted; computed = tt }
allowed-of_offered h (Distillate s cut added reads) accepted = absurd (cc)
allowed-of_offered h (Retire s first) accepted = record { accepted = accepted; computed = tt }

-- ---- histories of which each entry is accepted

abbrev Accepted : List Entry → Entry → Type 0
Accepted h e = rejection h e ≡ None

pub follows-none : Follows []
follows-none = after-none Accepted

pub follows-prefix : (h more : List Entry) → Follows (h ++ more) → Follows h
follows-prefix h more follows = after-prefix Accepted h more follows

pub follows-last : (h : List Entry) (e : Entry) → Follows (h ++ e ∷ []) → rejection h e ≡ None
follows-last h e follows = after-last Accepted h e follows

pub follows-push : (h : List Entry) (e : Entry) → Follows h → rejection h e ≡ None → Follows (h ++ e ∷ [])
follows-push h e follows accepted = after-push Accepted h e follows accepted

-- Each entry of a legal history is accepted.
pub legal-follows : (h : List Entry) → Legal h → Follows h
legal-follows h legal n e at = (legal n e at).accepted

-- ---- numbers that are not those of streams

-- A history has no fewer streams than before.
pub streams-take : (n : ℕ) (h : List Entry) → length (ids (take n h)) ≤ length (ids h)
streams-take n h =
    let both = streams-append (take n h) (drop n h) in
    let whole = ap (λ (l : List Entry). length (ids l)) (take-append-drop n h) in
    omega arith

no_commits : (h : List Entry) (stream : ℕ) → ((n : ℕ) (e : Entry) → slice_get h n ≡ Some e → change_of stream e ≡ None) → commits h stream ≡ []
no_commits [] stream each = refl
no_commits (e ∷ h) stream each =
    ap (λ (o : Option Change). cons_option o (commits h stream)) (each 0 e refl) ∙ no_commits h stream (λ n f at. each (suc n) f at)

-- A commit of a stream that exists is none of a number that is not that of a stream.
other_stream : (h : List Entry) (s stream : ℕ) (c : Change) → length (ids h) ≤ stream → nat_le (length (ids h)) s ≡ false → cond (s == stream) (Some c) None ≡ None
other_stream h s stream c past there =
    let low : s < length (ids h) = grind (arith, nat_tests) in
    ap {A = Bool} {B = Option Change} (λ t. cond t (Some c) None) (ne_eqb s stream (λ e. omega arith))

accepted-other : (h : List Entry) (e : Entry) (stream : ℕ) → rejection h e ≡ None → length (ids h) ≤ stream → change_of stream e ≡ None
accepted-other h (Create id) stream accepted past = refl
accepted-other h (Define id spec) stream accepted past = refl
accepted-other h (Commit s cut added) stream accepted past =
    other_stream h s stream (record { cut = cut; added = added }) past (when_none (nat_le (length (ids h)) s) NoStream (first_none _ _ accepted))
accepted-other h (Distillate s cut added reads) stream accepted past =
    other_stream h s stream (record { cut = cut; added = added }) past (when_none (nat_le (length (ids h)) s) NoStream (first_none _ _ accepted))
accepted-other h (Retire s first) stream accepted past = refl

-- A number that is not that of a stream has no versions.
pub unknown : (h : List Entry) (stream : ℕ) → Follows h → length (ids h) ≤ stream → latest h stream ≡ 0
unknown h stream follows past =
    ap (length {A = Change}) (no_commits h stream (λ n e at.
    let fewer = streams-take n h in
    accepted-other (take n h) e stream (follows n e at) (omega arith)))
