-- Lemmas on entries that are accepted after a history: what is known of a commit, of a distillate, and of a new output.
use Rattle.std.specs.Prelude.{◌≡◌, ℕ, ◌<◌, ◌≤◌, ◌==◌, nat_le, nat_lt, true, false, not, List, [], ◌∷◌, length, Option, Some, None}
use Rattle.std.specs.List.{list_any, AllByRecursion}
use Rattle.std.specs.Option.{option_map, is_some}
use Rattle.std.proofs.Common.{refl, ap, subst}
use Rattle.std.proofs.lemmas.Bool.{leb-false, ltb-false, ltb-true, eqb-true, not-false, and_parts}
use Rattle.std.proofs.lemmas.Option.{cond_some}
use Rattle.btr_base.specs.declared.limits.TheConstants.{MAX_STREAMS, MAX_VERSIONS, MAX_POINTS}
use Rattle.btr_base.specs.declared.point.Point.{Point}
use Rattle.btr_base.specs.Point.{AreInDomain}
use Rattle.btr_base.specs.Commit.{Change}
use Rattle.btr_base.specs.Crowded.{crowded}
use Rattle.btr_hist.specs.declared.entry.Entry.{Entry}
use Rattle.btr_hist.specs.declared.entry.Entry.TheVariants.{Create, Commit, Define, Distillate, Retire}
use Rattle.btr_hist.specs.declared.kernel.Spec.{Spec}
use Rattle.btr_hist.specs.declared.kernel.Reads.{Reads}
use Rattle.btr_hist.specs.declared.rejection.Rejection.{Rejection}
use Rattle.btr_hist.specs.declared.rejection.Rejection.TheVariants.{NoStream, StreamExists, NotWritable, OutOfDomain, StreamLimit}
use Rattle.btr_hist.specs.declared.rejection.Rejection.TheVariants.{VersionLimit, BadSpec, Crowded}
use Rattle.btr_hist.specs.Kernel.{is_good}
use Rattle.btr_hist.specs.History.{new_kind, change_of, ids, spec_of, is_output, latest, reads}
use Rattle.btr_hist.specs.Legal.{first_some, when, first_out_of_domain, next_bag, change_rejection, points_rejection, is_stream, second_is_stream}
use Rattle.btr_hist.specs.Legal.{has_inputs, define_rejection, commit_rejection, takes_reads, may_read, distillate_change_rejection}
use Rattle.btr_hist.specs.Legal.{distillate_rejection, rejection}
use Rattle.btr_hist.proofs.RejectionLemmas.{first_none, rest_none, map_none, when_none, none_out_of_domain}

-- ---- what is known of an accepted commit

-- The stream exists, the added points lie in the domain, and the new version has at most as many points as a version can have.
pub record IsAccepted (h : List Entry) (stream : ℕ) (c : Change) : Type 0 where
  pub known : stream < length (ids h)
  pub in_domain : AreInDomain c.added
  pub bounded : length (next_bag h stream c) ≤ MAX_POINTS

-- None of the causes is there.
each_none : (os : List (Option Rejection)) → first_some os ≡ None → AllByRecursion (λ o. o ≡ None) os
each_none [] h = tt
each_none (o ∷ os) h = (first_none o os h, each_none os (rest_none o os h))

-- The causes for which a user's commit is rejected, in their order.
abbrev commit_causes : List Entry → ℕ → Change → List (Option Rejection)
commit_causes h stream c =
    when (nat_le (length (ids h)) stream) NoStream
    ∷ when (is_output h stream) NotWritable
    ∷ change_rejection c
    ∷ when (nat_le MAX_VERSIONS (latest h stream)) VersionLimit
    ∷ points_rejection (next_bag h stream c)
    ∷ []

-- The causes for which a distillate is rejected, in their order.
abbrev pub distillate_causes : List Entry → ℕ → Change → Reads → List (Option Rejection)
distillate_causes h stream c new =
    when (nat_le (length (ids h)) stream) NoStream
    ∷ when (not (takes_reads h stream (spec_of h stream) new)) NotWritable
    ∷ distillate_change_rejection c
    ∷ when (nat_le MAX_VERSIONS (latest h stream)) VersionLimit
    ∷ points_rejection (next_bag h stream c)
    ∷ []

-- The causes for which a new output is rejected, in their order.
abbrev define_causes : List Entry → ℕ → Spec → List (Option Rejection)
define_causes h id spec =
    when (not (has_inputs h spec)) NoStream
    ∷ when (list_any (λ x. id == x) (ids h)) StreamExists
    ∷ when (nat_le MAX_STREAMS (length (ids h))) StreamLimit
    ∷ when (not (is_good spec)) BadSpec
    ∷ []

points-bounded : (b : List Point) → points_rejection b ≡ None → length b ≤ MAX_POINTS
points-bounded b h =
    let each = each_none (option_map (λ start. Crowded start) (crowded b) ∷ when (nat_lt MAX_POINTS (length b)) _ ∷ []) h in
    ltb-false MAX_POINTS (length b) (when_none (nat_lt MAX_POINTS (length b)) _ each.1.0)

change-in_domain : (c : Change) → change_rejection c ≡ None → AreInDomain c.added
change-in_domain c h = none_out_of_domain c.added (map_none (λ (p : Point). OutOfDomain p.time) (first_out_of_domain c.added) (first_none _ _ h))

distillate-in_domain : (c : Change) → distillate_change_rejection c ≡ None → AreInDomain c.added
distillate-in_domain c h = none_out_of_domain c.added (map_none (λ (p : Point). OutOfDomain p.time) (first_out_of_domain c.added) (first_none _ _ h))

commit-accepted : (h : List Entry) (stream : ℕ) (c : Change) → commit_rejection h stream c ≡ None → IsAccepted h stream c
commit-accepted h stream c accepted =
    let each = each_none (commit_causes h stream c) accepted in
    record {
      known = leb-false (length (ids h)) stream (when_none (nat_le (length (ids h)) stream) NoStream each.0);
      in_domain = change-in_domain c each.1.1.0;
      bounded = points-bounded (next_bag h stream c) each.1.1.1.1.0;
    }

distillate-accepted : (h : List Entry) (stream : ℕ) (c : Change) (new : Reads) → distillate_rejection h stream c new ≡ None → IsAccepted h stream c
distillate-accepted h stream c new accepted =
    let each = each_none (distillate_causes h stream c new) accepted in
    record {
      known = leb-false (length (ids h)) stream (when_none (nat_le (length (ids h)) stream) NoStream each.0);
      in_domain = distillate-in_domain c each.1.1.0;
      bounded = points-bounded (next_bag h stream c) each.1.1.1.1.0;
    }

accepted-here : (h : List Entry) (s stream : ℕ) (d c : Change) → IsAccepted h s d → s ≡ stream → d ≡ c → IsAccepted h stream c
accepted-here h s stream d c ok same is = subst (λ x. IsAccepted h stream x) is (subst (λ t. IsAccepted h t d) same ok)

-- An accepted entry that is a commit of a stream.
pub change-accepted : (h : List Entry) (e : Entry) (stream : ℕ) (c : Change) → rejection h e ≡ None → change_of stream e ≡ Some c → IsAccepted h stream c
change-accepted h (Create id) stream c accepted is = absurd (cc)
change-accepted h (Define id spec) stream c accepted is = absurd (cc)
change-accepted h (Commit s cut added) stream c accepted is =
    let d : Change = record { cut = cut; added = added } in
    let at = cond_some (s == stream) d c is in
    accepted-here h s stream d c (commit-accepted h s d accepted) (eqb-true s stream at.0) at.1
change-accepted h (Distillate s cut added new) stream c accepted is =
    let d : Change = record { cut = cut; added = added } in
    let at = cond_some (s == stream) d c is in
    accepted-here h s stream d c (distillate-accepted h s d new accepted) (eqb-true s stream at.0) at.1
change-accepted h (Retire s first) stream c accepted is = absurd (cc)

-- ---- what is known of an accepted entry and an output

-- The entry is a distillate of the output, and it may read the versions that it reads.
pub record IsNext (h : List Entry) (stream : ℕ) (spec : Spec) (c : Change) (e : Entry) : Type 0 where
  pub new : Reads
  pub is : e ≡ Distillate stream c.cut c.added new
  pub may : may_read h spec (reads h stream spec (latest h stream)) new ≡ true

-- A commit of an output is a distillate.
pub output-next : (h : List Entry) (e : Entry) (stream : ℕ) (spec : Spec) (c : Change) → rejection h e ≡ None → spec_of h stream ≡ Some spec → change_of stream e ≡ Some c → IsNext h stream spec c e
output-next h (Create id) stream spec c accepted output is = absurd (cc)
output-next h (Define id s) stream spec c accepted output is = absurd (cc)
output-next h (Commit s cut added) stream spec c accepted output is =
    let d : Change = record { cut = cut; added = added } in
    let at = cond_some (s == stream) d c is in
    let same = eqb-true s stream at.0 in
    let each = each_none (commit_causes h s d) accepted in
    let plain : is_output h stream ≡ false = subst (λ t. is_output h t ≡ false) same (when_none (is_output h s) NotWritable each.1.0) in
    let not_plain : is_output h stream ≡ true = ap (λ (o : Option Spec). is_some o) output in
    absurd (cc)
output-next h (Distillate s cut added new) stream spec c accepted output is =
    let d : Change = record { cut = cut; added = added } in
    let at = cond_some (s == stream) d c is in
    let same = eqb-true s stream at.0 in
    let each = each_none (distillate_causes h s d new) accepted in
    let takes = not-false (takes_reads h s (spec_of h s) new) (when_none (not (takes_reads h s (spec_of h s) new)) NotWritable each.1.0) in
    let here : takes_reads h stream (spec_of h stream) new ≡ true = subst (λ t. takes_reads h t (spec_of h t) new ≡ true) same takes in
    record {
      new = new;
      is = λ i. Distillate (same i) (at.1 i).cut (at.1 i).added new;
      may = subst (λ (o : Option Spec). takes_reads h stream o new ≡ true) output here;
    }
output-next h (Retire s first) stream spec c accepted output is = absurd (cc)

-- The entry makes an output with a good spec, whose inputs are streams.
pub record IsDefined (h : List Entry) (spec : Spec) : Type 0 where
  pub good : is_good spec ≡ true
  pub first : spec.first < length (ids h)
  pub second : (s : ℕ) → spec.second ≡ Some s → s < length (ids h)

define-accepted : (h : List Entry) (id : ℕ) (spec : Spec) → define_rejection h id spec ≡ None → IsDefined h spec
define-accepted h id spec accepted =
    let each = each_none (define_causes h id spec) accepted in
    let inputs = and_parts (is_stream h spec.first) (second_is_stream h spec.second) (not-false (has_inputs h spec) (when_none (not (has_inputs h spec)) NoStream each.0)) in
    record {
      good = not-false (is_good spec) (when_none (not (is_good spec)) BadSpec each.1.1.1.0);
      first = ltb-true spec.first (length (ids h)) inputs.0;
      second = λ s is. ltb-true s (length (ids h)) (subst (λ (o : Option ℕ). second_is_stream h o ≡ true) is inputs.1);
    }

-- An accepted entry that makes an output.
pub new-defined : (h : List Entry) (e : Entry) (spec : Spec) → rejection h e ≡ None → new_kind e ≡ Some (Some spec) → IsDefined h spec
new-defined h (Create id) spec accepted is = absurd (cc)
new-defined h (Define id s) spec accepted is =
    let same : s ≡ spec = cc in
    subst (λ x. IsDefined h x) same (define-accepted h id s accepted)
new-defined h (Commit s cut added) spec accepted is = absurd (cc)
new-defined h (Distillate s cut added new) spec accepted is = absurd (cc)
new-defined h (Retire s first) spec accepted is = absurd (cc)

-- An entry that makes a stream is no commit.
pub new-silent : (e : Entry) (stream : ℕ) (kind : Option Spec) → new_kind e ≡ Some kind → change_of stream e ≡ None
new-silent (Create id) stream kind is = refl
new-silent (Define id s) stream kind is = refl
new-silent (Commit s cut added) stream kind is = absurd (cc)
new-silent (Distillate s cut added new) stream kind is = absurd (cc)
new-silent (Retire s first) stream kind is = absurd (cc)
