-- What an output of a history is planned from: the trees of its inputs, and the versions that it has read and is to read.
use Rattle.std.specs.Prelude.{◌≡◌, ℕ, ◌<◌, ◌≤◌, nat_le, Bool, true, ◌&&◌, cond, List, length, Option, Some, None}
use Rattle.std.proofs.Common.{refl, sym, ◌∙◌, ap, subst, arith}
use Rattle.std.proofs.lemmas.Bool.{lt-ltb, lt-leb, ltb-true, leb-true, and_parts, and_from}
use Rattle.std.proofs.lemmas.Option.{same_Some}
use Rattle.btr_tree.specs.History as tree
use Rattle.btr_tree.specs.Root.{TreeValue, IsTree}
use Rattle.btr_hist.specs.declared.entry.Entry.{Entry}
use Rattle.btr_hist.specs.declared.kernel.Spec.{Spec}
use Rattle.btr_hist.specs.declared.kernel.Reads.{Reads}
use Rattle.btr_hist.specs.Kernel.{is_good}
use Rattle.btr_hist.specs.History.{ids, spec_of, latest, bag, reads, latest_reads, second_points, inputs_at}
use Rattle.btr_hist.specs.Legal.{is_stream, second_is_stream, has_inputs, may_read_second, may_read, Follows}
use Rattle.btr_hist.proofs.ReadsLemmas.{AreThere, there-second, may_read-there, may_read-latest}
use Rattle.btr_hist.proofs.OutputLemmas.{follows-output}
use Rattle.btr_streams.specs.Past.{commits_to}
use Rattle.btr_streams.specs.Board.{IsTreeOf, latest_of}
use Rattle.btr_streams.proofs.BoardTrees.{bag-commits_to, up_to-commits_to}
use Rattle.btr_distil.specs.Sight.{SightValue, IsInput, IsSecondInput, IsSightOf}
use Rattle.btr_plan.specs.Sight.{IsSightTo, IsSightAfter}

-- ---- the trees of an input

-- the trees of two versions of a stream are those of an input
pub input-trees : (h : List Entry) (stream v w : ℕ) (old new : TreeValue) → v ≤ w → w ≤ latest h stream → IsTreeOf h stream v old → IsTreeOf h stream w new → IsInput v old new (bag h stream v) (bag h stream w)
input-trees h stream v w old new le low was is =
    let back = up_to-commits_to h stream v w le low in
    record {
      past = commits_to h stream w;
      newer = is.tree;
      older = subst (λ (p : tree.Past). IsTree p old) (sym back) was.tree;
      was = sym (bag-commits_to h stream v) ∙ ap tree.bag (sym back);
      is = sym (bag-commits_to h stream w);
    }

-- a stream that is there has its latest version
pub latest-there : (h : List Entry) (stream : ℕ) → stream < length (ids h) → latest_of h stream ≡ Some (latest h stream)
latest-there h stream low = ap (λ (t : Bool). cond {A = Option ℕ} t None (Some (latest h stream))) (lt-leb (length (ids h)) stream low)

-- ---- the inputs of a spec

pub first-known : (h : List Entry) (spec : Spec) → has_inputs h spec ≡ true → spec.first < length (ids h)
first-known h spec has =
    ltb-true spec.first (length (ids h)) (and_parts (is_stream h spec.first) (second_is_stream h spec.second) has).0

pub second-known : (h : List Entry) (spec : Spec) (s : ℕ) → has_inputs h spec ≡ true → spec.second ≡ Some s → s < length (ids h)
second-known h spec s has is =
    let second : second_is_stream h spec.second ≡ true = (and_parts (is_stream h spec.first) (second_is_stream h spec.second) has).1 in
    ltb-true s (length (ids h)) (subst (λ (o : Option ℕ). second_is_stream h o ≡ true) is second)

seconds-known : (h : List Entry) (second : Option ℕ) → ((s : ℕ) → second ≡ Some s → s < length (ids h)) → second_is_stream h second ≡ true
seconds-known h None known = refl
seconds-known h (Some s) known = lt-ltb s (length (ids h)) (known s refl)

-- the inputs of an output are streams
pub inputs-known : (h : List Entry) (stream : ℕ) (spec : Spec) → Follows h → spec_of h stream ≡ Some spec → has_inputs h spec ≡ true
inputs-known h stream spec follows is =
    let defined = (follows-output h stream spec follows is).defined in
    and_from (is_stream h spec.first) (second_is_stream h spec.second) (lt-ltb spec.first (length (ids h)) defined.first) (seconds-known h spec.second defined.second)

-- its spec is good
pub spec-good : (h : List Entry) (stream : ℕ) (spec : Spec) → Follows h → spec_of h stream ≡ Some spec → is_good spec ≡ true
spec-good h stream spec follows is = (follows-output h stream spec follows is).defined.good

-- the inputs have the versions that its latest version has read
pub reads-there : (h : List Entry) (stream : ℕ) (spec : Spec) → Follows h → spec_of h stream ≡ Some spec → AreThere h spec (reads h stream spec (latest h stream))
reads-there h stream spec follows is = (follows-output h stream spec follows is).there (latest h stream) (omega arith)

-- ---- the versions that are read

-- a version of the second input that may be read is no earlier than what was read
second_may-low : (h : List Entry) (o r q : Option ℕ) (s v w : ℕ) → o ≡ Some s → r ≡ Some v → q ≡ Some w → may_read_second h o r q ≡ true → v ≤ w
second_may-low h o r q s v w some before version may =
    let there : may_read_second h (Some s) (Some v) (Some w) ≡ true =
    subst (λ (a : Option ℕ). may_read_second h (Some s) (Some v) a ≡ true) version
    (subst (λ (a : Option ℕ). may_read_second h (Some s) a q ≡ true) before
    (subst (λ (a : Option ℕ). may_read_second h a r q ≡ true) some may)) in
    leb-true v w (and_parts (nat_le v w) (nat_le w (latest h s)) there).0

module _ (h : List Entry) (stream : ℕ) (spec : Spec) (follows : Follows h) (output : spec_of h stream ≡ Some spec) (old new : Reads) (has_read : old ≡ reads h stream spec (latest h stream)) (may : may_read h spec (reads h stream spec (latest h stream)) new ≡ true) where
  may_old : may_read h spec old new ≡ true
  may_old = subst (λ (r : Reads). may_read h spec r new ≡ true) (sym has_read) may

  new_there : AreThere h spec new
  new_there = may_read-there h spec old new may_old

  pub first-last : new.first ≤ latest h spec.first
  first-last = new_there.first

  pub first-low : old.first ≤ new.first
  first-low =
      leb-true old.first new.first (and_parts (nat_le old.first new.first) (nat_le new.first (latest h spec.first) && may_read_second h spec.second old.second new.second) may_old).0

  pub second-last : (s w : ℕ) → spec.second ≡ Some s → new.second ≡ Some w → w ≤ latest h s
  second-last s w some version = there-second h spec new s w new_there some version

  pub second-low : (s v w : ℕ) → spec.second ≡ Some s → old.second ≡ Some v → new.second ≡ Some w → v ≤ w
  second-low s v w some before version =
      let parts = and_parts (nat_le old.first new.first) (nat_le new.first (latest h spec.first) && may_read_second h spec.second old.second new.second) may_old in
      let second = (and_parts (nat_le new.first (latest h spec.first)) (may_read_second h spec.second old.second new.second) parts.1).1 in
      second_may-low h spec.second old.second new.second s v w some before version second

-- ---- the second input

-- without a second input there are no points
pub second-none : (h : List Entry) (o r q : Option ℕ) → o ≡ None → r ≡ None → q ≡ None → IsSecondInput r None None (second_points h o r) (second_points h o q)
second-none h None None None e f g = (refl, refl)
second-none h None None (Some w) e f g = absurd (cc)
second-none h None (Some v) q e f g = absurd (cc)
second-none h (Some s) r q e f g = absurd (cc)

pub second-some : (h : List Entry) (o r q : Option ℕ) (s v w : ℕ) (old new : TreeValue) → o ≡ Some s → r ≡ Some v → q ≡ Some w → IsInput v old new (bag h s v) (bag h s w) → IsSecondInput r (Some old) (Some new) (second_points h o r) (second_points h o q)
second-some h o r q s v w old new e f g input =
    subst (λ (a : Option ℕ). IsSecondInput r (Some old) (Some new) (second_points h a r) (second_points h a q)) (sym e)
    (subst (λ (a : Option ℕ). IsSecondInput a (Some old) (Some new) (second_points h (Some s) a) (second_points h (Some s) q)) (sym f)
    (subst (λ (a : Option ℕ). IsSecondInput (Some v) (Some old) (Some new) (bag h s v) (second_points h (Some s) a)) (sym g) input))

-- ---- the sight

-- what is seen of an output, from the trees of its inputs
pub sight-one : (h : List Entry) (stream : ℕ) (new : Reads) (s : SightValue) → spec_of h stream ≡ Some s.spec → s.stream ≡ stream → s.base ≡ latest h stream → s.old_reads ≡ reads h stream s.spec (latest h stream) → s.new_reads ≡ new → IsInput s.old_reads.first s.old_first s.new_first (bag h s.spec.first s.old_reads.first) (bag h s.spec.first s.new_reads.first) → IsSecondInput s.old_reads.second s.old_second s.new_second (second_points h s.spec.second s.old_reads.second) (second_points h s.spec.second s.new_reads.second) → IsSightTo h stream new s
sight-one h stream new s output same_stream same_base has_read is_to_read first second = record {
  output = output;
  same_stream = same_stream;
  same_base = same_base;
  has_read = has_read;
  is_to_read = is_to_read;
  inputs =
      subst (λ (r : Reads). IsSightOf s (inputs_at h s.spec r) (inputs_at h s.spec new)) has_read
      (subst (λ (r : Reads). IsSightOf s (inputs_at h s.spec s.old_reads) (inputs_at h s.spec r)) is_to_read (record { first = first; second = second }));
}

-- the latest versions may be read
pub latest-may : (h : List Entry) (stream : ℕ) (spec : Spec) → Follows h → spec_of h stream ≡ Some spec → may_read h spec (reads h stream spec (latest h stream)) (latest_reads h spec) ≡ true
latest-may h stream spec follows output =
    may_read-latest h spec (reads h stream spec (latest h stream)) (reads-there h stream spec follows output)

-- a sight to the latest versions
pub sight-latest : (h : List Entry) (stream : ℕ) (spec : Spec) (s : SightValue) → spec_of h stream ≡ Some spec → IsSightTo h stream (latest_reads h spec) s → IsSightAfter h stream s
sight-latest h stream spec s output sight =
    subst (λ (a : Spec). IsSightTo h stream (latest_reads h a) s) (same_Some spec s.spec (sym output ∙ sight.output)) sight
