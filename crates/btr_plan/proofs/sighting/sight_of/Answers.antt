-- What is seen of an output: its inputs are there, and so is what it has read of them.
use Rattle.std.proofs.Common.{ap, sym, ◌∙◌, ◌≡◌, ◌<◌, ◌≤◌, true, refl, subst, ℕ, List, length, Option, None, Some}
use Rattle.std.proofs.lemmas.Bool.{both_ways}
use Rattle.btr_hist.specs.declared.kernel.Reads.{Reads}
use Rattle.btr_hist.specs.declared.entry.Entry.{Entry}
use Rattle.btr_hist.specs.declared.kernel.Spec.{Spec}
use Rattle.btr_hist.specs.History.{ids, spec_of, latest, reads, second_points}
use Rattle.btr_tree.specs.Root.{TreeValue}
use Rattle.btr_streams.specs.Snapshot.{IsSnapshotOf}
use Rattle.btr_distil.specs.Sight.{SightValue, IsSecondInput}
use Rattle.btr_plan.specs.Sight.{IsSightTo, MayRead}
use Rattle.btr_plan.proofs.SightLemmas.{inputs-known, spec-good, first-known, second-known, first-low, first-last, second-low, second-last}
use Rattle.btr_plan.proofs.SightLemmas.{second-none, second-some, sight-one}
use Rattle.btr_plan.proofs.sighting.sight_of.Goals.{In_ok-first, In-Some-Some-Some}
use Rattle.btr_plan.proofs.sighting.sight_of.Goals as goal

-- What was read of the inputs is what the latest version has read.
read_are : (h : List Entry) (stream version : ℕ) (spec : Spec) (old : Reads) → old ≡ reads h stream spec version → version ≡ latest h stream → old ≡ reads h stream spec (latest h stream)
read_are h stream version spec old is last = is ∙ ap (λ (v : ℕ). reads h stream spec v) last

-- The sight with these trees of the second input.
abbrev sight_with : In_ok-first → Option TreeValue → Option TreeValue → SightValue
sight_with c old_second new_second = record {
  spec = c.args.spec;
  stream = c.args.stream;
  base = c.args.version;
  old_reads = c.reads_of-old.result;
  new_reads = c.args.new;
  old_first = c.in_ok-first.first.old.now;
  new_first = c.in_ok-first.first.new.now;
  old_second = old_second;
  new_second = new_second;
}

-- It is that of the history if the trees of the second input are.
is_sight : (c : In_ok-first) (h : List Entry) → IsSnapshotOf h c.args.snapshot.now → spec_of h c.args.stream ≡ Some c.args.spec → c.args.version ≡ latest h c.args.stream → MayRead h c.args.stream c.args.spec c.args.new → (old_second new_second : Option TreeValue) → IsSecondInput c.reads_of-old.result.second old_second new_second (second_points h c.args.spec.second c.reads_of-old.result.second) (second_points h c.args.spec.second c.args.new.second) → IsSightTo h c.args.stream c.args.new (sight_with c old_second new_second)
is_sight c h of is last may old_second new_second second =
    let stream = c.args.stream in
    let spec = c.args.spec in
    let old = c.reads_of-old.result in
    let new = c.args.new in
    let old_is = read_are h stream c.args.version spec old (c.reads_of-old.ensures h of) last in
    let first = c.in_ok-first.ensures h of (first-known h spec (inputs-known h stream spec of.follows is))
    (first-low h stream spec of.follows is old new old_is may) (first-last h stream spec of.follows is old new old_is may) in
    sight-one h stream new (sight_with c old_second new_second) is refl last old_is refl first second

pub returns-then-not-is_good : goal.returns-then-not-is_good
returns-then-not-is_good c = λ h of is last may.
    both_ways c.is_good.result c.if-not-is_good.true (c.is_good.ensures ∙ spec-good h c.args.stream c.args.spec of.follows is)

pub returns-in_err-first : goal.returns-in_err-first
returns-in_err-first c = λ h of is last may.
    let stream = c.args.stream in
    let spec = c.args.spec in
    let old = c.reads_of-old.result in
    let new = c.args.new in
    let old_is = read_are h stream c.args.version spec old (c.reads_of-old.ensures h of) last in
    absurd (c.in_err-first.ensures h of (first-known h spec (inputs-known h stream spec of.follows is))
    (first-low h stream spec of.follows is old new old_is may) (first-last h stream spec of.follows is old new old_is may))

-- The second input is a stream of the history, and what was read of it is no later than what it has now.
second_place : (c : In-Some-Some-Some) (h : List Entry) → IsSnapshotOf h c.args.snapshot.now → spec_of h c.args.stream ≡ Some c.args.spec → c.args.version ≡ latest h c.args.stream → MayRead h c.args.stream c.args.spec c.args.new → (c.in-Some-Some-Some.input < length (ids h)) × (c.in-Some-Some-Some.before ≤ c.in-Some-Some-Some.now) × (c.in-Some-Some-Some.now ≤ latest h c.in-Some-Some-Some.input)
second_place c h of is last may =
    let stream = c.args.stream in
    let spec = c.args.spec in
    let arm = c.in-Some-Some-Some in
    let old = c.reads_of-old.result in
    let new = c.args.new in
    let old_is = read_are h stream c.args.version spec old (c.reads_of-old.ensures h of) last in (
      second-known h spec arm.input (inputs-known h stream spec of.follows is) arm.is-0,
      second-low h stream spec of.follows is old new old_is may arm.input arm.before arm.now arm.is-0 arm.is-1 arm.is-2,
      second-last h stream spec of.follows is old new old_is may arm.input arm.now arm.is-0 arm.is-2,
    )

pub returns-in_err-second-in-Some-Some-Some : goal.returns-in_err-second-in-Some-Some-Some
returns-in_err-second-in-Some-Some-Some c = λ h of is last may.
    let place = second_place (goal.at.returns-in_err-second-in-Some-Some-Some c).In-Some-Some-Some h of is last may in
    absurd (c.in_err-second-in-Some-Some-Some.ensures h of place.0 place.1 place.2)

pub returns-in-None-None-None : goal.returns-in-None-None-None
returns-in-None-None-None c = λ h of is last may.
    let arm = c.in-None-None-None in
    subst (IsSightTo h c.args.stream c.args.new) (sym c.new.ensures)
    (is_sight (goal.at.returns-in-None-None-None c).In_ok-first h of is last may None None
    (second-none h c.args.spec.second c.reads_of-old.result.second c.args.new.second arm.is-0 arm.is-1 arm.is-2))

pub returns-in_ok-second-in-Some-Some-Some : goal.returns-in_ok-second-in-Some-Some-Some
returns-in_ok-second-in-Some-Some-Some c = λ h of is last may.
    let arm = c.in-Some-Some-Some in
    let trees = c.in_ok-second-in-Some-Some-Some.second in
    let place = second_place (goal.at.returns-in_ok-second-in-Some-Some-Some c).In-Some-Some-Some h of is last may in
    let second = c.in_ok-second-in-Some-Some-Some.ensures h of place.0 place.1 place.2 in
    subst (IsSightTo h c.args.stream c.args.new) (sym c.new-in-Some-Some-Some.ensures)
    (is_sight (goal.at.returns-in_ok-second-in-Some-Some-Some c).In_ok-first h of is last may (Some trees.old.now) (Some trees.new.now)
    (second-some h c.args.spec.second c.reads_of-old.result.second c.args.new.second arm.input arm.before arm.now trees.old.now trees.new.now arm.is-0 arm.is-1 arm.is-2 second))
