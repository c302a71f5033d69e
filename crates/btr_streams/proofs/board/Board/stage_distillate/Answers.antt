use Rattle.std.specs.Prelude.{◌≡◌, ℕ, ◌<◌, ◌≤◌, ◌^◌, true, false, List, length, slice_get, Some, None, IfOk, IfErr}
use Rattle.std.proofs.Common.{refl, sym, ap, ◌∙◌, subst}
use Rattle.std.proofs.lemmas.Result.{on_ok_weaker, IfOk-weaker}
use Rattle.btr_base.specs.declared.limits.TheConstants.{MAX_POINTS}
use Rattle.btr_base.specs.Point.{AreInDomain}
use Rattle.btr_base.specs.Commit.{Change}
use Rattle.btr_tree.specs.declared.commit.TreeCommit.{TreeCommit}
use Rattle.btr_hist.specs.declared.entry.Entry.{Entry}
use Rattle.btr_hist.specs.declared.entry.Entry.TheVariants.{Distillate}
use Rattle.btr_hist.specs.History.{ids, spec_of}
use Rattle.btr_hist.specs.Legal.{version_rejection, rejection, takes_reads, distillate_change_rejection}
use Rattle.btr_board.specs.Numbers.{number_of}
use Rattle.btr_streams.specs.Board.{Versions, Kept, IsBoardOf}
use Rattle.btr_streams.specs.Stage.{PushCause, MakesVersion, WritesCommit, change, change_in}
use Rattle.btr_streams.proofs.BoardStreamLemmas.{distillate-makes}
use Rattle.btr_streams.proofs.BoardCommits.{distillate-times, distillate-tests}
use Rattle.btr_streams.proofs.StreamsLemmas.{has-streams, stream-of, takes-of}
use Rattle.btr_streams.proofs.BoardNext.{stream-grown}
use Rattle.btr_streams.proofs.RejectionBounds.{distillate_bounded}
use Rattle.btr_streams.proofs.board.Board.stage_distillate.Given.{Over}
use Rattle.btr_streams.proofs.board.Board.stage_distillate.Goals.{After-takes_reads, In_default-distillate_change_rejection}
use Rattle.btr_streams.proofs.board.Board.stage_distillate.Goals as goal

-- The change passes the tests that look at it alone.
passes : (g : Over) (c : In_default-distillate_change_rejection g) → distillate_change_rejection (change c.args.cut.now c.args.added.now) ≡ None
passes g c =
    sym c.distillate_change_rejection.ensures ∙ c.in_default-distillate_change_rejection.is

-- The stream is one of the history, and takes the reads after the history if the test finds that it takes them.
taken : (g : Over) (c : After-takes_reads g) (h : List Entry) → IsBoardOf h c.args.self.now → (c.args.stream < length (ids h)) × (takes_reads h c.args.stream (spec_of h c.args.stream) c.args.reads.now ≡ c.takes_reads.result)
taken g c h of =
    let b : Kept = c.args.self.now in
    let kept = c.in-Some.kept.now in
    let has = has-streams h b of in
    let at : slice_get b.streams c.args.stream ≡ Some kept = ap (λ (x : Kept). slice_get x.streams c.args.stream) (sym c.self.view_is) ∙ c.in-Some.ensures in
    let grown = stream-grown c.self.inside.streams (number_of c.self.inside.numbers) c.self.invariant c.args.stream kept c.in-Some.ensures in
    ((stream-of h b has c.args.stream kept at).0, sym (takes-of h b has c.args.stream kept at c.args.reads.now) ∙ sym (c.takes_reads.ensures.rolled grown))

-- Only the tests of the next version are left.
left : (g : Over) (c : In_default-distillate_change_rejection g) (h : List Entry) (commit : TreeCommit) → change_in commit ≡ change c.args.cut.now c.args.added.now → (c.args.stream < length (ids h)) × (takes_reads h c.args.stream (spec_of h c.args.stream) c.args.reads.now ≡ c.takes_reads.result) → rejection h (Distillate c.args.stream c.args.cut.now c.args.added.now c.args.reads.now) ≡ version_rejection h c.args.stream (change_in commit)
left g c h commit is_change is =
    distillate-tests h c.args.stream (change c.args.cut.now c.args.added.now) c.args.reads.now is.0 true (is.1 ∙ c.if-not-takes_reads.false) None (passes g c) ∙ ap (version_rejection h c.args.stream) (sym is_change)

pub stage_version-requires-clause-new : goal.stage_version-requires-clause-new
stage_version-requires-clause-new g c =
    let at = (goal.at.stage_version-requires-clause-new g c).In_default-distillate_change_rejection in
    record {
      there = ap (λ (x : Kept). slice_get x.streams c.args.stream) (sym c.self.view_is) ∙ c.in-Some.ensures;
      grown = stream-grown c.self.inside.streams (number_of c.self.inside.numbers) c.self.invariant c.args.stream c.in-Some.kept.now c.in-Some.ensures;
      of_kind = sym (c.if-not-takes_reads.ensures.output refl);
      commit = record {
        version = c.next_commit.ensures.version;
        times = subst (λ (x : Change). AreInDomain x.added) (sym c.next_commit.ensures.change) (distillate-times (change c.args.cut.now c.args.added.now) (passes g at));
        first = subst (λ n. (1 ≤ n) × (n ≤ 2 ^ 33)) (sym c.next_commit.ensures.first) c.requires.first;
      };
    }

pub returns-then-not-takes_reads-clause-cause : goal.returns-then-not-takes_reads-clause-cause
returns-then-not-takes_reads-clause-cause g c h of =
    let its_change = change c.args.cut.now c.args.added.now in
    let is = taken g (goal.at.returns-then-not-takes_reads-clause-cause g c).After-takes_reads h of in
    distillate-tests h c.args.stream its_change c.args.reads.now is.0 false (is.1 ∙ c.if-not-takes_reads.true) (distillate_change_rejection its_change) refl

pub returns-in-Some-distillate_change_rejection-clause-cause : goal.returns-in-Some-distillate_change_rejection-clause-cause
returns-in-Some-distillate_change_rejection-clause-cause g c h of =
    let its_change = change c.args.cut.now c.args.added.now in
    let is = taken g (goal.at.returns-in-Some-distillate_change_rejection-clause-cause g c).After-takes_reads h of in
    let found = sym c.distillate_change_rejection.ensures ∙ c.in-Some-distillate_change_rejection.is in
    distillate-tests h c.args.stream its_change c.args.reads.now is.0 true (is.1 ∙ c.if-not-takes_reads.false) _ found

pub returns-clause-next : goal.returns-clause-next
returns-clause-next g c h of =
    let e = Distillate c.args.stream c.args.cut.now c.args.added.now c.args.reads.now in
    let its_left = left g (goal.at.returns-clause-next g c).In_default-distillate_change_rejection h c.next_commit.result c.next_commit.ensures.change (taken g (goal.at.returns-clause-next g c).After-takes_reads h of) in
    IfOk-weaker c.stage_version.result _ _ (λ n w. record {
      allowed = its_left ∙ w.allowed;
      of = w.of e (subst (λ x. MakesVersion e c.args.stream x (Some c.args.reads.now)) (sym c.next_commit.ensures.change) (distillate-makes c.args.stream c.args.cut.now c.args.added.now c.args.reads.now)) (its_left ∙ w.allowed);
    }) (c.stage_version.ensures.next h of)

pub returns-clause-cause : goal.returns-clause-cause
returns-clause-cause g c h of =
    subst (λ o. IfErr c.stage_version.result (PushCause o)) (sym (left g (goal.at.returns-clause-cause g c).In_default-distillate_change_rejection h c.next_commit.result c.next_commit.ensures.change (taken g (goal.at.returns-clause-cause g c).After-takes_reads h of))) (c.stage_version.ensures.cause h of)

pub returns-clause-bounds : goal.returns-clause-bounds
returns-clause-bounds g c =
    on_ok_weaker c.stage_version.result (λ few. distillate_bounded (change c.args.cut.now c.args.added.now) c.args.reads.now (passes g (goal.at.returns-clause-bounds g c).In_default-distillate_change_rejection) (subst (λ (x : Change). length x.added ≤ MAX_POINTS) c.next_commit.ensures.change few) (c.if-not-takes_reads.ensures.few refl)) c.stage_version.ensures.points

pub returns-clause-writes : goal.returns-clause-writes
returns-clause-writes g c =
    let b = c.args.self.now in
    let result = c.stage_version.result in
    let read = Some c.args.reads.now in
    subst (λ (x : Change). IfOk result (λ n. WritesCommit b c.args.with.now.first c.args.stream x read n.board n.nodes.items n.root)) c.next_commit.ensures.change
    (subst (λ (first : ℕ). IfOk result (λ n. WritesCommit b first c.args.stream (change_in c.next_commit.result) read n.board n.nodes.items n.root)) c.next_commit.ensures.first c.stage_version.ensures.writes)
