use Rattle.std.specs.Prelude.{◌≡◌, ℕ, ◌<◌, ◌≤◌, ◌^◌, false, List, length, slice_get, None, IfOk, IfErr, is_some}
use Rattle.std.proofs.Common.{sym, ap, ◌∙◌, subst}
use Rattle.std.proofs.lemmas.Result.{on_ok_weaker, IfOk-weaker}
use Rattle.btr_board.specs.Numbers.{number_of}
use Rattle.btr_base.specs.Point.{AreInDomain}
use Rattle.btr_base.specs.Commit.{Change}
use Rattle.btr_tree.specs.declared.commit.TreeCommit.{TreeCommit}
use Rattle.btr_hist.specs.declared.entry.Entry.{Entry}
use Rattle.btr_hist.specs.declared.entry.Entry.TheVariants.{Commit}
use Rattle.btr_hist.specs.declared.kernel.Spec.{Spec}
use Rattle.btr_hist.specs.History.{ids, is_output}
use Rattle.btr_hist.specs.Legal.{version_rejection, rejection, change_rejection}
use Rattle.btr_streams.specs.Board.{Versions, Kept, IsBoardOf}
use Rattle.btr_streams.specs.Stage.{PushCause, MakesVersion, WritesCommit, change, change_in}
use Rattle.btr_streams.proofs.BoardStreamLemmas.{commit-makes}
use Rattle.btr_streams.proofs.BoardCommits.{change-times, commit-tests}
use Rattle.btr_streams.proofs.BoardNext.{kept-stream, stream-grown}
use Rattle.btr_streams.proofs.RejectionBounds.{change_bounded}
use Rattle.btr_streams.proofs.board.Board.stage_commit.Given.{Over}
use Rattle.btr_streams.proofs.board.Board.stage_commit.Goals.{In_default-change_rejection}
use Rattle.btr_streams.proofs.board.Board.stage_commit.Goals as goal

-- The change passes the tests that look at it alone.
passes : (g : Over) (c : In_default-change_rejection g) → change_rejection (change c.args.cut.now c.args.added.now) ≡ None
passes g c =
    sym c.change_rejection.ensures ∙ c.in_default-change_rejection.is

-- The stream is no output.
plain : (g : Over) (c : In_default-change_rejection g) → is_some c.in-Some.kept.now.spec ≡ false
plain g c = ap (λ (x : Versions). is_some x.spec) (sym c.kept.view_is) ∙ sym c.is_some.ensures ∙ c.if-is_some.false

-- The stream is one of the history, and no output.
stream : (g : Over) (c : In_default-change_rejection g) (h : List Entry) → IsBoardOf h c.args.self.now → (c.args.stream < length (ids h)) × (is_output h c.args.stream ≡ false)
stream g c h of =
    let b : Kept = record { streams = c.self.inside.streams; entries = c.self.inside.entries } in
    let was : IsBoardOf h b = subst (IsBoardOf h) (sym c.self.view_is) of in
    let is = kept-stream h b c.args.stream c.in-Some.kept.now was c.in-Some.ensures in
    (is.0, ap (is_some {T = Spec}) is.1.defined ∙ plain g c)

-- Only the tests of the next version are left.
left : (g : Over) (c : In_default-change_rejection g) (h : List Entry) (commit : TreeCommit) → change_in commit ≡ change c.args.cut.now c.args.added.now → IsBoardOf h c.args.self.now → rejection h (Commit c.args.stream c.args.cut.now c.args.added.now) ≡ version_rejection h c.args.stream (change_in commit)
left g c h commit is_change of =
    let is = stream g c h of in
    commit-tests h c.args.stream (change c.args.cut.now c.args.added.now) is.0 false is.1 None (passes g c) ∙ ap (version_rejection h c.args.stream) (sym is_change)

pub stage_version-requires-clause-new : goal.stage_version-requires-clause-new
stage_version-requires-clause-new g c =
    let at = (goal.at.stage_version-requires-clause-new g c).In_default-change_rejection in
    record {
      there = ap (λ (x : Kept). slice_get x.streams c.args.stream) (sym c.self.view_is) ∙ c.in-Some.ensures;
      grown = stream-grown c.self.inside.streams (number_of c.self.inside.numbers) c.self.invariant c.args.stream c.in-Some.kept.now c.in-Some.ensures;
      of_kind = sym (plain g at);
      commit = record {
        version = c.next_commit.ensures.version;
        times = subst (λ (x : Change). AreInDomain x.added) (sym c.next_commit.ensures.change) (change-times (change c.args.cut.now c.args.added.now) (passes g at));
        first = subst (λ n. (1 ≤ n) × (n ≤ 2 ^ 33)) (sym c.next_commit.ensures.first) c.requires.first;
      };
    }

pub returns-clause-next : goal.returns-clause-next
returns-clause-next g c h of =
    let e = Commit c.args.stream c.args.cut.now c.args.added.now in
    let its_left = left g (goal.at.returns-clause-next g c).In_default-change_rejection h c.next_commit.result c.next_commit.ensures.change of in
    IfOk-weaker c.stage_version.result _ _ (λ n w. record {
      allowed = its_left ∙ w.allowed;
      of = w.of e (subst (λ x. MakesVersion e c.args.stream x None) (sym c.next_commit.ensures.change) (commit-makes c.args.stream c.args.cut.now c.args.added.now)) (its_left ∙ w.allowed);
    }) (c.stage_version.ensures.next h of)

pub returns-clause-cause : goal.returns-clause-cause
returns-clause-cause g c h of =
    subst (λ o. IfErr c.stage_version.result (PushCause o)) (sym (left g (goal.at.returns-clause-cause g c).In_default-change_rejection h c.next_commit.result c.next_commit.ensures.change of)) (c.stage_version.ensures.cause h of)

pub returns-clause-bounds : goal.returns-clause-bounds
returns-clause-bounds g c =
    on_ok_weaker c.stage_version.result (λ few. change_bounded (change c.args.cut.now c.args.added.now) (passes g (goal.at.returns-clause-bounds g c).In_default-change_rejection)) c.stage_version.ensures.points

pub returns-clause-writes : goal.returns-clause-writes
returns-clause-writes g c =
    let b = c.args.self.now in
    let result = c.stage_version.result in
    subst (λ (x : Change). IfOk result (λ n. WritesCommit b c.args.with.now.first c.args.stream x None n.board n.nodes.items n.root)) c.next_commit.ensures.change
    (subst (λ (first : ℕ). IfOk result (λ n. WritesCommit b first c.args.stream (change_in c.next_commit.result) None n.board n.nodes.items n.root)) c.next_commit.ensures.first c.stage_version.ensures.writes)
