use Rattle.std.specs.Prelude.{◌≡◌, ◌≤◌, true, false, length, slice_get, Some, None, is_some, IsNone}
use Rattle.std.proofs.Common.{sym, ap, ◌∙◌, refl, subst}
use Rattle.btr_board.specs.Numbers.{number_of}
use Rattle.btr_hist.specs.Legal.{change_rejection}
use Rattle.btr_streams.specs.Board.{Versions, Kept, IsGrown}
use Rattle.btr_streams.specs.Stage.{change}
use Rattle.btr_streams.proofs.BoardCommits.{last_some}
use Rattle.btr_streams.proofs.BoardNext.{kept-at}
use Rattle.btr_streams.proofs.RolledOutline.{commit-unknown, commit-refused}
use Rattle.btr_streams.proofs.StreamsLemmas.{room-if}
use Rattle.btr_streams.proofs.board.Board.commit_refusal.Goals.{In-Some}
use Rattle.btr_streams.proofs.board.Board.commit_refusal.Goals as goal

-- The stream is at its place, and keeps what each stream of a board keeps.
kept : (c : In-Some) → (slice_get c.args.self.now.streams c.args.stream ≡ Some c.in-Some.kept.now) × IsGrown c.in-Some.kept.now
kept c =
    kept-at c.self.inside.streams (number_of c.self.inside.numbers) c.self.invariant c.self.inside.entries c.args.self.now c.self.view_is c.args.stream c.in-Some.kept.now c.in-Some.ensures

pub returns-in_default-clause-rolled : goal.returns-in_default-clause-rolled
returns-in_default-clause-rolled c =
    let past : length c.args.self.now.streams ≤ c.args.stream = subst (λ (b : Kept). length b.streams ≤ c.args.stream) c.self.view_is c.in_default.ensures in
    sym (commit-unknown c.args.self.now c.args.stream past (change c.args.cut.now c.args.added.now))

pub returns-then-is_some-clause-rolled : goal.returns-then-is_some-clause-rolled
returns-then-is_some-clause-rolled c =
    let its_change = change c.args.cut.now c.args.added.now in
    let one = c.in-Some.kept.now in
    let output : is_some one.spec ≡ true = ap (λ (x : Versions). is_some x.spec) (sym c.kept.view_is) ∙ sym c.is_some.ensures ∙ c.if-is_some.true in
    sym (commit-refused c.args.self.now c.args.stream one (kept (goal.at.returns-then-is_some-clause-rolled c).In-Some).0 true (change_rejection its_change) its_change output refl)

pub returns-in-Some-change_rejection-clause-rolled : goal.returns-in-Some-change_rejection-clause-rolled
returns-in-Some-change_rejection-clause-rolled c =
    let its_change = change c.args.cut.now c.args.added.now in
    let one = c.in-Some.kept.now in
    let plain : is_some one.spec ≡ false = ap (λ (x : Versions). is_some x.spec) (sym c.kept.view_is) ∙ sym c.is_some.ensures ∙ c.if-is_some.false in
    let found = sym c.change_rejection.ensures ∙ c.in-Some-change_rejection.is in
    sym (commit-refused c.args.self.now c.args.stream one (kept (goal.at.returns-in-Some-change_rejection-clause-rolled c).In-Some).0 false _ its_change plain found)

pub returns-clause-rolled : goal.returns-clause-rolled
returns-clause-rolled c =
    let its_change = change c.args.cut.now c.args.added.now in
    let one = c.in-Some.kept.now in
    let plain : is_some one.spec ≡ false = ap (λ (x : Versions). is_some x.spec) (sym c.kept.view_is) ∙ sym c.is_some.ensures ∙ c.if-is_some.false in
    let found = sym c.change_rejection.ensures ∙ c.in_default-change_rejection.is in
    let refused = commit-refused c.args.self.now c.args.stream one (kept (goal.at.returns-clause-rolled c).In-Some).0 false None its_change plain found in
    c.version_refusal.ensures ∙ sym (refused ∙ last_some _)

pub returns-clause-room : goal.returns-clause-room
returns-clause-room c none =
    let one = c.in-Some.kept.now in
    let plain : is_some one.spec ≡ false = ap (λ (x : Versions). is_some x.spec) (sym c.kept.view_is) ∙ sym c.is_some.ensures ∙ c.if-is_some.false in
    record {
      kept = one;
      there = (kept (goal.at.returns-clause-room c).In-Some).0;
      grown = (kept (goal.at.returns-clause-room c).In-Some).1;
      kind = plain;
      few = room-if (length one.trees) (subst IsNone c.version_refusal.ensures none);
    }
