use Rattle.std.specs.Prelude.{◌≡◌, ◌≤◌, true, false, length, slice_get, Some, None, IsNone}
use Rattle.std.proofs.Common.{sym, ◌∙◌, refl, subst}
use Rattle.btr_hist.specs.Legal.{distillate_change_rejection}
use Rattle.btr_board.specs.Numbers.{number_of}
use Rattle.btr_streams.specs.Board.{Kept, IsGrown}
use Rattle.btr_streams.specs.Stage.{change}
use Rattle.btr_streams.proofs.BoardCommits.{last_some}
use Rattle.btr_streams.proofs.BoardNext.{kept-at}
use Rattle.btr_streams.proofs.RolledOutline.{distillate-unknown, distillate-refused}
use Rattle.btr_streams.proofs.StreamsLemmas.{room-if}
use Rattle.btr_streams.proofs.board.Board.distillate_refusal.Goals.{In-Some}
use Rattle.btr_streams.proofs.board.Board.distillate_refusal.Goals as goal

-- The stream is at its place, and keeps what each stream of a board keeps.
kept : (c : In-Some) → (slice_get c.args.self.now.streams c.args.stream ≡ Some c.in-Some.kept.now) × IsGrown c.in-Some.kept.now
kept c =
    kept-at c.self.inside.streams (number_of c.self.inside.numbers) c.self.invariant c.self.inside.entries c.args.self.now c.self.view_is c.args.stream c.in-Some.kept.now c.in-Some.ensures

pub returns-in_default-clause-rolled : goal.returns-in_default-clause-rolled
returns-in_default-clause-rolled c =
    let past : length c.args.self.now.streams ≤ c.args.stream = subst (λ (b : Kept). length b.streams ≤ c.args.stream) c.self.view_is c.in_default.ensures in
    sym (distillate-unknown c.args.self.now c.args.stream past (change c.args.cut.now c.args.added.now) c.args.reads.now)

pub returns-then-not-takes_reads-clause-rolled : goal.returns-then-not-takes_reads-clause-rolled
returns-then-not-takes_reads-clause-rolled c =
    let its_change = change c.args.cut.now c.args.added.now in
    let one = c.in-Some.kept.now in
    let untaken = sym (c.takes_reads.ensures.rolled (kept (goal.at.returns-then-not-takes_reads-clause-rolled c).In-Some).1) ∙ c.if-not-takes_reads.true in
    sym (distillate-refused c.args.self.now c.args.stream one (kept (goal.at.returns-then-not-takes_reads-clause-rolled c).In-Some).0 false (distillate_change_rejection its_change) its_change c.args.reads.now untaken refl)

pub returns-in-Some-distillate_change_rejection-clause-rolled : goal.returns-in-Some-distillate_change_rejection-clause-rolled
returns-in-Some-distillate_change_rejection-clause-rolled c =
    let its_change = change c.args.cut.now c.args.added.now in
    let one = c.in-Some.kept.now in
    let taken = sym (c.takes_reads.ensures.rolled (kept (goal.at.returns-in-Some-distillate_change_rejection-clause-rolled c).In-Some).1) ∙ c.if-not-takes_reads.false in
    let found = sym c.distillate_change_rejection.ensures ∙ c.in-Some-distillate_change_rejection.is in
    sym (distillate-refused c.args.self.now c.args.stream one (kept (goal.at.returns-in-Some-distillate_change_rejection-clause-rolled c).In-Some).0 true _ its_change c.args.reads.now taken found)

pub returns-clause-rolled : goal.returns-clause-rolled
returns-clause-rolled c =
    let its_change = change c.args.cut.now c.args.added.now in
    let one = c.in-Some.kept.now in
    let taken = sym (c.takes_reads.ensures.rolled (kept (goal.at.returns-clause-rolled c).In-Some).1) ∙ c.if-not-takes_reads.false in
    let found = sym c.distillate_change_rejection.ensures ∙ c.in_default-distillate_change_rejection.is in
    let refused = distillate-refused c.args.self.now c.args.stream one (kept (goal.at.returns-clause-rolled c).In-Some).0 true None its_change c.args.reads.now taken found in
    c.version_refusal.ensures ∙ sym (refused ∙ last_some _)

pub returns-clause-room : goal.returns-clause-room
returns-clause-room c none =
    let one = c.in-Some.kept.now in
    record {
      kept = one;
      there = (kept (goal.at.returns-clause-room c).In-Some).0;
      grown = (kept (goal.at.returns-clause-room c).In-Some).1;
      kind = c.takes_reads.ensures.output c.if-not-takes_reads.false;
      few = room-if (length one.trees) (subst IsNone c.version_refusal.ensures none);
    }
