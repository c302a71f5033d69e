use Rattle.std.specs.Prelude.{◌≡◌, slice_get, slice_set, Some}
use Rattle.std.proofs.Common.{sym, ap, ◌∙◌}
use Rattle.btr_board.specs.Numbers.{number_of}
use Rattle.btr_streams.specs.Board.{Kept}
use Rattle.btr_streams.specs.Stage.{with_earliest}
use Rattle.btr_streams.proofs.BoardNext.{formed-earliest}
use Rattle.btr_streams.proofs.BoardRead.{not-past, made-of}
use Rattle.btr_streams.proofs.board.Board.with_earliest.Goals.{In-Some}
use Rattle.btr_streams.proofs.board.Board.with_earliest.Goals as goal

-- The stream is at its place.
there : (c : In-Some) → slice_get c.args.self.now.streams c.args.stream ≡ Some c.in-Some.kept.now
there c =
    ap (λ (b : Kept). slice_get b.streams c.args.stream) (sym c.self.view_is) ∙ c.in-Some.ensures

pub unreachable-requires : goal.unreachable-requires
unreachable-requires c =
    let room = c.requires.room in
    not-past (record { streams = c.self.inside.streams; entries = c.self.inside.entries }) c.args.self.now c.args.stream room.kept c.self.view_is c.in_default.ensures room.there

pub invariant_of-result : goal.invariant_of-result
invariant_of-result c =
    let kept = c.in-Some.kept.now in
    let made = made-of c.args.self.now c.args.stream c.args.first kept (there (goal.at.invariant_of-result c).In-Some) c.requires.room in
    let set = c.in_ok-streams.ensures ∙ ap (slice_set c.self.inside.streams c.args.stream) c.in_ok-next.ensures in
    formed-earliest c.self.inside.streams (number_of c.self.inside.numbers) c.self.invariant c.args.stream c.args.first kept (number_of c.in_ok-numbers.numbers) c.in_ok-streams.streams c.in_ok-readers.readers c.in-Some.ensures made set
    (λ id. ap (λ m. number_of m id) c.in_ok-numbers.ensures) c.in_ok-readers.ensures

pub returns-clause-sets : goal.returns-clause-sets
returns-clause-sets c =
    let kept = c.in-Some.kept.now in
    let set = c.in_ok-streams.ensures ∙ ap (slice_set c.self.inside.streams c.args.stream) c.in_ok-next.ensures in
    record {
      kept = kept;
      there = there (goal.at.returns-clause-sets c).In-Some;
      streams = set ∙ ap (λ (b : Kept). slice_set b.streams c.args.stream (with_earliest kept c.args.first)) c.self.view_is;
    }
