use Rattle.std.specs.Prelude.{◌≡◌, slice_get, Some}
use Rattle.std.proofs.Common.{sym, ap, ◌∙◌}
use Rattle.btr_streams.specs.Board.{Kept}
use Rattle.btr_streams.proofs.BoardRead.{not-past, kind-of, few-of}
use Rattle.btr_streams.proofs.board.Board.read_version.Goals.{In-Some}
use Rattle.btr_streams.proofs.board.Board.read_version.Goals as goal

-- The stream is at its place.
there : (c : In-Some) → slice_get c.args.self.now.streams c.args.stream ≡ Some c.in-Some.kept.now
there c =
    ap (λ (b : Kept). slice_get b.streams c.args.stream) (sym c.self.view_is) ∙ c.in-Some.ensures

pub unreachable-requires : goal.unreachable-requires
unreachable-requires c =
    let room = c.requires.room in
    not-past (record { streams = c.self.inside.streams; entries = c.self.inside.entries }) c.args.self.now c.args.stream room.kept c.self.view_is c.in_default.ensures room.there

pub with_version-requires-clause-there : goal.with_version-requires-clause-there
with_version-requires-clause-there c = there (goal.at.with_version-requires-clause-there c).In-Some

pub with_version-requires-clause-room : goal.with_version-requires-clause-room
with_version-requires-clause-room c =
    few-of c.args.self.now c.args.stream _ c.in-Some.kept.now (there (goal.at.with_version-requires-clause-room c).In-Some) c.requires.room

pub with_version-requires-clause-of_kind : goal.with_version-requires-clause-of_kind
with_version-requires-clause-of_kind c =
    kind-of c.args.self.now c.args.stream _ c.in-Some.kept.now (there (goal.at.with_version-requires-clause-of_kind c).In-Some) c.requires.room

pub returns-clause-kept : goal.returns-clause-kept
returns-clause-kept c = record {
  kept = c.in-Some.kept.now;
  there = there (goal.at.returns-clause-kept c).In-Some;
  streams = c.in_ok-board.ensures.streams;
  none = c.new.ensures.items;
  root_is = c.root-root.ensures;
}
