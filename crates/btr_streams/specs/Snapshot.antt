-- What contracts see of a snapshot.
use Rattle.std.specs.Prelude.{List}
use Rattle.btr_hist.specs.declared.entry.Entry.{Entry}
use Rattle.btr_streams.specs.declared.snapshot.Snapshot.{Snapshot}
use Rattle.btr_streams.specs.Board.{IsBoardOf}

-- The snapshot has the entries of this history.
abbrev pub IsSnapshotOf : List Entry → Snapshot → Type 0
IsSnapshotOf h s = IsBoardOf h s.board
