use Rattle.std.proofs.Common.{◌≡◌, List, take}
use Rattle.btr_hist.specs.declared.entry.Entry.{Entry}
use Rattle.btr_hist.specs.History.{ids}
use Rattle.btr_hist.specs.Answer.{rows_from}
use Rattle.btr_streams.specs.Board.{IsBoardOf}
use Rattle.btr_streams.proofs.board.Board.all_streams.Given as goal

-- The rows so far are those of the earlier streams.
abbrev pub invariant-loop-place : goal.invariant-loop-place
invariant-loop-place l = (h : List Entry) → IsBoardOf h l.self → l.rows.items ≡ take l.place (rows_from h 0 (ids h))
