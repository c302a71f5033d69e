use Rattle.btr_streams.specs.Rolling.{rolled}
use Rattle.btr_streams.specs.Outline.{outline_in}
use Rattle.btr_streams.proofs.Holding.{AreFree}
use Rattle.btr_streams.proofs.board.Board.held.Given as goal

-- No reader so far holds one of the versions.
abbrev pub invariant-loop-place : goal.invariant-loop-place
invariant-loop-place l = AreFree (outline_in (rolled l.self)) l.stream l.first l.readers l.place
