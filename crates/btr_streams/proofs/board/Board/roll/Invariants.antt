use Rattle.std.proofs.Common.{◌≡◌, take}
use Rattle.btr_streams.specs.Rolling.{rolled}
use Rattle.btr_streams.proofs.board.Board.roll.Given as goal

-- The streams so far are the earlier ones.
abbrev pub invariant-loop-place : goal.invariant-loop-place
invariant-loop-place l = l.streams.items ≡ take l.place (rolled l.self)
