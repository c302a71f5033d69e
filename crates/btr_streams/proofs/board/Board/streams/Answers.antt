use Rattle.std.proofs.Common.{arith}
use Rattle.btr_streams.proofs.board.Board.streams.Goals as goal

pub overflow_cast-result : goal.overflow_cast-result
overflow_cast-result c = omega (arith, c.len.ensures, c.self.invariant.few)
