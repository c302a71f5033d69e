use Rattle.std.proofs.Common.{refl}
use Rattle.btr_board.specs.Numbers.{bit}
use Rattle.btr_board.proofs.index_node.bit_of.Goals as goal

pub returns : goal.returns
unfolding bit
returns c = refl
