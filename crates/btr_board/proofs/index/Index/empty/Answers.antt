use Rattle.std.proofs.Common.{refl}
use Rattle.btr_board.specs.Numbers.{number_of}
use Rattle.btr_board.proofs.index.Index.empty.Goals as goal

pub returns : goal.returns
unfolding number_of
returns c id = refl
