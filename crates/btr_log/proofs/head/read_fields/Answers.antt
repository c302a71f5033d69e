use Rattle.std.proofs.Common.{rules}
use Rattle.btr_log.specs.Head.{head_at}
use Rattle.btr_log.proofs.head.read_fields.Goals as goal

pub returns : goal.returns
unfolding head_at
returns c = search rules
