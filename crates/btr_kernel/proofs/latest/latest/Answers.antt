use Rattle.std.proofs.Common.{sym, ◌∙◌}
use Rattle.btr_kernel.proofs.LastLemmas.{latest-last}
use Rattle.btr_kernel.proofs.latest.latest.Goals as goal

pub returns : goal.returns
returns c = c.last_value.ensures ∙ sym (latest-last c.args.t c.args.points.now c.requires)
