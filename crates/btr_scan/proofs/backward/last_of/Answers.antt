use Rattle.std.proofs.Common.{◌∙◌}
use Rattle.btr_scan.proofs.Firsts.{last-place}
use Rattle.btr_scan.proofs.backward.last_of.Goals as goal

pub returns : goal.returns
returns c = c.copied.ensures ∙ c.last.ensures.value ∙ last-place c.args.points.now
