use Rattle.std.proofs.Common.{◌≡◌, take, map}
use Rattle.btr_work.specs.Refreshing.{groups_in}
use Rattle.btr_work.proofs.prepare.levels_of.Given as goal

abbrev pub invariant-loop-group : goal.invariant-loop-group
invariant-loop-group l = groups_in l.levels.items ≡ map (λ g. g.items) (take l.group-index l.groups)
