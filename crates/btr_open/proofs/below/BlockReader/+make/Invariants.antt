use Rattle.std.proofs.Common.{◌+◌, ◌*◌}
use Rattle.btr_node.specs.Page.{header}
use Rattle.btr_open.proofs.MakingBelow.{IsMadeTo}
use Rattle.btr_open.proofs.below.BlockReader.+make.Given as goal

abbrev pub decreases-make : goal.decreases-make
decreases-make g l = 3 * (header l.page.now).height + 2

abbrev pub decreases-make_child : goal.decreases-make_child
decreases-make_child g l = 3 * (header l.at.page.now).height + 1

abbrev pub decreases-make_unknown : goal.decreases-make_unknown
decreases-make_unknown g l = 3 * (header l.at.page.now).height

-- The children of the slots so far are known.
abbrev pub invariant-make-loop-i : goal.invariant-make-loop-i
invariant-make-loop-i g l = IsMadeTo g.D.Disk l.fn.disk l.disk l.fn.self l.self l.block l.page l.fn.nodes l.nodes l.i
