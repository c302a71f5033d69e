use Rattle.btr_node.specs.Page.{slots_of_page}
use Rattle.btr_open.proofs.FetchingBelow.{IsChildTo, HasFetched}
use Rattle.btr_open.proofs.below.BlockReader.fetch_children.Given as goal

-- The children of the slots so far were fetched.
abbrev pub invariant-loop-slot : goal.invariant-loop-slot
invariant-loop-slot g l = HasFetched g.D.Disk l.fn.disk l.disk l.fn.self l.self (IsChildTo l.slot-index (slots_of_page l.page)) l.fn.nodes l.nodes
