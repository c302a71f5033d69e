use Rattle.btr_open.proofs.FetchingBelow.{IsNeededTo, HasFetched}
use Rattle.btr_open.proofs.below.BlockReader.fetch_needed.Given as goal

-- What the node blocks so far need was fetched.
abbrev pub invariant-loop-i : goal.invariant-loop-i
invariant-loop-i g l = HasFetched g.D.Disk l.fn.disk l.disk l.fn.self l.self (IsNeededTo l.i l.bytes l.root) l.fn.nodes l.nodes
