use Rattle.std.proofs.Common.{take}
use Rattle.btr_open.proofs.StartRoots.{IsFetchedSo}
use Rattle.btr_open.proofs.roll_roots.fetch_roots.Given as goal

abbrev pub invariant-loop-root : goal.invariant-loop-root
invariant-loop-root g l = IsFetchedSo g.D.Disk l.fn.disk l.disk l.fn.reader.limit l.reader (take l.root-index l.roots) l.nodes
