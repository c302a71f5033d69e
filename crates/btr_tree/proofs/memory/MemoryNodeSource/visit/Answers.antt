use Rattle.std.proofs.Common.{refl}
use Rattle.btr_tree.specs.Slots.{node_of}
use Rattle.btr_tree.proofs.MemoryLemmas.{nothing-safe, leaf-safe, inner-safe}
use Rattle.btr_tree.proofs.memory.MemoryNodeSource.visit.Goals as goal

pub returns-in-None-clause-safe : goal.returns-in-None-clause-safe
returns-in-None-clause-safe g c =
    let span = c.args._span in
    let safe = c.requires.safe in
    nothing-safe span.height span.start (node_of c.args.at) safe (c.in-None.ensures.none refl span.height span.start safe.above safe.commits safe.holds)

pub returns-in-Leaf-clause-safe : goal.returns-in-Leaf-clause-safe
returns-in-Leaf-clause-safe g c =
    let span = c.args._span in
    let safe = c.requires.safe in
    leaf-safe span (node_of c.args.at) c.in-Some.node c.in-Leaf.version c.in-Leaf.points safe c.in-Leaf.is (c.in-Some.ensures.node span.height span.start safe.above safe.commits safe.holds)

pub returns-in-Inner-clause-safe : goal.returns-in-Inner-clause-safe
returns-in-Inner-clause-safe g c =
    let span = c.args._span in
    let safe = c.requires.safe in
    inner-safe span (node_of c.args.at) c.in-Some.node c.in-Inner.version c.in-Inner.slots safe c.in-Inner.is (c.in-Some.ensures.node span.height span.start safe.above safe.commits safe.holds)
