use Rattle.btr_tree.specs.Slots.{linked}
use Rattle.btr_tree.proofs.PartLemmas.{alone-built}
use Rattle.btr_tree.proofs.shared.build_alone.Goals as goal

pub returns-clause-built : goal.returns-clause-built
returns-clause-built c =
    alone-built c.args.work.now.span c.args.work.now.numbering.version c.args.work.now.numbering.first c.args.work.now.points.now (linked c.in_ok-root.root) c.new-nodes.result.items c.build.new.nodes.items c.requires c.new-nodes.ensures.items c.in_ok-root.ensures.child c.in_ok-root.ensures.nodes c.in_ok-root.ensures.stored c.in_ok-root.ensures.room
