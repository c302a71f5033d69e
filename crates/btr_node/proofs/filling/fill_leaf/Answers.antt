use Rattle.std.proofs.Common.{arith}
use Rattle.btr_node.proofs.Filled.{leaf-filled}
use Rattle.btr_node.proofs.filling.fill_leaf.Goals as goal

pub returns : goal.returns
returns c =
    leaf-filled c.args.header.now c.args.points.now _ c.put.new.to c.put_header.new.to c.put_points.new.to c.put_zeros.new.to c.requires.few (omega arith) c.put.ensures c.put_header.ensures c.put_points.ensures c.put_zeros.ensures
