use Rattle.std.specs.Prelude.{◌-◌, ◌*◌}
use Rattle.std.proofs.Common.{arith}
use Rattle.btr_engine.proofs.ExtentBytes.{only_zeros}
use Rattle.btr_engine.proofs.extent.zeros_after.Goals as goal

pub returns : goal.returns
returns c =
    only_zeros c.resize.new.self.items c.new-bytes.result.items c.args.content (c.blocks_of_content.result * 4096 - 64 - c.args.content) c.new-bytes.result.len c.new-bytes.ensures.items (omega (arith, c.blocks_of_content.ensures)) c.new-bytes.ensures.len c.in_ok-resize.ensures.items
