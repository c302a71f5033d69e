use Rattle.std.specs.Prelude.{◌*◌}
use Rattle.std.proofs.Common.{ap}
use Rattle.btr_engine.proofs.ExtentBytes.{filled_up}
use Rattle.btr_engine.proofs.extent.fill_up.Goals as goal

pub returns : goal.returns
returns c =
    filled_up c.args.extent.now.items c.resize.new.self.items c.args.content (c.blocks_of_content.result * 4096) c.args.extent.now.len c.requires.long (ap (λ n. n * 4096) c.blocks_of_content.ensures) c.args.extent.now.ok.0 c.in_ok-resize.ensures.items
