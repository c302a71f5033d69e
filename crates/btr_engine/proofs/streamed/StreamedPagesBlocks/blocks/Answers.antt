use Rattle.std.specs.Prelude.{length}
use Rattle.std.proofs.Common.{ap, ◌∙◌}
use Rattle.btr_engine.specs.Streamed.{streamed_bytes}
use Rattle.btr_engine.proofs.StreamedLemmas.{length-streamed}
use Rattle.btr_engine.proofs.streamed.StreamedPagesBlocks.blocks.Goals as goal

pub returns-then-self-clause-whole : goal.returns-then-self-clause-whole
returns-then-self-clause-whole c =
    let self = c.args.self.now in
    ap (λ is_streamed. length (streamed_bytes is_streamed self.stream self.nodes.now)) c.if-self.true ∙ length-streamed self.stream self.nodes.now
