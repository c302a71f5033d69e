use Rattle.std.proofs.Common.{length, ◌∙◌}
use Rattle.btr_engine.proofs.StreamedLemmas.{all-inside, all-same}
use Rattle.btr_engine.proofs.streamed.StreamedPagesBlocks.fill.Goals as goal

pub fill_blocks-requires-clause-inside : goal.fill_blocks-requires-clause-inside
fill_blocks-requires-clause-inside c =
    let self = c.args.self.now in
    all-inside self.is_streamed self.stream self.nodes.now c.args.first (length c.args.to.now) c.requires.inside

pub returns : goal.returns
returns c =
    let self = c.args.self.now in
    c.fill_blocks.ensures ∙ all-same self.is_streamed self.stream self.nodes.now c.args.first (length c.args.to.now) c.requires.inside
