use Rattle.btr_open.proofs.LoadingLemmas.{slice-nodes}
use Rattle.btr_open.proofs.loading.node_blocks.Goals as goal

pub returns : goal.returns
returns c = slice-nodes c.blocks_of_content.result c.args.head.now c.args.body.now c.blocks_of_content.ensures
