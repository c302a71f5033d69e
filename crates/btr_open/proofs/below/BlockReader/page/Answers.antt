use Rattle.btr_open.proofs.BelowLemmas.{read-page}
use Rattle.btr_open.proofs.below.BlockReader.page.Goals as goal

pub returns-clause-stored : goal.returns-clause-stored
returns-clause-stored g c reported =
    read-page (g.D.Disk.contents c.args.disk.now) c.args.block c.in_ok-bytes.bytes c.decode.result (c.in_ok-bytes.ensures.bytes reported).size (c.in_ok-bytes.ensures.bytes reported).has c.decode.ensures.found c.decode.ensures.fits c.decode.ensures.only
