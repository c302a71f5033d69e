use Rattle.std.specs.Prelude.{length}
use Rattle.btr_disk.proofs.PutLemmas.{piece_put}
use Rattle.btr_disk.proofs.putting.put_piece.Goals as goal

pub returns-clause-written : goal.returns-clause-written
returns-clause-written g c done =
    piece_put ((goal.BlockSink-dyn g c.args.sink.now).has_block c.args.sink.now.1) (g.B.Blocks.bytes c.args.source.now) c.args.first (length c.args.piece.now) c.fill.new.to c.requires.whole c.fill.ensures
    (c.put.ensures.0 done)
