use Rattle.std.specs.Prelude.{◌-◌, ◌*◌, length}
use Rattle.std.proofs.Common.{subst, arith}
use Rattle.std.proofs.lemmas.List.{take_all}
use Rattle.std.proofs.lemmas.Slice.{take-put_mid_below}
use Rattle.btr_disk.specs.Bytes.{Has}
use Rattle.btr_log.proofs.GateAndHead.{Has-put_mid}
use Rattle.btr_log.proofs.read.read_rest.Goals as goal

pub returns-then-body-eq-BLOCK-clause-stored : goal.returns-then-body-eq-BLOCK-clause-stored
returns-then-body-eq-BLOCK-clause-stored g c is_observable has =
    subst (Has (g.D.Disk.contents c.args.disk.now) (4096 * c.args.first)) (take_all 4096 c.args.body.now (omega arith)) has

pub returns-in_err-read-clause-prefix : goal.returns-in_err-read-clause-prefix
returns-in_err-read-clause-prefix g c =
    take-put_mid_below 4096 (length c.args.body.now - 4096) c.args.body.now c.read.new.buf 4096 (omega arith) (omega arith)

pub returns-clause-prefix : goal.returns-clause-prefix
returns-clause-prefix g c =
    take-put_mid_below 4096 (length c.args.body.now - 4096) c.args.body.now c.read.new.buf 4096 (omega arith) (omega arith)

pub returns-clause-stored : goal.returns-clause-stored
returns-clause-stored g c is_observable has =
    Has-put_mid (g.D.Disk.contents c.args.disk.now) c.args.first c.args.body.now c.read.new.buf c.requires.some has (c.in_ok-read.ensures.reads is_observable).bytes
