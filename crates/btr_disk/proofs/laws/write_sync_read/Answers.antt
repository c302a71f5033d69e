use Rattle.std.specs.Prelude.{◌≡◌, ◌*◌, length}
use Rattle.std.proofs.Common.{arith}
use Rattle.btr_disk.specs.Bytes.{Has}
use Rattle.btr_disk.proofs.ByteLemmas.{Has-Same, Has-one}
use Rattle.btr_disk.proofs.PublishCalls.{both_ok}
use Rattle.btr_disk.proofs.laws.write_sync_read.Goals as goal

pub returns-clause-read : goal.returns-clause-read
returns-clause-read g c is_observable =
    let disk = g.D.Disk in
    let a = 4096 * c.args.first in
    let bytes = c.args.bytes.now in
    let d1 = disk.contents c.write.new.self in
    let d2 = disk.contents c.sync.new.self in
    let has : Has d2 a bytes = Has-Same d1 d2 a bytes (c.sync.ensures.contents is_observable) (c.in_ok-write.ensures.writes is_observable).written in
    let size : length c.read.new.buf ≡ length bytes = omega (arith, c.read.auto.buf, c.requires.length) in
    both_ok c.read.result _ _ (c.read.ensures.reads is_observable).bytes (λ read. Has-one d2 a c.read.new.buf bytes size read has)
