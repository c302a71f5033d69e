use Rattle.std.specs.Prelude.{◌*◌}
use Rattle.btr_disk.specs.Bytes.{Has, Same}
use Rattle.btr_disk.proofs.ByteLemmas.{Has-Same, Same-trans}
use Rattle.btr_host.proofs.RenewLemmas.{Same-written, on_ok}
use Rattle.btr_host.proofs.renewing.renew.Goals as goal

pub returns-clause-same : goal.returns-clause-same
returns-clause-same g c seen =
    let disk = g.D.Disk in
    let old = disk.contents c.args.disk.now in
    let mid = disk.contents c.read.new.self in
    let new = disk.contents c.write.new.self in
    let bytes = c.read.new.buf in
    let kept : Same old mid = (c.read.ensures.reads seen).same in
    let was : Has mid (4096 * c.args.block) bytes = Has-Same old mid (4096 * c.args.block) bytes kept (c.in_ok-read.ensures.reads seen).bytes in
    on_ok c.write.result _ (Same old new)
    (λ written. Same-trans old mid new kept (Same-written mid new (4096 * c.args.block) bytes was written (c.write.ensures.writes seen).elsewhere))
    (c.write.ensures.writes seen).written
