use Rattle.std.proofs.Common.{refl, subst}
use Rattle.btr_disk.specs.Bytes.{Image}
use Rattle.btr_disk.proofs.ByteLemmas.{Same-is}
use Rattle.btr_host.specs.LogEnd.{IsLastGate}
use Rattle.btr_host.proofs.log_end.last_gate.Goals as goal

pub returns-in_ok-last_from-in-Ok-clause-last : goal.returns-in_ok-last_from-in-Ok-clause-last
returns-in_ok-last_from-in-Ok-clause-last g c seen =
    let disk = g.D.Disk in
    let found = c.in-Ok.found in
    let same = (c.choose.ensures.nothing seen).same in
    let is = Same-is (disk.contents c.args.disk.now) (disk.contents c.choose.new.device) same in
    (found, (c.in-Ok.ensures.chosen seen (λ other. cc) found).0 refl, subst (λ (image : Image). IsLastGate image found.blocks found.tail c.in_ok-last_from-in-Ok.field-0) is (c.in_ok-last_from-in-Ok.ensures.last seen))
