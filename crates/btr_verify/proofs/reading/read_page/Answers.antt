use Rattle.std.proofs.Common.{subst, sym}
use Rattle.btr_node.specs.Page.{Spells}
use Rattle.btr_log.proofs.OnlyReading.{same-bytes}
use Rattle.btr_verify.proofs.ReadLemmas.{page-read}
use Rattle.btr_verify.proofs.reading.read_page.Goals as goal

pub returns-clause-page : goal.returns-clause-page
returns-clause-page g c reported =
    let disk = g.D.Disk in
    page-read (disk.contents c.args.disk.now) (disk.contents c.hold.new.disk) c.hold.new.piece c.args.block c.decode.result (sym (same-bytes c.args.disk.now c.hold.new.disk c.hold.ensures.reads.reads reported)) c.in_ok-hold.ensures.held (c.hold.ensures.reads.can.holds reported)
    (λ page fits spells. c.decode.ensures.only page fits (subst (λ bytes. Spells bytes page) (sym c.held.ensures) spells))
