use Rattle.std.proofs.Common.{◌<◌, refl, subst, arith}
use Rattle.btr_disk.specs.Bytes.{Same}
use Rattle.btr_shelf.proofs.BlockLemmas.{page-there, no-page}
use Rattle.btr_shelf.proofs.disk_nodes.DiskNodesNodes.node.Goals as goal

pub returns-in-Some-clause-page : goal.returns-in-Some-clause-page
returns-in-Some-clause-page g c o =
    let disk = g.D.Disk in
    let held = c.in_ok-hold.ensures in
    let first = c.args.self.now.start.value in
    let end = c.blocks-2.ensures in
    let low = c.if-block-blocks.false in
    let size = c.args.self.now.counts.same_size in
    let inside : c.args.block < disk.size first = omega arith in
    let same = subst (λ s. Same (disk.contents s.value) (disk.contents c.hold.new.self.disk)) held.start (c.hold.new.self.stays o) in
    page-there (disk.contents first) (disk.contents c.hold.new.self.disk) (disk.size first) c.args.block c.hold.new.self.bytes c.in-Some.page inside same (held.held o) held.long c.in-Some.ensures.found c.in-Some.ensures.fits

pub returns-in-None-clause-cause : goal.returns-in-None-clause-cause
returns-in-None-clause-cause g c =
    let disk = g.D.Disk in
    let held = c.in_ok-hold.ensures in
    let first = c.args.self.now.start.value in (
      refl,
      λ o.
          let same = subst (λ s. Same (disk.contents s.value) (disk.contents c.hold.new.self.disk)) held.start (c.hold.new.self.stays o) in
          no-page (disk.contents first) (disk.contents c.hold.new.self.disk) (disk.size first) c.args.block c.hold.new.self.bytes c.decode.result same (held.held o) held.long c.in-None.is c.decode.ensures.only,
    )
