use Rattle.std.proofs.Common.{◌*◌, refl, subst, sym}
use Rattle.btr_open.specs.Loading.{IsDeviceBlock}
use Rattle.btr_disk.proofs.ByteLemmas.{Has-Same}
use Rattle.btr_open.proofs.BelowLemmas.{block-held, block-was}
use Rattle.btr_open.proofs.below.BlockReader.block.Goals as goal

pub returns-then-holds-clause-bytes : goal.returns-then-holds-clause-bytes
returns-then-holds-clause-bytes g c reported =
    let image = g.D.Disk.contents c.args.disk.now in
    let piece = c.args.self.now.ahead in
    subst (IsDeviceBlock image c.args.block) (sym c.held.ensures) (block-held piece c.args.block (c.holds.ensures.0 c.if-holds.true) image (c.requires.reader.holds reported).ahead)

pub returns-then-block-self-clause-reads : goal.returns-then-block-self-clause-reads
returns-then-block-self-clause-reads g c =
    let disk = g.D.Disk in
    let reads = c.read.ensures.reads in
    record {
      limit = refl;
      reads = reads;
      holds = λ reported.
          let held = c.requires.reader.holds reported in
          let old = disk.contents c.args.disk.now in
          let new = disk.contents c.read.new.disk in
          let same = (reads.nothing reported).same in
          record {
            ahead = Has-Same old new (4096 * c.args.self.now.ahead.first) c.args.self.now.ahead.bytes same held.ahead;
            one = c.read.ensures.piece reported held.one;
          };
    }

pub returns-then-block-self-clause-bytes : goal.returns-then-block-self-clause-bytes
returns-then-block-self-clause-bytes g c reported =
    let disk = g.D.Disk in
    let old = disk.contents c.args.disk.now in
    let new = disk.contents c.read.new.disk in
    subst (IsDeviceBlock old c.args.block) (sym c.held-then-block-self.ensures) (block-was c.read.new.piece c.args.block c.in_ok-read.ensures.held old new (c.read.ensures.reads.nothing reported).same (c.read.ensures.piece reported (c.requires.reader.holds reported).one))

pub returns-clause-bytes : goal.returns-clause-bytes
returns-clause-bytes g c reported =
    let disk = g.D.Disk in
    let old = disk.contents c.args.disk.now in
    let new = disk.contents c.read_run.new.disk in
    subst (IsDeviceBlock old c.args.block) (sym c.held-2.ensures) (block-was c.read_run.new.self.ahead c.args.block c.in_ok-read_run.ensures.held old new (c.read_run.ensures.reads.reads.nothing reported).same (c.read_run.ensures.reads.holds reported).ahead)
