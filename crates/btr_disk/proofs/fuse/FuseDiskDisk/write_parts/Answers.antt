use Rattle.std.specs.Prelude.{◌*◌, ◌++◌, length}
use Rattle.btr_disk.proofs.FuseImages.{cut_off_time}
use Rattle.btr_disk.proofs.fuse.FuseDiskDisk.write_parts.Goals as goal

pub returns-then-self-eq0-clause-writes : goal.returns-then-self-eq0-clause-writes
returns-then-self-eq0-clause-writes g c is_observable =
    let laws = g.met.D.Disk in
    let old = c.args.self.now.disk in
    let new = c.write_parts.new.self in
    let done = c.write_parts.ensures.writes is_observable in
    record {
      written = tt;
      elsewhere = done.elsewhere;
      images = done.images;
      time = cut_off_time g.D.Disk old new c.write_parts.ensures.calls done.time c.args.self.now.withheld
          (4096 * c.args.first) (length (c.args.prefix.now ++ g.S.Blocks.bytes c.args.rest.now)) (laws.image_bytes is_observable old) done.images.unsynced
          (laws.counts_now is_observable new) (laws.only_now is_observable old) (laws.fewer_later is_observable new);
    }
