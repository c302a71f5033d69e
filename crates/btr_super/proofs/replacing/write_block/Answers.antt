use Rattle.std.proofs.Common.{◌*◌, rules}
use Rattle.btr_disk.specs.Bytes.{Image, SameBut}
use Rattle.btr_disk.specs.Images.{Torn}
use Rattle.btr_disk.proofs.ByteLemmas.{Has-Same, Same-trans, SameBut-refl, SameBut-trans, SameBut-from_Same}
use Rattle.btr_super.specs.Replace.{IsButBlock}
use Rattle.btr_super.proofs.Writing.{after_sync, on_ok, first_step, next_step}
use Rattle.btr_super.proofs.replacing.write_block.Goals as goal

pub returns-in_err-write-clause-writes : goal.returns-in_err-write-clause-writes
returns-in_err-write-clause-writes g c is_observable =
    let disk = g.D.Disk in
    let d0 = c.args.device.now in
    let d1 = c.write.new.self in
    let a = 4096 * c.args.block in
    let wrote = c.write.ensures.writes is_observable in
    let torn : Torn a 4096 (disk.images_now d0) (disk.images_now d1) = rw c.requires.one_block at wrote.images.torn in
    let but : SameBut a 4096 (disk.contents d0) (disk.contents d1) = rw c.requires.one_block at wrote.elsewhere in
    record {
      written = search rules;
      elsewhere = but;
      synced = search rules;
      moments = first_step disk.calls disk.images_since disk.images_now (IsButBlock c.args.block (disk.images_now d0)) d0 d1 (g.met.D.Disk.only_now is_observable d0)
          (record { counted = c.write.ensures.calls; time = wrote.time }) (λ x left. (x, left, SameBut-refl a 4096 x)) torn;
    }

pub returns-clause-writes : goal.returns-clause-writes
returns-clause-writes g c is_observable =
    let disk = g.D.Disk in
    let d0 = c.args.device.now in
    let d1 = c.write.new.self in
    let d2 = c.sync.new.self in
    let a = 4096 * c.args.block in
    let P : Image → Type 0 = IsButBlock c.args.block (disk.images_now d0) in
    let wrote = c.write.ensures.writes is_observable in
    let same = c.sync.ensures.contents is_observable in
    let torn : Torn a 4096 (disk.images_now d0) (disk.images_now d1) = rw c.requires.one_block at wrote.images.torn in
    let but : SameBut a 4096 (disk.contents d0) (disk.contents d1) = rw c.requires.one_block at wrote.elsewhere in
    let first = first_step disk.calls disk.images_since disk.images_now P d0 d1 (g.met.D.Disk.only_now is_observable d0) (record { counted = c.write.ensures.calls; time = wrote.time })
    (λ x left. (x, left, SameBut-refl a 4096 x)) torn in
    record {
      written = on_ok c.sync.result _ (Has-Same (disk.contents d1) (disk.contents d2) a c.args.bytes.now same (c.in_ok-write.ensures.writes is_observable).written);
      elsewhere = SameBut-trans a 4096 (disk.contents d0) (disk.contents d1) (disk.contents d2) but (SameBut-from_Same a 4096 (disk.contents d1) (disk.contents d2) same);
      synced = c.sync.ensures.synced is_observable;
      moments = next_step disk.calls disk.images_since disk.images_now P d0 d1 d2 first (record { counted = c.sync.ensures.calls; time = c.sync.ensures.time is_observable })
          (after_sync c.sync.result (disk.contents d2) (disk.images_now d1) (disk.images_now d2) P (c.sync.ensures.synced is_observable) (c.sync.ensures.unsynced is_observable)
          (λ x kept. (
            disk.contents d0,
            g.met.D.Disk.reads_as_image is_observable d0,
            SameBut-trans a 4096 (disk.contents d0) (disk.contents d1) x but
                (SameBut-from_Same a 4096 (disk.contents d1) x (Same-trans (disk.contents d1) (disk.contents d2) x same kept)),
          ))
          torn);
    }
