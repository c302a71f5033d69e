use Rattle.std.specs.Prelude.{◌+◌, ◌*◌, ◌≤◌, ℕ, List, length, drop}
use Rattle.std.proofs.Common.{arith, subst, length-take, length-drop}
use Rattle.btr_disk.specs.Bytes.{Image, SameBut}
use Rattle.btr_disk.specs.CallRecord.{contents_of}
use Rattle.btr_disk.proofs.Recording.{Has-part, write_recorded, write_images}
use Rattle.btr_disk.proofs.memory.MemDiskDisk.write.Goals as goal

pub returns-clause-writes : goal.returns-clause-writes
returns-clause-writes c =
    let bytes = c.args.self.now.bytes.items in
    let now : Image = contents_of c.overwrite.new.file.items in
    let a = 4096 * c.args.first in
    let n = length c.args.bytes.now in
    let fits : a + n ≤ length bytes = omega (arith, c.requires.inside) in
    let recorded = c.in_ok-begin_write.ensures.recorded in
    let but = subst (λ (l : List ℕ). SameBut a n (contents_of l) now) c.begin_write.ensures.bytes c.overwrite.ensures.elsewhere in
    record {
      written = c.overwrite.ensures.written;
      elsewhere = but;
      images = write_images a n _ (contents_of bytes) now c.args.self.now.made c.begin_write.new.self.made recorded but c.args.self.now.are_bytes;
      time = write_recorded a n _ (contents_of bytes) now c.args.self.now.made c.begin_write.new.self.made
          (omega (arith, fits, length-take n (drop a bytes), length-drop a bytes)) recorded (Has-part bytes a n fits) but;
    }
