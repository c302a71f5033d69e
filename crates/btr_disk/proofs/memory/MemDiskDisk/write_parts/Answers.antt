use Rattle.std.specs.Prelude.{◌≡◌, ◌+◌, ◌*◌, ◌≤◌, ◌++◌, ℕ, List, length, drop}
use Rattle.std.proofs.Common.{arith, subst, length-append, length-take, length-drop}
use Rattle.btr_disk.specs.Bytes.{Image, Has, SameBut}
use Rattle.btr_disk.specs.CallRecord.{contents_of}
use Rattle.btr_disk.specs.Memory.{RecordsWrite}
use Rattle.btr_disk.proofs.PartLemmas.{written_more, changed_more}
use Rattle.btr_disk.proofs.Recording.{Has-part, write_recorded, write_images}
use Rattle.btr_disk.proofs.memory.MemDiskDisk.write_parts.Goals as goal

-- what the prefix and the blocks after it leave
module _ (address n : ℕ) (parts prefix rest : List ℕ) (mid now : Image) (list : parts ≡ prefix) (place : n ≡ length prefix) (then : SameBut (address + n) (length rest) mid now) where
  after : SameBut (address + length prefix) (length rest) mid now
  after = subst (λ (i : ℕ). SameBut (address + i) (length rest) mid now) place then

  written : Has mid address parts → Has now (address + n) rest → Has now address (prefix ++ rest)
  written first last =
      written_more address prefix rest mid mid now after (subst (Has mid address) list first)
      (subst (λ (i : ℕ). Has now (address + i) rest) place last)

  changed : (bytes kept : List ℕ) → kept ≡ bytes → SameBut address (length parts) (contents_of kept) mid → SameBut address (length (prefix ++ rest)) (contents_of bytes) now
  changed bytes kept same but =
      changed_more address prefix rest (contents_of bytes) mid now after
      (subst (λ (l : List ℕ). SameBut address (length prefix) (contents_of l) mid) same
      (subst (λ (l : List ℕ). SameBut address (length l) (contents_of kept) mid) list but))

pub returns-clause-writes : goal.returns-clause-writes
returns-clause-writes g c =
    let prefix = c.args.prefix.now in
    let rest = g.S.Blocks.bytes c.args.rest.now in
    let bytes = c.args.self.now.bytes.items in
    let a = 4096 * c.args.first in
    let n = length (prefix ++ rest) in
    let mid : Image = contents_of c.overwrite_parts.new.file.items in
    let now : Image = contents_of c.overwrite_blocks.new.file.items in
    let fits : a + n ≤ length bytes = omega (arith, c.requires.range.inside) in
    let count : c.len.result + 4096 * c.blocks-2.result ≡ n = omega (arith, c.len.ensures, c.blocks-2.ensures.whole, length-append prefix rest) in
    let recorded = subst (λ (x : ℕ). RecordsWrite a x c.args.self.now c.begin_write.new.self) count c.in_ok-begin_write.ensures.recorded in
    let but = changed a c.len-2.result _ prefix rest mid now c.as_slices.ensures c.len-2.ensures c.overwrite_blocks.ensures.elsewhere
    bytes c.begin_write.new.self.bytes.items c.begin_write.ensures.bytes c.overwrite_parts.ensures.elsewhere in
    record {
      written = written a c.len-2.result _ prefix rest mid now c.as_slices.ensures c.len-2.ensures c.overwrite_blocks.ensures.elsewhere
          c.overwrite_parts.ensures.written c.overwrite_blocks.ensures.written;
      elsewhere = but;
      images = write_images a n _ (contents_of bytes) now c.args.self.now.made c.begin_write.new.self.made recorded but c.args.self.now.are_bytes;
      time = write_recorded a n _ (contents_of bytes) now c.args.self.now.made c.begin_write.new.self.made
          (omega (arith, fits, length-take n (drop a bytes), length-drop a bytes)) recorded (Has-part bytes a n fits) but;
    }
