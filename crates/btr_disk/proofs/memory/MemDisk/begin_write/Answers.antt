use Rattle.std.specs.Prelude.{◌≡◌, ◌+◌, ◌-◌, ◌*◌, ◌/◌, ◌≤◌, ℕ, List, length, take, drop}
use Rattle.std.proofs.Common.{arith, ap, ◌∙◌, sym, subst, length-take, length-drop}
use Rattle.btr_disk.specs.Bytes.{Image, Has}
use Rattle.btr_disk.proofs.ByteLemmas.{SameBut-refl}
use Rattle.btr_disk.specs.Images.{Tears}
use Rattle.btr_disk.specs.Memory.{images_of}
use Rattle.btr_disk.specs.CallRecord.{contents_of, MayLeaveNow}
use Rattle.btr_disk.proofs.Recording.{Has-part, tear_time, tear_images, write_recorded, write_images}
use Rattle.btr_disk.proofs.memory.MemDisk.begin_write.Goals as goal

-- the bytes that a write replaces, as the code takes them
module _ (bytes taken : List ℕ) (a n : ℕ) (fits : a + n ≤ length bytes) (same : taken ≡ bytes) where
  part : take ((a + n) - a) (drop a taken) ≡ take n (drop a bytes)
  part =
      let size : (a + n) - a ≡ n = omega arith in
      ap (λ (x : ℕ). take x (drop a taken)) size ∙ ap (λ (l : List ℕ). take n (drop a l)) same

  part_has : Has (contents_of bytes) a (take ((a + n) - a) (drop a taken))
  part_has = subst (λ (l : List ℕ). Has (contents_of bytes) a l) (sym part) (Has-part bytes a n fits)

  part_length : length (take ((a + n) - a) (drop a taken)) ≡ n
  part_length = ap length part ∙ omega (arith, length-take n (drop a bytes), length-drop a bytes)

pub returns-then-fails-clause-images : goal.returns-then-fails-clause-images
returns-then-fails-clause-images c =
    let was : Image = contents_of c.args.self.now.bytes.items in
    let a = 4096 * c.args.first in
    let n = c.args.count in
    write_images a n _ was was c.args.self.now.made c.note.new.self c.if-not-note.ensures.recorded (SameBut-refl a n was) c.args.self.now.are_bytes

pub returns-then-fails-clause-time : goal.returns-then-fails-clause-time
returns-then-fails-clause-time c =
    let bytes = c.args.self.now.bytes.items in
    let was : Image = contents_of bytes in
    let a = 4096 * c.args.first in
    let n = c.args.count in
    let fits : a + n ≤ length bytes = omega (arith, c.requires.inside) in
    write_recorded a n _ was was c.args.self.now.made c.note.new.self (part_length bytes c.deref.result.now a n fits c.deref.ensures.value) c.if-not-note.ensures.recorded
    (part_has bytes c.deref.result.now a n fits c.deref.ensures.value) (SameBut-refl a n was)

pub returns-then-not-note-clause-images : goal.returns-then-not-note-clause-images
returns-then-not-note-clause-images c =
    let disk = c.args.self.now in
    let n = c.args.count in
    let whole : 4096 * (n / 4096) ≡ n = omega (arith, c.requires.whole) in
    subst (λ (x : ℕ). Tears (4096 * c.args.first) x (images_of disk) (MayLeaveNow (contents_of disk.bytes.items) c.tear.new.self)) whole
    (tear_images c.args.first (n / 4096) (contents_of disk.bytes.items) disk.made c.note.new.self c.tear.new.self c.if-not-note.ensures.recorded c.tear.ensures disk.are_bytes)

pub returns-then-not-note-clause-time : goal.returns-then-not-note-clause-time
returns-then-not-note-clause-time c =
    tear_time c.args.first (c.args.count / 4096) (contents_of c.args.self.now.bytes.items) c.args.self.now.made c.note.new.self c.tear.new.self c.if-not-note.ensures.recorded c.tear.ensures
