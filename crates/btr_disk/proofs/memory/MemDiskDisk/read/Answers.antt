use Rattle.std.specs.Prelude.{◌≡◌, ◌+◌, ◌-◌, ◌*◌, ◌≤◌, ℕ, List, length, take, drop}
use Rattle.std.proofs.Common.{arith, ap, ◌∙◌, sym, subst}
use Rattle.btr_disk.specs.Bytes.{Has}
use Rattle.btr_disk.specs.CallRecord.{contents_of}
use Rattle.btr_disk.proofs.ByteLemmas.{Same-refl}
use Rattle.btr_disk.proofs.Recording.{nothing_recorded, nothing_changed, Has-part}
use Rattle.btr_disk.proofs.memory.MemDiskDisk.read.Goals as goal

pub returns-then-fails-clause-reads : goal.returns-then-fails-clause-reads
returns-then-fails-clause-reads c = record {
  bytes = tt;
  same = Same-refl (contents_of c.args.self.now.bytes.items);
  images = nothing_changed (contents_of c.args.self.now.bytes.items) c.args.self.now.made c.note.new.self c.if-not-note.ensures.recorded;
  time = nothing_recorded (contents_of c.args.self.now.bytes.items) c.args.self.now.made c.note.new.self c.if-not-note.ensures.recorded;
}

pub returns-clause-reads : goal.returns-clause-reads
returns-clause-reads c =
    let bytes = c.args.self.now.bytes.items in
    let a = 4096 * c.args.first in
    let n = length c.args.buf.now in
    let size : (a + n) - a ≡ n = omega arith in
    let fits : a + n ≤ length bytes = omega (arith, c.requires.inside) in
    let is : c.copy_from_slice.new.self ≡ take n (drop a bytes) =
    c.copy_from_slice.ensures.after ∙ ap (λ (x : ℕ). take x (drop a c.deref.result.now)) size ∙ ap (λ (l : List ℕ). take n (drop a l)) c.deref.ensures.value in
    record {
      bytes = subst (λ (l : List ℕ). Has (contents_of bytes) a l) (sym is) (Has-part bytes a n fits);
      same = Same-refl (contents_of bytes);
      images = nothing_changed (contents_of bytes) c.args.self.now.made c.note.new.self c.if-not-note.ensures.recorded;
      time = nothing_recorded (contents_of bytes) c.args.self.now.made c.note.new.self c.if-not-note.ensures.recorded;
    }
