use Rattle.std.proofs.Common.{ℕ, ◌*◌, inl, inr}
use Rattle.btr_disk.specs.declared.disk.Disk.{Ghosts}
use Rattle.btr_disk.specs.Bytes.{Image}
use Rattle.btr_disk.specs.Gate.{IsOpen}
use Rattle.btr_disk.specs.Moments.{Leaves, WroteNothing}
use Rattle.btr_disk.proofs.ByteLemmas.{SameBut-trans, SameBut-from_Same}
use Rattle.btr_disk.proofs.MomentLemmas.{composes, weakens}
use Rattle.btr_super.specs.Replace.{IsButBlock, IsClosing}
use Rattle.btr_super.proofs.replacing.close_gate.Goals as goal

-- The gate was read and found open, and then written.
read_and_written : {D : Type 0} (disk : Ghosts D) (d0 d1 d2 : D) (block : ℕ) → IsOpen (disk.contents d0) block → WroteNothing disk.calls disk.contents disk.images_now disk.images_since d0 d1 → Leaves disk.calls disk.images_since d1 d2 (IsButBlock block (disk.images_now d1)) → Leaves disk.calls disk.images_since d0 d2 (IsClosing block (disk.contents d0) (disk.images_now d0))
read_and_written disk d0 d1 d2 block opened nothing written =
    let P : Image → Type 0 = IsClosing block (disk.contents d0) (disk.images_now d0) in
    composes disk.calls disk.images_since d0 d1 d2 P
    (weakens disk.calls disk.images_since d0 d1 (disk.images_now d0) P (λ x left. inl left) nothing.moments)
    (weakens disk.calls disk.images_since d1 d2 (IsButBlock block (disk.images_now d1)) P (λ x but. inr (opened, (but.0, nothing.images.none_new but.0 but.1, but.2))) written)

pub returns-in_err-write_block-clause-moments : goal.returns-in_err-write_block-clause-moments
returns-in_err-write_block-clause-moments g c is_observable =
    read_and_written g.D.Disk c.args.device.now c.read_gate.new.device c.write_block.new.device c.args.block ((c.in_ok-opened.ensures.gate is_observable).0 c.if-opened.true)
    (c.read_gate.ensures.nothing is_observable) (c.write_block.ensures.writes is_observable).moments

pub returns-in_ok-write_block-clause-elsewhere : goal.returns-in_ok-write_block-clause-elsewhere
returns-in_ok-write_block-clause-elsewhere g c is_observable =
    let contents = g.D.Disk.contents in
    let d0 = c.args.device.now in
    let d1 = c.read_gate.new.device in
    SameBut-trans (4096 * c.args.block) 4096 (contents d0) (contents d1) (contents c.write_block.new.device)
    (SameBut-from_Same (4096 * c.args.block) 4096 (contents d0) (contents d1) (c.read_gate.ensures.nothing is_observable).same) (c.write_block.ensures.writes is_observable).elsewhere

pub returns-in_ok-write_block-clause-moments : goal.returns-in_ok-write_block-clause-moments
returns-in_ok-write_block-clause-moments g c is_observable =
    read_and_written g.D.Disk c.args.device.now c.read_gate.new.device c.write_block.new.device c.args.block ((c.in_ok-opened.ensures.gate is_observable).0 c.if-opened.true)
    (c.read_gate.ensures.nothing is_observable) (c.write_block.ensures.writes is_observable).moments
