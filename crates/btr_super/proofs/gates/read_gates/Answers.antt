use Rattle.btr_disk.specs.declared.disk.Disk.{Ghosts}
use Rattle.btr_disk.specs.Bytes.{Image, Same}
use Rattle.btr_disk.specs.Causes.{Counted}
use Rattle.btr_disk.specs.Images.{Only}
use Rattle.btr_disk.specs.Moments.{Elapses, WroteNothing, IsUnwritten}
use Rattle.btr_disk.proofs.MomentLemmas.{nothing_composes, unwritten_synced}
use Rattle.btr_super.proofs.gates.read_gates.Goals as goal

-- a sync that succeeded, and then calls that write nothing
module _ {D : Type 0} (disk : Ghosts D) (d0 d1 d2 : D) (now : (x : Image) → disk.images_since d0 (disk.calls d0) x → disk.images_now d0 x) (reads : disk.images_now d0 (disk.contents d0)) (counted : Counted (disk.calls d0) (disk.calls d1)) (time : Elapses (disk.calls d0) (disk.images_since d0) (disk.images_since d1) (disk.images_now d1)) (same : Same (disk.contents d0) (disk.contents d1)) (only : Only (disk.contents d1) (disk.images_now d1)) (first : WroteNothing disk.calls disk.contents disk.images_now disk.images_since d1 d2) where
  one_read : IsUnwritten disk.calls disk.contents disk.images_now disk.images_since d0 d2
  one_read = unwritten_synced disk.calls disk.images_since disk.contents disk.images_now d0 d1 d2 now reads counted time same only first

  both_read : (d3 : D) → WroteNothing disk.calls disk.contents disk.images_now disk.images_since d2 d3 → IsUnwritten disk.calls disk.contents disk.images_now disk.images_since d0 d3
  both_read d3 second =
      unwritten_synced disk.calls disk.images_since disk.contents disk.images_now d0 d1 d3 now reads counted time same only
      (nothing_composes disk.calls disk.images_since disk.contents disk.images_now d1 d2 d3 first second)

pub returns-in_err-first-clause-unwritten : goal.returns-in_err-first-clause-unwritten
returns-in_err-first-clause-unwritten g c is_observable =
    one_read g.D.Disk c.args.device.now c.sync.new.self c.read_gate.new.device (g.met.D.Disk.only_now is_observable c.args.device.now) (g.met.D.Disk.reads_as_image is_observable c.args.device.now)
    c.sync.ensures.calls (c.sync.ensures.time is_observable) (c.sync.ensures.contents is_observable) (c.in_ok-sync.ensures.synced is_observable) (c.read_gate.ensures.nothing is_observable)

pub returns-in_err-second-clause-unwritten : goal.returns-in_err-second-clause-unwritten
returns-in_err-second-clause-unwritten g c is_observable =
    both_read g.D.Disk c.args.device.now c.sync.new.self c.read_gate.new.device (g.met.D.Disk.only_now is_observable c.args.device.now) (g.met.D.Disk.reads_as_image is_observable c.args.device.now)
    c.sync.ensures.calls (c.sync.ensures.time is_observable) (c.sync.ensures.contents is_observable) (c.in_ok-sync.ensures.synced is_observable) (c.read_gate.ensures.nothing is_observable)
    c.read_gate-2.new.device (c.read_gate-2.ensures.nothing is_observable)

pub returns-clause-unwritten : goal.returns-clause-unwritten
returns-clause-unwritten g c is_observable =
    both_read g.D.Disk c.args.device.now c.sync.new.self c.read_gate.new.device (g.met.D.Disk.only_now is_observable c.args.device.now) (g.met.D.Disk.reads_as_image is_observable c.args.device.now)
    c.sync.ensures.calls (c.sync.ensures.time is_observable) (c.sync.ensures.contents is_observable) (c.in_ok-sync.ensures.synced is_observable) (c.read_gate.ensures.nothing is_observable)
    c.read_gate-2.new.device (c.read_gate-2.ensures.nothing is_observable)
