use Rattle.std.proofs.Common.{◌≡◌, ◌*◌, length, ◌∙◌, ap, subst}
use Rattle.btr_disk.specs.Bytes.{Image, Has, SameBut}
use Rattle.btr_disk.specs.Images.{Torn}
use Rattle.btr_disk.specs.Gate.{gate_block}
use Rattle.btr_disk.proofs.GateLemmas.{length-gate_block}
use Rattle.btr_disk.proofs.ByteLemmas.{Has-Same, SameBut-trans, SameBut-from_Same}
use Rattle.btr_disk.proofs.ImageLemmas.{Torn-Only}
use Rattle.btr_super.proofs.Writing.{after_sync, on_ok, first_step, next_step}
use Rattle.btr_super.proofs.formatting.open_first_gate.Goals as goal

pub returns-clause-gate : goal.returns-clause-gate
returns-clause-gate g c is_observable =
    let disk = g.D.Disk in
    let d1 = c.write.new.self in
    let d2 = c.sync.new.self in
    let has : Has (disk.contents d1) (4096 * 0) gate_block = subst (Has (disk.contents d1) (4096 * 0)) c.open_gate.ensures (c.in_ok-write.ensures.writes is_observable).written in
    on_ok c.sync.result (Has (disk.contents d2) (4096 * 0) gate_block) (Has-Same (disk.contents d1) (disk.contents d2) (4096 * 0) gate_block (c.sync.ensures.contents is_observable) has)

pub returns-clause-moments : goal.returns-clause-moments
returns-clause-moments g c is_observable settled =
    let disk = g.D.Disk in
    let d0 = c.args.device.now in
    let d1 = c.write.new.self in
    let d2 = c.sync.new.self in
    let old = disk.contents d0 in
    let P : Image → Type 0 = SameBut (4096 * 0) 4096 old in
    let n : length c.open_gate.result ≡ 4096 = ap length c.open_gate.ensures ∙ length-gate_block in
    let torn : Torn (4096 * 0) 4096 (disk.images_now d0) (disk.images_now d1) = rw n at (c.write.ensures.writes is_observable).images.torn in
    let but : SameBut (4096 * 0) 4096 old (disk.contents d1) = rw n at (c.write.ensures.writes is_observable).elsewhere in
    let first = first_step disk.calls disk.images_since disk.images_now P d0 d1 (g.met.D.Disk.only_now is_observable d0) (record { counted = c.write.ensures.calls; time = (c.write.ensures.writes is_observable).time })
    (λ x left. SameBut-from_Same (4096 * 0) 4096 old x (settled.each x left)) (Torn-Only (4096 * 0) 4096 old (disk.images_now d0) (disk.images_now d1) settled torn) in
    next_step disk.calls disk.images_since disk.images_now P d0 d1 d2 first (record { counted = c.sync.ensures.calls; time = c.sync.ensures.time is_observable })
    (after_sync c.sync.result (disk.contents d2) (disk.images_now d1) (disk.images_now d2) P (c.sync.ensures.synced is_observable) (c.sync.ensures.unsynced is_observable)
    (λ x same. SameBut-trans (4096 * 0) 4096 old (disk.contents d1) x but
    (SameBut-trans (4096 * 0) 4096 (disk.contents d1) (disk.contents d2) x (SameBut-from_Same (4096 * 0) 4096 (disk.contents d1) (disk.contents d2) (c.sync.ensures.contents is_observable)) (SameBut-from_Same (4096 * 0) 4096 (disk.contents d2) x same)))
    (Torn-Only (4096 * 0) 4096 old (disk.images_now d0) (disk.images_now d1) settled torn))
