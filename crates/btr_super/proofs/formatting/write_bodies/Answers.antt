use Rattle.std.proofs.Common.{◌≡◌, ◌*◌, length, ◌∙◌, ap, subst, arith}
use Rattle.btr_disk.specs.Bytes.{Image, Has, SameBut, SameButTwo}
use Rattle.btr_disk.specs.Images.{Torn}
use Rattle.btr_disk.specs.Gate.{zeros}
use Rattle.btr_disk.proofs.ByteLemmas.{Has-Same, Has-below, Same-trans, SameButTwo-from}
use Rattle.btr_super.specs.Super.{super_bytes, first_super}
use Rattle.btr_super.specs.Format.{HasBodies}
use Rattle.btr_super.proofs.SuperLemmas.{length-super_bytes}
use Rattle.btr_super.proofs.Writing.{after_sync, on_ok, torn_again, SameButTwo-Same, next_step, one_written, two_written}
use Rattle.btr_super.proofs.formatting.write_bodies.Goals as goal

pub returns-in_err-write-clause-moments : goal.returns-in_err-write-clause-moments
returns-in_err-write-clause-moments g c is_observable settled =
    let disk = g.D.Disk in
    let d0 = c.args.device.now in
    let d1 = c.write.new.self in
    let n : length c.encode.result ≡ 4096 = ap length c.encode.ensures ∙ length-super_bytes (first_super c.args.blocks) in
    let torn : Torn (4096 * 1) 4096 (disk.images_now d0) (disk.images_now d1) = rw n at (c.write.ensures.writes is_observable).images.torn in
    one_written disk.calls disk.images_since disk.images_now d0 (g.met.D.Disk.only_now is_observable d0) (disk.contents d0) settled (4096 * 1) 4096 (4096 * 4) 4096 d1
    (record { counted = c.write.ensures.calls; time = (c.write.ensures.writes is_observable).time }) torn

pub returns-in_err-write-2-clause-elsewhere : goal.returns-in_err-write-2-clause-elsewhere
returns-in_err-write-2-clause-elsewhere g c is_observable =
    let disk = g.D.Disk in
    let d0 = c.args.device.now in
    let d1 = c.write.new.self in
    let n : length c.encode.result ≡ 4096 = ap length c.encode.ensures ∙ length-super_bytes (first_super c.args.blocks) in
    let but : SameBut (4096 * 1) 4096 (disk.contents d0) (disk.contents d1) = rw n at (c.write.ensures.writes is_observable).elsewhere in
    SameButTwo-from (4096 * 1) 4096 (4096 * 4) 4096 (disk.contents d0) (disk.contents d1) (disk.contents c.write-2.new.self) but (c.write-2.ensures.writes is_observable).elsewhere

pub returns-in_err-write-2-clause-moments : goal.returns-in_err-write-2-clause-moments
returns-in_err-write-2-clause-moments g c is_observable settled =
    let disk = g.D.Disk in
    let d0 = c.args.device.now in
    let d1 = c.write.new.self in
    let n : length c.encode.result ≡ 4096 = ap length c.encode.ensures ∙ length-super_bytes (first_super c.args.blocks) in
    let torn : Torn (4096 * 1) 4096 (disk.images_now d0) (disk.images_now d1) = rw n at (c.write.ensures.writes is_observable).images.torn in
    two_written disk.calls disk.images_since disk.images_now d0 (g.met.D.Disk.only_now is_observable d0) (disk.contents d0) settled (4096 * 1) 4096 (4096 * 4) 4096 d1 c.write-2.new.self
    (record { counted = c.write.ensures.calls; time = (c.write.ensures.writes is_observable).time }) torn
    (record { counted = c.write-2.ensures.calls; time = (c.write-2.ensures.writes is_observable).time }) (c.write-2.ensures.writes is_observable).images.torn

pub returns-clause-stored : goal.returns-clause-stored
unfolding zeros
returns-clause-stored g c is_observable =
    let disk = g.D.Disk in
    let d1 = c.write.new.self in
    let d2 = c.write-2.new.self in
    let d3 = c.sync.new.self in
    let body = super_bytes (first_super c.args.blocks) in
    let n = length-super_bytes (first_super c.args.blocks) in
    let first : Has (disk.contents d1) (4096 * 1) body = subst (Has (disk.contents d1) (4096 * 1)) c.encode.ensures (c.in_ok-write.ensures.writes is_observable).written in
    let second : Has (disk.contents d2) (4096 * 1) body =
    Has-below (4096 * 4) 4096 (disk.contents d1) (disk.contents d2) (c.write-2.ensures.writes is_observable).elsewhere (4096 * 1) body (omega (arith, n)) first in
    on_ok c.sync.result (HasBodies c.args.blocks (disk.contents d3)) (record {
      body = Has-Same (disk.contents d2) (disk.contents d3) (4096 * 1) body (c.sync.ensures.contents is_observable) second;
      log = Has-Same (disk.contents d2) (disk.contents d3) (4096 * 4) (zeros 4096) (c.sync.ensures.contents is_observable) (c.in_ok-write-2.ensures.writes is_observable).written;
    })

pub returns-clause-elsewhere : goal.returns-clause-elsewhere
returns-clause-elsewhere g c is_observable =
    let disk = g.D.Disk in
    let d0 = c.args.device.now in
    let d1 = c.write.new.self in
    let d2 = c.write-2.new.self in
    let n : length c.encode.result ≡ 4096 = ap length c.encode.ensures ∙ length-super_bytes (first_super c.args.blocks) in
    let but : SameBut (4096 * 1) 4096 (disk.contents d0) (disk.contents d1) = rw n at (c.write.ensures.writes is_observable).elsewhere in
    SameButTwo-Same (4096 * 1) 4096 (4096 * 4) 4096 (disk.contents d0) (disk.contents d2) (disk.contents c.sync.new.self)
    (SameButTwo-from (4096 * 1) 4096 (4096 * 4) 4096 (disk.contents d0) (disk.contents d1) (disk.contents d2) but (c.write-2.ensures.writes is_observable).elsewhere) (c.sync.ensures.contents is_observable)

pub returns-clause-moments : goal.returns-clause-moments
returns-clause-moments g c is_observable settled =
    let disk = g.D.Disk in
    let d0 = c.args.device.now in
    let d1 = c.write.new.self in
    let d2 = c.write-2.new.self in
    let d3 = c.sync.new.self in
    let old = disk.contents d0 in
    let P : Image → Type 0 = SameButTwo (4096 * 1) 4096 (4096 * 4) 4096 old in
    let n : length c.encode.result ≡ 4096 = ap length c.encode.ensures ∙ length-super_bytes (first_super c.args.blocks) in
    let torn : Torn (4096 * 1) 4096 (disk.images_now d0) (disk.images_now d1) = rw n at (c.write.ensures.writes is_observable).images.torn in
    let but : SameBut (4096 * 1) 4096 old (disk.contents d1) = rw n at (c.write.ensures.writes is_observable).elsewhere in
    let two : SameButTwo (4096 * 1) 4096 (4096 * 4) 4096 old (disk.contents d2) =
    SameButTwo-from (4096 * 1) 4096 (4096 * 4) 4096 old (disk.contents d1) (disk.contents d2) but (c.write-2.ensures.writes is_observable).elsewhere in
    next_step disk.calls disk.images_since disk.images_now P d0 d2 d3
    (two_written disk.calls disk.images_since disk.images_now d0 (g.met.D.Disk.only_now is_observable d0) old settled (4096 * 1) 4096 (4096 * 4) 4096 d1 d2
    (record { counted = c.write.ensures.calls; time = (c.write.ensures.writes is_observable).time }) torn
    (record { counted = c.write-2.ensures.calls; time = (c.write-2.ensures.writes is_observable).time }) (c.write-2.ensures.writes is_observable).images.torn)
    (record { counted = c.sync.ensures.calls; time = c.sync.ensures.time is_observable })
    (after_sync c.sync.result (disk.contents d3) (disk.images_now d2) (disk.images_now d3) P (c.sync.ensures.synced is_observable) (c.sync.ensures.unsynced is_observable)
    (λ x same. SameButTwo-Same (4096 * 1) 4096 (4096 * 4) 4096 old (disk.contents d2) x two (Same-trans (disk.contents d2) (disk.contents d3) x (c.sync.ensures.contents is_observable) same))
    (torn_again (4096 * 1) 4096 (4096 * 4) 4096 old (disk.images_now d0) (disk.images_now d1) (disk.images_now d2) settled torn (c.write-2.ensures.writes is_observable).images.torn))
