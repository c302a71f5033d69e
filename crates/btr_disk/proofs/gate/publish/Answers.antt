use Rattle.std.specs.Prelude.{ℕ, ◌+◌, ◌*◌, ◌<◌, ◌≤◌, List, ◌++◌, length, Result}
use Rattle.std.proofs.Common.{rules, arith, inl}
use Rattle.btr_disk.specs.declared.disk.Disk.{Ghosts}
use Rattle.btr_disk.specs.Bytes.{Image, Has, Same, SameBut, IsOutside}
use Rattle.btr_disk.specs.Calls.{WritesBytes}
use Rattle.btr_disk.specs.Causes.{Counted}
use Rattle.btr_disk.specs.Images.{Only, SameImages, Torn}
use Rattle.btr_disk.specs.Moments.{Elapses, Leaves}
use Rattle.btr_disk.specs.Publish.{IsBeforeOrHasBody}
use Rattle.btr_disk.proofs.ByteLemmas.{Has-Same, SameBut-trans, SameBut-from_Same, Same-trans}
use Rattle.btr_disk.proofs.MomentLemmas.{begins, goes_on}
use Rattle.btr_disk.proofs.PublishCalls.{after_sync, on_ok, body_torn, body_synced, gate_torn, gate_written, gate_synced, Published-Same}
use Rattle.btr_disk.proofs.gate.publish.Goals as goal

-- what a call leaves to the rest of the run
record Step {D : Type 0} (disk : Ghosts D) (old new : D) : Type 0 where
  counted : Counted (disk.calls old) (disk.calls new)
  time : Elapses (disk.calls old) (disk.images_since old) (disk.images_since new) (disk.images_now new)

module _ {D : Type 0} (disk : Ghosts D) (d0 : D) (a : ℕ) (body : List ℕ) (p : ℕ) where
  -- what a crash leaves up to this moment
  abbrev So : D → Type 0
  So new = Leaves disk.calls disk.images_since d0 new (IsBeforeOrHasBody (disk.contents d0) a body p)

  -- one call more
  to_next : (mid new : D) → So mid → Step disk mid new → ((x : Image) → disk.images_now new x → IsBeforeOrHasBody (disk.contents d0) a body p x) → So new
  to_next mid new so_far step here =
      goes_on disk.calls disk.images_since d0 mid new (IsBeforeOrHasBody (disk.contents d0) a body p) (disk.images_now new) so_far step.counted step.time here

  -- the body's write, whether it succeeded or failed
  module _ (d1 : D) {T E : Type 0} (result : Result T E) (now : (x : Image) → disk.images_since d0 (disk.calls d0) x → disk.images_now d0 x) (counted : Counted (disk.calls d0) (disk.calls d1)) (wrote : WritesBytes disk.calls disk.contents disk.images_now disk.images_since a body d0 d1 result) (settled : Only (disk.contents d0) (disk.images_now d0)) where
    torn_first : (x : Image) → disk.images_now d1 x → IsBeforeOrHasBody (disk.contents d0) a body p x
    torn_first = body_torn (disk.contents d0) a body p (disk.images_now d0) (disk.images_now d1) settled wrote.images.torn

    first : So d1
    first =
        to_next d0 d1
        (begins disk.calls disk.images_since d0 (IsBeforeOrHasBody (disk.contents d0) a body p) (λ x left. inl (SameBut-from_Same a (length body) (disk.contents d0) x (settled.each x (now x left)))))
        (record { counted = counted; time = wrote.time }) torn_first

    -- the body's sync failed
    first_unsynced : (d2 : D) → Step disk d1 d2 → SameImages (disk.images_now d1) (disk.images_now d2) → So d2
    first_unsynced d2 step same = to_next d1 d2 first step (λ x left. torn_first x (same.none_new x left))

-- what the body's write and sync leave
record BodyIsSynced {D : Type 0} (disk : Ghosts D) (d0 d2 : D) (a : ℕ) (body : List ℕ) : Type 0 where
  has : Has (disk.contents d2) a body
  but : SameBut a (length body) (disk.contents d0) (disk.contents d2)
  synced : Only (disk.contents d2) (disk.images_now d2)

module _ {D : Type 0} (disk : Ghosts D) (d0 d1 d2 : D) (a : ℕ) (body : List ℕ) where
  body_is_synced : Has (disk.contents d1) a body → SameBut a (length body) (disk.contents d0) (disk.contents d1) → Same (disk.contents d1) (disk.contents d2) → Only (disk.contents d2) (disk.images_now d2) → BodyIsSynced disk d0 d2 a body
  body_is_synced written but same synced = record {
    has = Has-Same (disk.contents d1) (disk.contents d2) a body same written;
    but = SameBut-trans a (length body) (disk.contents d0) (disk.contents d1) (disk.contents d2) but
        (SameBut-from_Same a (length body) (disk.contents d1) (disk.contents d2) same);
    synced = synced;
  }

  module _ (p : ℕ) (done : BodyIsSynced disk d0 d2 a body) (apart : IsOutside a (length body) p) (above : p < a → p + 4096 ≤ a) (d3 : D) (torn : Torn p 4096 (disk.images_now d2) (disk.images_now d3)) where
    torn_gate : (x : Image) → disk.images_now d3 x → IsBeforeOrHasBody (disk.contents d0) a body p x
    torn_gate =
        gate_torn (disk.contents d0) a body p apart above (disk.contents d2) (disk.images_now d2) (disk.images_now d3) done.has done.but done.synced torn

    -- from the body's sync to the gate's write
    gate_moments : So disk d0 a body p d1 → Step disk d1 d2 → Step disk d2 d3 → So disk d0 a body p d3
    gate_moments first step next =
        to_next disk d0 a body p d2 d3
        (to_next disk d0 a body p d1 d2 first step
        (λ x left. body_synced (disk.contents d0) a body p (disk.contents d2) done.but x (done.synced.each x left)))
        next torn_gate

pub returns-in_err-write_parts-clause-publishes : goal.returns-in_err-write_parts-clause-publishes
returns-in_err-write_parts-clause-publishes g c is_observable =
    let d0 = c.args.device.now in
    record {
      published = search rules;
      synced = search rules;
      moments = first g.D.Disk d0 (4096 * c.args.first) (c.args.prefix.now ++ g.S.Blocks.bytes c.args.rest.now) (4096 * c.args.at)
          c.write_parts.new.self c.write_parts.result (g.met.D.Disk.only_now is_observable d0) c.write_parts.ensures.calls (c.write_parts.ensures.writes is_observable);
    }

pub returns-in_err-sync-clause-publishes : goal.returns-in_err-sync-clause-publishes
returns-in_err-sync-clause-publishes g c is_observable =
    let d0 = c.args.device.now in
    record {
      published = search rules;
      synced = search rules;
      moments = λ settled. first_unsynced g.D.Disk d0 (4096 * c.args.first) (c.args.prefix.now ++ g.S.Blocks.bytes c.args.rest.now) (4096 * c.args.at)
          c.write_parts.new.self c.write_parts.result (g.met.D.Disk.only_now is_observable d0) c.write_parts.ensures.calls (c.write_parts.ensures.writes is_observable) settled
          c.sync.new.self (record { counted = c.sync.ensures.calls; time = c.sync.ensures.time is_observable }) (c.in_err-sync.ensures.unsynced is_observable);
    }

pub returns-in_err-write-clause-publishes : goal.returns-in_err-write-clause-publishes
returns-in_err-write-clause-publishes g c is_observable =
    let disk = g.D.Disk in
    let d0 = c.args.device.now in
    let d1 = c.write_parts.new.self in
    let d2 = c.sync.new.self in
    let a = 4096 * c.args.first in
    let body = c.args.prefix.now ++ g.S.Blocks.bytes c.args.rest.now in
    let p = 4096 * c.args.at in
    let wrote = c.write_parts.ensures.writes is_observable in
    let gate = c.write.ensures.writes is_observable in
    let done = body_is_synced disk d0 d1 d2 a body (c.in_ok-write_parts.ensures.writes is_observable).written wrote.elsewhere (c.sync.ensures.contents is_observable) (c.in_ok-sync.ensures.synced is_observable) in
    let above : p < a → p + 4096 ≤ a = λ lt. omega arith in
    let torn : Torn p 4096 (disk.images_now d2) (disk.images_now c.write.new.self) = rw c.requires.places.one_block at gate.images.torn in
    record {
      published = search rules;
      synced = search rules;
      moments = λ settled. gate_moments disk d0 d1 d2 a body p done c.requires.places.apart above c.write.new.self torn
          (first disk d0 a body p d1 c.write_parts.result (g.met.D.Disk.only_now is_observable d0) c.write_parts.ensures.calls wrote settled)
          (record { counted = c.sync.ensures.calls; time = c.sync.ensures.time is_observable })
          (record { counted = c.write.ensures.calls; time = gate.time });
    }

pub returns-clause-publishes : goal.returns-clause-publishes
returns-clause-publishes g c is_observable =
    let disk = g.D.Disk in
    let d0 = c.args.device.now in
    let d1 = c.write_parts.new.self in
    let d2 = c.sync.new.self in
    let d3 = c.write.new.self in
    let d4 = c.sync-2.new.self in
    let a = 4096 * c.args.first in
    let body = c.args.prefix.now ++ g.S.Blocks.bytes c.args.rest.now in
    let p = 4096 * c.args.at in
    let apart = c.requires.places.apart in
    let wrote = c.write_parts.ensures.writes is_observable in
    let gate = c.write.ensures.writes is_observable in
    let done = body_is_synced disk d0 d1 d2 a body (c.in_ok-write_parts.ensures.writes is_observable).written wrote.elsewhere (c.sync.ensures.contents is_observable) (c.in_ok-sync.ensures.synced is_observable) in
    let above : p < a → p + 4096 ≤ a = λ lt. omega arith in
    let torn : Torn p 4096 (disk.images_now d2) (disk.images_now d3) = rw c.requires.places.one_block at gate.images.torn in
    let then : SameBut p 4096 (disk.contents d2) (disk.contents d3) = rw c.requires.places.one_block at gate.elsewhere in
    record {
      published = on_ok c.sync-2.result _
          (Published-Same (disk.contents d0) a body p c.args.gate.now (disk.contents d3) (disk.contents d4)
          (gate_written (disk.contents d0) a body p apart above (disk.contents d2) (disk.contents d3) c.args.gate.now done.has done.but then (c.in_ok-write.ensures.writes is_observable).written)
          (c.sync-2.ensures.contents is_observable));
      synced = c.sync-2.ensures.synced is_observable;
      moments = λ settled. to_next disk d0 a body p d3 d4
          (gate_moments disk d0 d1 d2 a body p done apart above d3 torn
          (first disk d0 a body p d1 c.write_parts.result (g.met.D.Disk.only_now is_observable d0) c.write_parts.ensures.calls wrote settled)
          (record { counted = c.sync.ensures.calls; time = c.sync.ensures.time is_observable })
          (record { counted = c.write.ensures.calls; time = gate.time }))
          (record { counted = c.sync-2.ensures.calls; time = c.sync-2.ensures.time is_observable })
          (after_sync c.sync-2.result (disk.contents d4) (disk.images_now d3) (disk.images_now d4) (IsBeforeOrHasBody (disk.contents d0) a body p) (c.sync-2.ensures.synced is_observable) (c.sync-2.ensures.unsynced is_observable)
          (λ x same. gate_synced (disk.contents d0) a body p apart above (disk.contents d2) (disk.contents d3) x done.has done.but then (Same-trans (disk.contents d3) (disk.contents d4) x (c.sync-2.ensures.contents is_observable) same))
          (torn_gate disk d0 d1 d2 a body p done apart above d3 torn));
    }
