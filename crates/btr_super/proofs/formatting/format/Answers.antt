use Rattle.std.proofs.Common.{◌≡◌, ℕ, Bool, false, Result, OnOk, IsTrue, ◌↔◌, sym, ◌∙◌, subst, inr}
use Rattle.std.proofs.lemmas.Bool.{false≢true}
use Rattle.btr_disk.specs.declared.disk.Disk.{Ghosts}
use Rattle.btr_disk.specs.Bytes.{Image}
use Rattle.btr_disk.specs.Gate.{IsOpen}
use Rattle.btr_disk.specs.Images.{Only}
use Rattle.btr_disk.specs.Moments.{Leaves, IsUnwritten}
use Rattle.btr_disk.proofs.ByteLemmas.{Same-is}
use Rattle.btr_super.specs.Format.{HasClosedGates, Formatted, IsFormatting, WritesStore, LeavesFormatting}
use Rattle.btr_super.proofs.formatting.format.Goals as goal

-- both gates were read as closed
both_closed : (image : Image) (a b : Bool) → (IsTrue a ↔ IsOpen image 0) → (IsTrue b ↔ IsOpen image 2) → a ≡ false → b ≡ false → HasClosedGates image
both_closed image a b first second no_first no_second = record {
  first = λ opened. false≢true (sym no_first ∙ first.1 opened);
  second = λ opened. false≢true (sym no_second ∙ second.1 opened);
}

-- what the write of the store says of the device before the gates were read
module _ {D T E : Type 0} (disk : Ghosts D) (blocks : ℕ) (d0 d1 d2 : D) (result : Result T E) (size : disk.size d1 ≡ disk.size d0) (unwritten : IsUnwritten disk.calls disk.contents disk.images_now disk.images_since d0 d1) (closed : HasClosedGates (disk.contents d0)) (wrote : WritesStore disk.size disk.calls disk.contents disk.images_now disk.images_since blocks d1 d2 result) where
  same : disk.contents d1 ≡ disk.contents d0
  same = Same-is (disk.contents d0) (disk.contents d1) unwritten.same

  made : OnOk result (Formatted (disk.size d0) blocks (disk.contents d0) (disk.contents d2))
  made =
      subst (λ n. OnOk result (Formatted n blocks (disk.contents d0) (disk.contents d2))) size
      (subst (λ x. HasClosedGates x → OnOk result (Formatted (disk.size d1) blocks x (disk.contents d2))) same wrote.formatted closed)

  leaves : Only (disk.contents d0) (disk.images_now d1) → LeavesFormatting disk.size disk.calls disk.contents disk.images_now disk.images_since blocks d0 d2
  leaves settled =
      let so : Leaves disk.calls disk.images_since d1 d2 (IsFormatting (disk.size d1) blocks (disk.contents d0)) =
      subst (λ x. HasClosedGates x → Only x (disk.images_now d1) → Leaves disk.calls disk.images_since d1 d2 (IsFormatting (disk.size d1) blocks x)) same wrote.moments closed settled in
      inr (
        d1,
        record {
          unwritten = unwritten;
          settled = settled;
          moments = subst (λ n. Leaves disk.calls disk.images_since d1 d2 (IsFormatting n blocks (disk.contents d0))) size so;
        },
      )

pub returns-in_err-write_store-clause-moments : goal.returns-in_err-write_store-clause-moments
returns-in_err-write_store-clause-moments g c is_observable =
    let gates = c.in_ok-first.ensures in
    leaves g.D.Disk c.args.blocks c.args.device.now c.read_gates.new.device c.write_store.new.device c.write_store.result gates.size (gates.unwritten is_observable)
    (both_closed (g.D.Disk.contents c.args.device.now) _ _ (gates.first is_observable) (gates.second is_observable) c.if-first.false c.if-second.false)
    (c.write_store.ensures.writes is_observable) (gates.synced is_observable)

pub returns-clause-made : goal.returns-clause-made
returns-clause-made g c is_observable =
    let gates = c.in_ok-first.ensures in
    let wrote = c.in_ok-write_store.ensures.writes is_observable in
    record {
      formatted = made g.D.Disk c.args.blocks c.args.device.now c.read_gates.new.device c.write_store.new.device _ gates.size (gates.unwritten is_observable)
          (both_closed (g.D.Disk.contents c.args.device.now) _ _ (gates.first is_observable) (gates.second is_observable) c.if-first.false c.if-second.false)
          wrote;
      synced = wrote.synced;
    }

pub returns-clause-moments : goal.returns-clause-moments
returns-clause-moments g c is_observable =
    let gates = c.in_ok-first.ensures in
    leaves g.D.Disk c.args.blocks c.args.device.now c.read_gates.new.device c.write_store.new.device c.write_store.result gates.size (gates.unwritten is_observable)
    (both_closed (g.D.Disk.contents c.args.device.now) _ _ (gates.first is_observable) (gates.second is_observable) c.if-first.false c.if-second.false)
    (c.write_store.ensures.writes is_observable) (gates.synced is_observable)
