-- Work on a device that holds a store, if nothing fails: the store is opened, and no step fails.
use Rattle.std.specs.Prelude.{◌≡◌, ℕ, Bool, true, false, List, Option, Some, None, Ok}
use Rattle.std.specs.Option.{is_some}
use Rattle.std.proofs.Common.{refl, ◌∙◌, ap, inr, ⊎_elim}
use Rattle.btr_disk.specs.declared.disk.Disk.{Ghosts}
use Rattle.btr_disk.specs.Causes.{Rose}
use Rattle.btr_log.specs.Extents.{left}
use Rattle.btr_hist.specs.declared.entry.Entry.{Entry}
use Rattle.btr_engine.specs.Holds.{HoldsHistory, HoldsHistoryTo}
use Rattle.btr_open.specs.Laws.{HeldIsSound, OneHistoryIsHeld}
use Rattle.btr_jobs.specs.States.{StoreState, LogState}
use Rattle.btr_store.specs.declared.transcript.Transcript.{Transcript}
use Rattle.btr_store.specs.Completes.{IsBenign}
use Rattle.btr_store.specs.Work.{HoldsStart, DoesRightly}
use Rattle.btr_top.specs.declared.ending.Ending.{Ending}
use Rattle.btr_top.specs.declared.ending.Ending.TheVariants.{Usage, NoSource, TooLong, OutOfMemory, NoDevice, NoStore, Damaged, Occupied, TooSmall, Formatted, Checkpointed, Sealed, Unsealed, Stands, Full, Shipped, CutShort, NoSink, Replied}
use Rattle.btr_top.specs.Ending.{status_of}
use Rattle.btr_top.specs.Work.{WorkSays, WorkCause}
use Rattle.btr_top.specs.Run.{IsPlainStatus}
use Rattle.btr_super.specs.Super.{has_seal}
use Rattle.btr_top.proofs.OneStore.{one_store, one_super}
use Rattle.btr_top.proofs.BenignStatuses.{benign_code}

none_if : {A : Type 0} (o : Option A) → (is_some o ≡ true → ⊥) → o ≡ None
none_if None not = refl
none_if (Some x) not = absurd (not refl)

module _ {D : Type 0} (disk : Ghosts D) (old new : D) (history : List Entry) (blocks tail : ℕ) (holds : HoldsHistoryTo (disk.size old) (disk.contents old) blocks tail history) (sound : HeldIsSound) (one : OneHistoryIsHeld) (reported : disk.is_observable) (device_works : Rose (disk.faults old) (disk.faults new) → ⊥) where
  held : HoldsHistory (disk.size old) (disk.contents old) history
  held = record { blocks = blocks; tail = tail; holds = holds }

  -- The device holds one store.
  same_room : (first : StoreState) → HoldsStart disk old first → first.left ≡ left blocks tail
  same_room first is =
      let one_of = one_store (disk.size old) (disk.contents old) is.blocks is.tail first.history is.holds (disk.size old) (disk.contents old) refl refl blocks tail history holds in
      is.same_left ∙ ap (λ (b : ℕ). left b is.tail) one_of.same_blocks ∙ ap (λ (t : ℕ). left blocks t) one_of.same_tail

  -- It is sealed exactly if the work found it so.
  same_seal : (first : StoreState) → HoldsStart disk old first → first.sealed ≡ has_seal holds.super
  same_seal first is =
      is.same_seal
      ∙ ap has_seal (one_super (disk.size old) (disk.contents old) is.blocks is.tail first.history is.holds (disk.size old) (disk.contents old) refl refl blocks tail history holds)

  -- The store that the device holds.
  abbrev pub opened : StoreState
  opened = record { history = history; left = left blocks tail; stopped = false; sealed = has_seal holds.super }

  pub same_start : (first : StoreState) → first.stopped ≡ false → HoldsStart disk old first → first ≡ opened
  same_start first not_stopped is =
      let before : HoldsHistory (disk.size old) (disk.contents old) first.history = record { blocks = is.blocks; tail = is.tail; holds = is.holds } in
      let histories : first.history ≡ history = one (disk.size old) (disk.contents old) first.history history before held in
      ap (λ (h : List Entry). with_parts h first.left first.stopped first.sealed) histories
      ∙ ap (λ (n : ℕ). with_parts history n first.stopped first.sealed) (same_room first is)
      ∙ ap (λ (b : Bool). with_parts history (left blocks tail) b first.sealed) not_stopped
      ∙ ap (λ (b : Bool). with_parts history (left blocks tail) false b) (same_seal first is)
    where
      with_parts : List Entry → ℕ → Bool → Bool → StoreState
      with_parts h n b s = record { history = h; left = n; stopped = b; sealed = s }

  -- Work began with this store.
  pub began : (What : StoreState → LogState → List ℕ → Type 0) (failed : Bool) (does : DoesRightly disk What failed old new) → does.first ≡ opened
  began What failed does = same_start does.first does.works.not_stopped (does.works.before reported)

  -- No step failed.
  pub no_failure : (What : StoreState → LogState → List ℕ → Type 0) (failed : Bool) (does : DoesRightly disk What failed old new) → does.log.failed ≡ None
  no_failure What failed does = none_if does.log.failed (λ failed. device_works (does.works.failed failed))

  -- A command that works on the store ends with the status of its lines, or without memory.
  pub plain_work : (What : WorkSays) → ((transcript : Transcript) (failed : Bool) → DoesRightly disk (What (Ok transcript)) failed old new → IsBenign transcript.status) → (e : Ending) → WorkCause disk What old new e → IsPlainStatus (status_of e)
  plain_work What benign Usage why = absurd why.0
  plain_work What benign NoSource why = absurd why.0
  plain_work What benign TooLong why = absurd why.0
  plain_work What benign OutOfMemory why = inr (inr refl)
  plain_work What benign NoDevice why = absurd (device_works (⊎_elim (λ unopened. unopened.0) (λ did. did.1.plain.stopped refl) why))
  plain_work What benign NoStore why = absurd ((sound (disk.size old) 0 (disk.contents old) history held).0 (why.0 reported))
  plain_work What benign (Damaged block) why = absurd ((sound (disk.size old) block (disk.contents old) history held).1 (why.0 reported))
  plain_work What benign Occupied why = absurd why.0
  plain_work What benign (TooSmall asked has) why = absurd why.0
  plain_work What benign (Formatted made) why = absurd why.0
  plain_work What benign (Checkpointed kind entries) why = absurd why.0
  plain_work What benign Sealed why = absurd why.0
  plain_work What benign Unsealed why = absurd why.0
  plain_work What benign NoSink why = absurd why.0
  plain_work What benign (Stands entries) why = absurd why.0
  plain_work What benign (Full need room) why = absurd why.0
  plain_work What benign (Shipped frames) why = absurd why.0
  plain_work What benign (CutShort cut) why = absurd why.0
  plain_work What benign (Replied transcript) why = benign_code transcript.status (benign transcript why.0 (why.1.rightly reported history held))
