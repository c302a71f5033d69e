-- If a store can be made and nothing fails, one is made, and only memory may run out for the line that says so.
use Rattle.std.specs.Prelude.{◌≡◌, ◌⊎◌, ℕ, List, Option, Some}
use Rattle.std.proofs.Common.{refl, ◌∙◌, ap, subst, arith, inl, inr, ⊎_elim}
use Rattle.btr_io.specs.declared.source.Source.{Ghosts as SourceGhosts}
use Rattle.btr_io.specs.declared.sink.Sink.{Ghosts as SinkGhosts}
use Rattle.btr_io.specs.Faults.{Rose as StreamRose}
use Rattle.btr_disk.specs.declared.disk.Disk.{Ghosts}
use Rattle.btr_disk.specs.Bytes.{Image}
use Rattle.btr_disk.specs.Causes.{Rose}
use Rattle.btr_super.specs.Format as format
use Rattle.btr_words.specs.declared.command.Command.{Command}
use Rattle.btr_words.specs.declared.command.Command.TheVariants.{Format}
use Rattle.btr_serve.specs.declared.course.Course.{Course}
use Rattle.btr_top.specs.declared.ending.Ending.{Ending}
use Rattle.btr_top.specs.declared.ending.Ending.TheVariants.{Usage, NoSource, TooLong, OutOfMemory, NoDevice, NoStore, Damaged, Occupied, TooSmall, Formatted, Checkpointed, Sealed, Unsealed, Stands, Full, Shipped, CutShort, NoSink, Replied}
use Rattle.btr_top.specs.Ending.{status_of, text_of, Writes, Shows}
use Rattle.btr_top.specs.Format.{CanFormat, FormatCause}
use Rattle.btr_top.specs.Run.{Cause, RunCause, DeviceAndSinkWork}

-- a device without an open gate has no store
none_there : (image : Image) (block : ℕ) → format.HasClosedGates image → format.IsOccupied image block → ⊥
none_there image block closed is = ⊎_elim (λ first. closed.first first.1) (λ second. closed.second second.2) is

module _ {D : Type 0} (disk : Ghosts D) (old new : D) (reported : disk.is_observable) (works : Rose (disk.faults old) (disk.faults new) → ⊥) (blocks : ℕ) (can : CanFormat disk blocks old) where
  made : (e : Ending) → FormatCause disk blocks old new e → status_of e ≡ 0
  made Usage why = absurd why
  made NoSource why = absurd why
  made TooLong why = absurd why
  made OutOfMemory why = absurd why
  made NoDevice why = absurd (works why.1)
  made NoStore why = absurd why
  made (Damaged block) why = absurd why
  made Occupied why =
      let kept = why.1 reported in
      absurd (none_there (disk.contents old) kept.block can.is_free kept.was_there)
  made (TooSmall asked has) why = let fits = can.fits in absurd (omega (arith, fits, why.0, why.1, why.2))
  made (Formatted blocks) why = refl
  made (Checkpointed kind entries) why = absurd why
  made Sealed why = absurd why
  made Unsealed why = absurd why
  made NoSink why = absurd why
  made (Stands entries) why = absurd why
  made (Full need room) why = absurd why
  made (Shipped frames) why = absurd why
  made (CutShort cut) why = absurd why
  made (Replied transcript) why = absurd why

module _ {K : Type 0} (sink : SinkGhosts K) (before after : K) (works : StreamRose (sink.faults before) (sink.faults after) → ⊥) where
  written : (text : List ℕ) (wanted status : ℕ) → Writes sink text wanted before after status → status ≡ wanted
  written text wanted status writes = ⊎_elim (λ all. all.same_status) (λ failed. absurd (works failed.rose)) writes

pub formats_shown : {S K D : Type 0} (source : SourceGhosts S) (sink : SinkGhosts K) (disk : Ghosts D) (given rest : S) (before sent after : K) (old new : D) (course : Course S K D disk) (command : Option Command) (blocks : ℕ) → command ≡ Some (Format blocks) → disk.is_observable → CanFormat disk blocks old → DeviceAndSinkWork sink disk before after old new → (e : Ending) (status : ℕ) → sent ≡ before → RunCause source sink disk command given rest before sent old new course e → Shows sink e sent after status → (status ≡ 0) ⊎ (status ≡ 9)
formats_shown {K = K} source sink disk given rest before sent after old new course command blocks is reported can works e status unsent why shows =
    let wanted : (status_of e ≡ 0) ⊎ (status_of e ≡ 9) =
    ⊎_elim
    (λ cause. inl (made disk old new reported works.device_works blocks can e (subst (λ (c : Option Command). Cause source sink disk c given rest before sent old new course e) is cause).1))
    (λ lacks. inr (ap status_of lacks.0))
    why in
    ⊎_elim
    (λ writes.
    let same = written sink before after works.sink_works (text_of e) (status_of e) status writes in
    ⊎_elim (λ zero. inl (same ∙ zero)) (λ nine. inr (same ∙ nine)) wanted)
    (λ short. inr (written sink before after works.sink_works (text_of OutOfMemory) 9 status short.1))
    (subst (λ (k : K). Shows sink e k after status) unsent shows)
