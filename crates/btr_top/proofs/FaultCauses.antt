-- A run ends with status 5 only if a call of the device failed.
use Rattle.std.specs.Prelude.{◌≡◌, ℕ, Bool, true, false, List, Option, Some, None, Ok, Err, IfOk}
use Rattle.std.proofs.Common.{refl, sym, ◌∙◌, ap, arith, ⊎_elim}
use Rattle.btr_io.specs.declared.source.Source.{Ghosts as SourceGhosts}
use Rattle.btr_io.specs.declared.sink.Sink.{Ghosts as SinkGhosts}
use Rattle.btr_disk.specs.declared.disk.Disk.{Ghosts}
use Rattle.btr_disk.specs.Causes.{Rose}
use Rattle.btr_words.specs.declared.command.Command.{Command}
use Rattle.btr_words.specs.declared.command.Command.TheVariants.{Format, Load, Ask, Distil, Live, LiveGroups, Sample, Checkpoint, Seal, Check, Ship, Hear, Serve, ServeRead}
use Rattle.btr_rows.specs.Rows.{rows_of}
use Rattle.btr_rows.specs.Streams.{list_of}
use Rattle.btr_text.specs.Input.{questions_of, script_of}
use Rattle.btr_text.specs.declared.script.ScriptLine.{ScriptLine}
use Rattle.btr_load.specs.There.{AreDistinct}
use Rattle.btr_open.specs.declared.sealed.SealedFault.{SealedFault}
use Rattle.btr_open.specs.declared.sealed.SealedFault.TheVariants as openings
use Rattle.btr_open.specs.Sealed.{SealedCause}
use Rattle.btr_store.specs.declared.status.Status.{Status}
use Rattle.btr_store.specs.declared.status.Status.TheVariants as statuses
use Rattle.btr_store.specs.declared.transcript.Transcript.{Transcript}
use Rattle.btr_store.specs.Status.{code_of}
use Rattle.btr_store.specs.Load.{LoadsStore}
use Rattle.btr_store.specs.Live.{LivesStore}
use Rattle.btr_store.specs.Shared.{SharesStore}
use Rattle.btr_top.specs.declared.live.FeedKind.TheVariants.{Own, Shared}
use Rattle.btr_store.specs.Distil.{DistilsStore}
use Rattle.btr_store.specs.SampleLaw.{SamplesStore}
use Rattle.btr_top.specs.declared.checkpoint.CheckpointKind.{CheckpointKind}
use Rattle.btr_top.specs.declared.checkpoint.CheckpointKind.TheVariants as kinds
use Rattle.btr_serve.specs.declared.course.Course.{Course}
use Rattle.btr_top.specs.declared.ending.Ending.{Ending}
use Rattle.btr_top.specs.declared.ending.Ending.TheVariants.{Usage, NoSource, TooLong, OutOfMemory, NoDevice, NoStore, Damaged, Occupied, TooSmall, Formatted, Checkpointed, Sealed, Unsealed, Stands, Full, Shipped, CutShort, NoSink, Replied}
use Rattle.btr_top.specs.Ending.{status_of, text_of, Writes, Shows}
use Rattle.btr_top.specs.Command.{InputCause, CommandCause}
use Rattle.btr_top.specs.Format.{FormatCause}
use Rattle.btr_top.specs.Checkpoint.{CheckpointEnds}
use Rattle.btr_top.specs.Check.{CheckCause}
use Rattle.btr_top.specs.Work.{WorkSays, WorkCause, RowsCause}
use Rattle.btr_top.specs.Ask.{QuestionsCause}
use Rattle.btr_top.specs.Cold.{WereAnsweredCold, IsUnopened, ColdCause, ending_of_fault, pages_on}
use Rattle.btr_top.specs.Live.{ScriptCause}
use Rattle.btr_top.specs.Hear.{HearsFrames, HearingCause}
use Rattle.btr_top.specs.Run.{Cause, RunCause}
use Rattle.btr_top.proofs.ColdReplies.{replies_rose}
use Rattle.btr_top.proofs.ShipCauses.{ship_fault}
use Rattle.btr_top.specs.Serve.{Said, ServeCause, ServeReadCause}
use Rattle.btr_top.specs.Work.{ending_of}
use Rattle.btr_store.specs.Work.{IsPlainWork}
use Rattle.btr_top.proofs.ServeCauses.{Nothing, never_cause, talk_fault}

-- ---- statuses

fault_of_code : (s : Status) → code_of s ≡ 5 → s ≡ statuses.DeviceFault
fault_of_code statuses.Done five = absurd (omega (arith, five))
fault_of_code statuses.Refused five = absurd (omega (arith, five))
fault_of_code statuses.Full five = absurd (omega (arith, five))
fault_of_code statuses.Damaged five = absurd (omega (arith, five))
fault_of_code statuses.OutOfMemory five = absurd (omega (arith, five))
fault_of_code statuses.DeviceFault five = refl

module _ {K : Type 0} (sink : SinkGhosts K) (before after : K) where
  written_five : (text : List ℕ) (wanted status : ℕ) → Writes sink text wanted before after status → status ≡ 5 → wanted ≡ 5
  written_five text wanted status writes five =
      ⊎_elim
      (λ all. sym all.same_status ∙ five)
      (λ failed. absurd (four status failed.same_status five))
      writes
    where
      four : (n : ℕ) → n ≡ 4 → n ≡ 5 → ⊥
      four n is five = omega (arith, is, five)

  -- The status of the run is that of its ending, if it is 5.
  shown_five : (e : Ending) (status : ℕ) → Shows sink e before after status → status ≡ 5 → status_of e ≡ 5
  shown_five e status shows five =
      ⊎_elim
      (λ writes. written_five (text_of e) (status_of e) status writes five)
      (λ short. let is = written_five (text_of OutOfMemory) 9 status short.1 five in absurd (omega (arith, is)))
      shows

-- ---- endings

module _ {D : Type 0} (disk : Ghosts D) (old new : D) where
  abbrev Failed : Type 0
  Failed = Rose (disk.faults old) (disk.faults new)

  work_fault : (What : WorkSays) (e : Ending) → WorkCause disk What old new e → status_of e ≡ 5 → Failed
  work_fault What Usage why five = absurd why.0
  work_fault What NoSource why five = absurd why.0
  work_fault What TooLong why five = absurd why.0
  work_fault What OutOfMemory why five = absurd (omega (arith, five))
  work_fault What NoDevice why five = ⊎_elim (λ unopened. unopened.0) (λ did. did.1.plain.stopped refl) why
  work_fault What NoStore why five = absurd (omega (arith, five))
  work_fault What (Damaged block) why five = absurd (omega (arith, five))
  work_fault What Occupied why five = absurd why.0
  work_fault What (TooSmall asked has) why five = absurd why.0
  work_fault What (Formatted made) why five = absurd why.0
  work_fault What (Checkpointed kind entries) why five = absurd why.0
  work_fault What Sealed why five = absurd why.0
  work_fault What Unsealed why five = absurd why.0
  work_fault What NoSink why five = absurd why.0
  work_fault What (Stands entries) why five = absurd why.0
  work_fault What (Full need room) why five = absurd why.0
  work_fault What (Shipped frames) why five = absurd why.0
  work_fault What (CutShort cut) why five = absurd why.0
  work_fault What (Replied transcript) why five = why.1.plain.faulted (fault_of_code transcript.status five)

  asked_fault : (lines : List ScriptLine) (e : Ending) → QuestionsCause disk lines old new e → status_of e ≡ 5 → Failed
  asked_fault lines Usage why five = absurd why.0
  asked_fault lines NoSource why five = absurd why.0
  asked_fault lines TooLong why five = absurd why.0
  asked_fault lines OutOfMemory why five = absurd (omega (arith, five))
  asked_fault lines NoDevice why five = why.0
  asked_fault lines NoStore why five = absurd (omega (arith, five))
  asked_fault lines (Damaged block) why five = absurd (omega (arith, five))
  asked_fault lines Occupied why five = absurd why.0
  asked_fault lines (TooSmall asked has) why five = absurd why.0
  asked_fault lines (Formatted made) why five = absurd why.0
  asked_fault lines (Checkpointed kind entries) why five = absurd why.0
  asked_fault lines Sealed why five = absurd why.0
  asked_fault lines Unsealed why five = absurd why.0
  asked_fault lines NoSink why five = absurd why.0
  asked_fault lines (Stands entries) why five = absurd why.0
  asked_fault lines (Full need room) why five = absurd why.0
  asked_fault lines (Shipped frames) why five = absurd why.0
  asked_fault lines (CutShort cut) why five = absurd why.0
  asked_fault lines (Replied transcript) why five = why.plain.faulted (fault_of_code transcript.status five)

  unopened_fault : (fault : SealedFault) → SealedCause disk old new fault → status_of (ending_of_fault fault) ≡ 5 → Failed
  unopened_fault openings.NotAStore cause five = absurd (omega (arith, five))
  unopened_fault openings.Unsealed cause five = absurd (omega (arith, five))
  unopened_fault (openings.Damaged block) cause five = absurd (omega (arith, five))
  unopened_fault openings.Fault cause five = cause
  unopened_fault openings.Want cause five = absurd (omega (arith, five))

  replied_fault : (lines : List ScriptLine) (transcript : Transcript) → WereAnsweredCold disk lines old new transcript → code_of transcript.status ≡ 5 → Failed
  replied_fault lines transcript were five =
      let none : statuses.Done ≡ statuses.DeviceFault → Rose (disk.faults old) (disk.faults old) = λ done. absurd (cc) in
      replies_rose disk.is_observable (pages_on disk old) were.shelf (disk.faults old) (disk.faults old) (disk.faults new) statuses.Done (omega arith) none lines were.replies were.answers.each
      (sym were.is_transcript.same_status ∙ fault_of_code transcript.status five)

  cold_fault : (lines : List ScriptLine) (e : Ending) → ColdCause disk lines old new e → status_of e ≡ 5 → Failed
  cold_fault lines e cold five =
      ⊎_elim
      (λ (replied : (transcript : Transcript) × (e ≡ Replied transcript) × WereAnsweredCold disk lines old new transcript).
      replied_fault lines replied.0 replied.2 (sym (ap status_of replied.1) ∙ five))
      (λ other.
      ⊎_elim
      (λ lacks. let nine : status_of e ≡ 9 = ap status_of lacks in absurd (omega (arith, nine, five)))
      (λ (un : IsUnopened disk old new e). unopened_fault un.fault un.cause (sym (ap status_of un.ends) ∙ five))
      other)
      cold.why

  format_fault : (blocks : ℕ) (e : Ending) → FormatCause disk blocks old new e → status_of e ≡ 5 → Failed
  format_fault blocks Usage why five = absurd why
  format_fault blocks NoSource why five = absurd why
  format_fault blocks TooLong why five = absurd why
  format_fault blocks OutOfMemory why five = absurd why
  format_fault blocks NoDevice why five = why.1
  format_fault blocks NoStore why five = absurd why
  format_fault blocks (Damaged block) why five = absurd why
  format_fault blocks Occupied why five = absurd (omega (arith, five))
  format_fault blocks (TooSmall asked has) why five = absurd (omega (arith, five))
  format_fault blocks (Formatted made) why five = absurd (omega (arith, five))
  format_fault blocks (Checkpointed kind entries) why five = absurd why
  format_fault blocks Sealed why five = absurd why
  format_fault blocks Unsealed why five = absurd why
  format_fault blocks NoSink why five = absurd why
  format_fault blocks (Stands entries) why five = absurd why
  format_fault blocks (Full need room) why five = absurd why
  format_fault blocks (Shipped frames) why five = absurd why
  format_fault blocks (CutShort cut) why five = absurd why
  format_fault blocks (Replied transcript) why five = absurd why

  checkpoint_fault : (kind : CheckpointKind) (e : Ending) → CheckpointEnds disk kind old new e → status_of e ≡ 5 → Failed
  checkpoint_fault kind Usage why five = absurd why.0
  checkpoint_fault kind NoSource why five = absurd why.0
  checkpoint_fault kind TooLong why five = absurd why.0
  checkpoint_fault kind OutOfMemory why five = absurd (omega (arith, five))
  checkpoint_fault kind NoDevice why five = why.0
  checkpoint_fault kind NoStore why five = absurd (omega (arith, five))
  checkpoint_fault kind (Damaged block) why five = absurd (omega (arith, five))
  checkpoint_fault kind Occupied why five = absurd why.0
  checkpoint_fault kind (TooSmall asked has) why five = absurd why.0
  checkpoint_fault kind (Formatted made) why five = absurd why.0
  checkpoint_fault kind (Checkpointed done entries) why five = absurd (omega (arith, five))
  checkpoint_fault kind Sealed why five = absurd (omega (arith, five))
  checkpoint_fault kind Unsealed why five = absurd why.0
  checkpoint_fault kind NoSink why five = absurd why.0
  checkpoint_fault kind (Stands entries) why five = absurd why.0
  checkpoint_fault kind (Full need room) why five = absurd (omega (arith, five))
  checkpoint_fault kind (Shipped frames) why five = absurd why.0
  checkpoint_fault kind (CutShort cut) why five = absurd why.0
  checkpoint_fault kind (Replied transcript) why five = absurd why.0

  check_fault : (e : Ending) → CheckCause disk old new e → status_of e ≡ 5 → Failed
  check_fault Usage why five = absurd why
  check_fault NoSource why five = absurd why
  check_fault TooLong why five = absurd why
  check_fault OutOfMemory why five = absurd (omega (arith, five))
  check_fault NoDevice why five = why
  check_fault NoStore why five = absurd (omega (arith, five))
  check_fault (Damaged block) why five = absurd (omega (arith, five))
  check_fault Occupied why five = absurd why
  check_fault (TooSmall asked has) why five = absurd why
  check_fault (Formatted made) why five = absurd why
  check_fault (Checkpointed kind entries) why five = absurd why
  check_fault Sealed why five = absurd why
  check_fault Unsealed why five = absurd why
  check_fault NoSink why five = absurd why
  check_fault (Stands entries) why five = absurd (omega (arith, five))
  check_fault (Full need room) why five = absurd why
  check_fault (Shipped frames) why five = absurd why
  check_fault (CutShort cut) why five = absurd why
  check_fault (Replied transcript) why five = absurd why

-- An input that was not read is no fault of the device.
input_five : {S : Type 0} (source : SourceGhosts S) (given rest : S) (e : Ending) → InputCause source given rest e → status_of e ≡ 5 → ⊥
input_five source given rest Usage why five = why
input_five source given rest NoSource why five = omega (arith, five)
input_five source given rest TooLong why five = omega (arith, five)
input_five source given rest OutOfMemory why five = omega (arith, five)
input_five source given rest NoDevice why five = why
input_five source given rest NoStore why five = why
input_five source given rest (Damaged block) why five = why
input_five source given rest Occupied why five = why
input_five source given rest (TooSmall asked has) why five = why
input_five source given rest (Formatted made) why five = why
input_five source given rest (Checkpointed kind entries) why five = why
input_five source given rest Sealed why five = why
input_five source given rest Unsealed why five = why
input_five source given rest NoSink why five = why
input_five source given rest (Stands entries) why five = why
input_five source given rest (Full need room) why five = why
input_five source given rest (Shipped frames) why five = why
input_five source given rest (CutShort cut) why five = why
input_five source given rest (Replied transcript) why five = why

-- ---- runs

module _ {S K D : Type 0} (source : SourceGhosts S) (sink : SinkGhosts K) (disk : Ghosts D) (given rest : S) (before sent : K) (old new : D) (course : Course S K D disk) where
  read_fault : (cause : List ℕ → D → D → Ending → Type 0) (e : Ending) → ((input : List ℕ) → cause input old new e → status_of e ≡ 5 → Failed disk old new) → CommandCause source cause given rest old new e → status_of e ≡ 5 → Failed disk old new
  read_fault cause e each why five =
      ⊎_elim
      (λ unread. absurd (input_five source given rest e unread.0 five))
      (λ read. each read.0 read.2 five)
      why

  heard_fault : (input : List ℕ) (e : Ending) → HearingCause disk input old new e → status_of e ≡ 5 → Failed disk old new
  heard_fault input e why five =
      ⊎_elim
      (λ lacks. let nine : status_of e ≡ 9 = ap status_of lacks.0 in absurd (omega (arith, nine, five)))
      (λ heard. work_fault disk old new (λ said start log own. HearsFrames heard.0 start log said) e heard.2.0 five)
      why

  -- The status of work of which this is plain.
  coded_fault : (said : Said) (failed : Bool) → IsPlainWork disk old said failed new → IfOk said (λ t. status_of (ending_of (Ok t) failed) ≡ 5 → Failed disk old new)
  coded_fault (Ok transcript) failed plain = λ five. plain.faulted (fault_of_code transcript.status five)
  coded_fault (Err error) failed plain = tt

  -- No reply to a question tells of a failure.
  coded_none : (said : Said) (failed : Bool) → IfOk said (λ t. t.status ≡ statuses.DeviceFault → ⊥) → IfOk said (λ t. status_of (ending_of (Ok t) failed) ≡ 5 → Failed disk old new)
  coded_none (Ok transcript) failed none = λ five. absurd (none (fault_of_code transcript.status five))
  coded_none (Err error) failed none = tt

  serve_fault : (batch : ℕ) (e : Ending) → ServeCause disk source sink batch given rest before sent old new course e → status_of e ≡ 5 → Failed disk old new
  serve_fault batch e why five =
      ⊎_elim
      (λ never. work_fault disk old new Nothing e (never_cause disk source sink given rest before sent old new e never) five)
      (λ served. talk_fault disk old new served.end served.said served.failed (coded_fault served.said served.failed served.serves.plain) served.serves.plain.stopped (sym (ap status_of served.ends) ∙ five))
      why

  serve_read_fault : (e : Ending) → ServeReadCause disk source sink given rest before sent old new course e → status_of e ≡ 5 → Failed disk old new
  serve_read_fault e why five =
      ⊎_elim
      (λ never. work_fault disk old new Nothing e (never_cause disk source sink given rest before sent old new e never) five)
      (λ served. talk_fault disk old new served.end served.said false (coded_none served.said false served.no_fault) (λ is. absurd (cc)) (sym (ap status_of served.ends) ∙ five))
      why

  cause_fault : (command : Option Command) (e : Ending) → Cause source sink disk command given rest before sent old new course e → status_of e ≡ 5 → Failed disk old new
  cause_fault None e why five = let two : status_of e ≡ 2 = ap status_of why.0 in absurd (omega (arith, two, five))
  cause_fault (Some (Format blocks)) e why five = format_fault disk old new blocks e why.1 five
  cause_fault (Some (Live batch materialize)) e why five =
      read_fault (λ input. ScriptCause disk (Own batch) materialize (script_of input)) e
      (λ input cause. work_fault disk old new (λ said start log own. LivesStore batch materialize (script_of input) start log said own) e cause.0) why five
  cause_fault (Some (LiveGroups threshold materialize)) e why five =
      read_fault (λ input. ScriptCause disk (Shared threshold) materialize (script_of input)) e
      (λ input cause. work_fault disk old new (λ said start log own. SharesStore threshold materialize (script_of input) start log said own) e cause.0) why five
  cause_fault (Some (Ask false)) e why five =
      read_fault (λ input. QuestionsCause disk (questions_of input)) e (λ input. asked_fault disk old new (questions_of input) e) why five
  cause_fault (Some (Ask true)) e why five =
      read_fault (λ input. ColdCause disk (questions_of input)) e (λ input. cold_fault disk old new (questions_of input) e) why five
  cause_fault (Some (Load workers batch)) e why five =
      read_fault
      (λ input was now end. AreDistinct (list_of (rows_of input)).streams × RowsCause disk workers batch (list_of (rows_of input)) was now end) e
      (λ input cause. work_fault disk old new (λ said start log own. LoadsStore start log (list_of (rows_of input)) batch workers said own) e cause.1.0)
      why five
  cause_fault (Some (Distil workers)) e why five =
      work_fault disk old new (λ said start log own. DistilsStore start log workers said own) e why.1.0 five
  cause_fault (Some (Sample number streams points)) e why five =
      work_fault disk old new (λ said start log own. SamplesStore number streams points start log said own) e why.1.0 five
  cause_fault (Some Checkpoint) e why five = checkpoint_fault disk old new kinds.Plain e why.1 five
  cause_fault (Some Seal) e why five = checkpoint_fault disk old new kinds.Seal e why.1 five
  cause_fault (Some Check) e why five = check_fault disk old new e why.1.cause five
  cause_fault (Some (Ship from)) e why five = ship_fault sink disk from before sent old new e why.1 five
  cause_fault (Some (Serve batch)) e why five = serve_fault batch e why five
  cause_fault (Some ServeRead) e why five = serve_read_fault e why five
  cause_fault (Some Hear) e why five = read_fault (HearingCause disk) e (λ input. heard_fault input e) why five

  run_fault : (command : Option Command) (e : Ending) → RunCause source sink disk command given rest before sent old new course e → status_of e ≡ 5 → Failed disk old new
  run_fault command e why five =
      ⊎_elim
      (λ cause. cause_fault command e cause five)
      (λ lacks. let nine : status_of e ≡ 9 = ap status_of lacks.0 in absurd (omega (arith, nine, five)))
      why

  -- The status that was shown is 5 only if the count of faults of the device rose.
  pub fault_shown : (after : K) (command : Option Command) (e : Ending) (status : ℕ) → RunCause source sink disk command given rest before sent old new course e → Shows sink e sent after status → status ≡ 5 → Rose (disk.faults old) (disk.faults new)
  fault_shown after command e status why shows five = run_fault command e why (shown_five sink sent after e status shows five)
