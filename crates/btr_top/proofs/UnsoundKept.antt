-- A device whose store is missing or damaged is left as it was by each command that opens a store, which ends by a refusal.
use Rattle.std.specs.Prelude.{◌≡◌, ℕ, true, false, List, Option, Some, None}
use Rattle.std.proofs.Common.{refl, sym, subst, inl, inr, ⊎_elim}
use Rattle.btr_io.specs.declared.source.Source.{Ghosts as SourceGhosts}
use Rattle.btr_io.specs.declared.sink.Sink.{Ghosts as SinkGhosts}
use Rattle.btr_disk.specs.declared.disk.Disk.{Ghosts}
use Rattle.btr_disk.specs.Bytes.{Image}
use Rattle.btr_disk.proofs.ByteLemmas.{Same-refl}
use Rattle.btr_disk.proofs.MomentLemmas.{begins}
use Rattle.btr_open.specs.Damage.{IsUndamaged}
use Rattle.btr_rows.specs.Rows.{rows_of}
use Rattle.btr_rows.specs.Streams.{list_of}
use Rattle.btr_load.specs.There.{AreDistinct}
use Rattle.btr_text.specs.Input.{questions_of, script_of}
use Rattle.btr_text.specs.declared.script.ScriptLine.{ScriptLine}
use Rattle.btr_store.specs.Load.{LoadsStore}
use Rattle.btr_store.specs.Live.{LivesStore}
use Rattle.btr_store.specs.Shared.{SharesStore}
use Rattle.btr_top.specs.declared.live.FeedKind.TheVariants.{Own, Shared}
use Rattle.btr_store.specs.Distil.{DistilsStore}
use Rattle.btr_store.specs.SampleLaw.{SamplesStore}
use Rattle.btr_words.specs.declared.command.Command.{Command}
use Rattle.btr_words.specs.declared.command.Command.TheVariants.{Format, Load, Ask, Distil, Live, LiveGroups, Sample, Checkpoint, Seal, Check, Ship, Hear, Serve, ServeRead}
use Rattle.btr_top.specs.declared.checkpoint.CheckpointKind.{CheckpointKind}
use Rattle.btr_top.specs.declared.checkpoint.CheckpointKind.TheVariants as kinds
use Rattle.btr_serve.specs.declared.course.Course.{Course}
use Rattle.btr_top.specs.declared.ending.Ending.{Ending}
use Rattle.btr_top.specs.declared.ending.Ending.TheVariants.{Usage, NoSource, TooLong, OutOfMemory, NoDevice, NoStore, Damaged, Occupied, TooSmall, Formatted, Checkpointed, Sealed, Unsealed, Stands, Full, Shipped, CutShort, NoSink, Replied}
use Rattle.btr_top.specs.Ending.{status_of, text_of, Writes, Shows}
use Rattle.btr_top.specs.Command.{InputCause, CommandCause, IsKept}
use Rattle.btr_top.specs.Checkpoint.{CheckpointEnds}
use Rattle.btr_top.specs.Work.{WorkSays, WorkCause, RowsCause}
use Rattle.btr_top.specs.Ask.{QuestionsCause}
use Rattle.btr_top.specs.Live.{ScriptCause}
use Rattle.btr_top.specs.Hear.{HearsFrames, HearingCause}
use Rattle.btr_top.specs.Serve.{ServeCause, ServeReadCause}
use Rattle.btr_top.proofs.ServeCauses.{Nothing, never_cause}
use Rattle.btr_top.specs.Run.{Cause, RunCause, OpensStore, IsRefusal, IsRefused}

-- ---- statuses

without_source : IsRefusal 3
without_source = inl refl

without_sink : IsRefusal 4
without_sink = inr (inl refl)

without_device : IsRefusal 5
without_device = inr (inr (inl refl))

without_store : IsRefusal 6
without_store = inr (inr (inr (inl refl)))

with_damage : IsRefusal 7
with_damage = inr (inr (inr (inr (inl refl))))

without_memory : IsRefusal 9
without_memory = inr (inr (inr (inr (inr (inl refl)))))

too_long : IsRefusal 10
too_long = inr (inr (inr (inr (inr (inr refl)))))

module _ {K : Type 0} (sink : SinkGhosts K) (before after : K) where
  refusal_written : (text : List ℕ) (wanted status : ℕ) → IsRefusal wanted → Writes sink text wanted before after status → IsRefusal status
  refusal_written text wanted status refusal writes =
      ⊎_elim
      (λ all. subst IsRefusal (sym all.same_status) refusal)
      (λ failed. subst IsRefusal (sym failed.same_status) without_sink)
      writes

  -- What is shown of a refusal has the status of one.
  refusal_shown : (e : Ending) (status : ℕ) → IsRefusal (status_of e) → Shows sink e before after status → IsRefusal status
  refusal_shown e status refusal shows =
      ⊎_elim
      (λ writes. refusal_written (text_of e) (status_of e) status refusal writes)
      (λ short. refusal_written (text_of OutOfMemory) 9 status without_memory short.1)
      shows

-- An input that was not read.
input_refused : {S : Type 0} (source : SourceGhosts S) (given rest : S) (e : Ending) → InputCause source given rest e → IsRefusal (status_of e)
input_refused source given rest Usage why = absurd why
input_refused source given rest NoSource why = without_source
input_refused source given rest TooLong why = too_long
input_refused source given rest OutOfMemory why = without_memory
input_refused source given rest NoDevice why = absurd why
input_refused source given rest NoStore why = absurd why
input_refused source given rest (Damaged block) why = absurd why
input_refused source given rest Occupied why = absurd why
input_refused source given rest (TooSmall asked has) why = absurd why
input_refused source given rest (Formatted made) why = absurd why
input_refused source given rest (Checkpointed kind entries) why = absurd why
input_refused source given rest Sealed why = absurd why
input_refused source given rest Unsealed why = absurd why
input_refused source given rest NoSink why = absurd why
input_refused source given rest (Stands entries) why = absurd why
input_refused source given rest (Full need room) why = absurd why
input_refused source given rest (Shipped frames) why = absurd why
input_refused source given rest (CutShort cut) why = absurd why
input_refused source given rest (Replied transcript) why = absurd why

-- ---- endings

module _ {D : Type 0} (disk : Ghosts D) (only_now : disk.is_observable → (d : D) (c : Image) → disk.images_since d (disk.calls d) c → disk.images_now d c) (old new : D) (reported : disk.is_observable) (unsound : IsUndamaged (disk.size old) (disk.contents old) → ⊥) where
  -- The device is kept, and the ending is a refusal.
  abbrev Refused : Ending → Type 0
  Refused e = IsKept disk old new × IsRefusal (status_of e)

  -- A device that was not called is kept.
  same_kept : new ≡ old → IsKept disk old new
  same_kept same =
      subst (λ (d : D). IsKept disk old d) (sym same) (λ (is : disk.is_observable). record {
        same = Same-refl (disk.contents old);
        moments = begins disk.calls disk.images_since old (disk.images_now old) (only_now is old);
      })

  work_refused : (What : WorkSays) (e : Ending) → WorkCause disk What old new e → Refused e
  work_refused What Usage why = absurd why.0
  work_refused What NoSource why = absurd why.0
  work_refused What TooLong why = absurd why.0
  work_refused What OutOfMemory why = (⊎_elim (λ kept. kept) (λ did. absurd (unsound (did.1.plain.sound reported))) why, without_memory)
  work_refused What NoDevice why = (⊎_elim (λ unopened. unopened.1) (λ did. absurd (unsound (did.1.plain.sound reported))) why, without_device)
  work_refused What NoStore why = (why.1, without_store)
  work_refused What (Damaged block) why = (why.1, with_damage)
  work_refused What Occupied why = absurd why.0
  work_refused What (TooSmall asked has) why = absurd why.0
  work_refused What (Formatted made) why = absurd why.0
  work_refused What (Checkpointed kind entries) why = absurd why.0
  work_refused What Sealed why = absurd why.0
  work_refused What Unsealed why = absurd why.0
  work_refused What NoSink why = absurd why.0
  work_refused What (Stands entries) why = absurd why.0
  work_refused What (Full need room) why = absurd why.0
  work_refused What (Shipped frames) why = absurd why.0
  work_refused What (CutShort cut) why = absurd why.0
  work_refused What (Replied transcript) why = absurd (unsound (why.1.plain.sound reported))

  asked_refused : (lines : List ScriptLine) (e : Ending) → QuestionsCause disk lines old new e → Refused e
  asked_refused lines Usage why = absurd why.0
  asked_refused lines NoSource why = absurd why.0
  asked_refused lines TooLong why = absurd why.0
  asked_refused lines OutOfMemory why = (why.1, without_memory)
  asked_refused lines NoDevice why = (why.1, without_device)
  asked_refused lines NoStore why = (why.1, without_store)
  asked_refused lines (Damaged block) why = (why.1, with_damage)
  asked_refused lines Occupied why = absurd why.0
  asked_refused lines (TooSmall asked has) why = absurd why.0
  asked_refused lines (Formatted made) why = absurd why.0
  asked_refused lines (Checkpointed kind entries) why = absurd why.0
  asked_refused lines Sealed why = absurd why.0
  asked_refused lines Unsealed why = absurd why.0
  asked_refused lines NoSink why = absurd why.0
  asked_refused lines (Stands entries) why = absurd why.0
  asked_refused lines (Full need room) why = absurd why.0
  asked_refused lines (Shipped frames) why = absurd why.0
  asked_refused lines (CutShort cut) why = absurd why.0
  asked_refused lines (Replied transcript) why = absurd (unsound (why.plain.sound reported))

  checkpoint_refused : (kind : CheckpointKind) (e : Ending) → CheckpointEnds disk kind old new e → Refused e
  checkpoint_refused kind Usage why = absurd why.0
  checkpoint_refused kind NoSource why = absurd why.0
  checkpoint_refused kind TooLong why = absurd why.0
  checkpoint_refused kind OutOfMemory why = (why, without_memory)
  checkpoint_refused kind NoDevice why = (⊎_elim (λ kept. kept) (λ lasts. absurd (unsound (lasts.sound reported))) why.1, without_device)
  checkpoint_refused kind NoStore why = (why.1, without_store)
  checkpoint_refused kind (Damaged block) why = (why.1, with_damage)
  checkpoint_refused kind Occupied why = absurd why.0
  checkpoint_refused kind (TooSmall asked has) why = absurd why.0
  checkpoint_refused kind (Formatted made) why = absurd why.0
  checkpoint_refused kind (Checkpointed done entries) why = absurd (unsound (why.1 reported))
  checkpoint_refused kind Sealed why = absurd (unsound (why.0 reported))
  checkpoint_refused kind Unsealed why = absurd why.0
  checkpoint_refused kind NoSink why = absurd why.0
  checkpoint_refused kind (Stands entries) why = absurd why.0
  checkpoint_refused kind (Full need room) why = absurd (unsound (why.0 reported))
  checkpoint_refused kind (Shipped frames) why = absurd why.0
  checkpoint_refused kind (CutShort cut) why = absurd why.0
  checkpoint_refused kind (Replied transcript) why = absurd why.0

  -- ---- runs

  module _ {S K : Type 0} (source : SourceGhosts S) (sink : SinkGhosts K) (given rest : S) (before sent : K) (course : Course S K D disk) where
    read_refused : (cause : List ℕ → D → D → Ending → Type 0) (e : Ending) → ((input : List ℕ) → cause input old new e → Refused e) → CommandCause source cause given rest old new e → Refused e
    read_refused cause e each why =
        ⊎_elim
        (λ unread. (same_kept unread.1, input_refused source given rest e unread.0))
        (λ read. each read.0 read.2)
        why

    heard_refused : (input : List ℕ) (e : Ending) → HearingCause disk input old new e → Refused e
    heard_refused input e why =
        ⊎_elim
        (λ lacks. (lacks.1, subst (λ (x : Ending). IsRefusal (status_of x)) (sym lacks.0) without_memory))
        (λ heard. work_refused (λ said start log own. HearsFrames heard.0 start log said) e heard.2.0)
        why

    serve_refused : (batch : ℕ) (e : Ending) → ServeCause disk source sink batch given rest before sent old new course e → Refused e
    serve_refused batch e why =
        ⊎_elim
        (λ never. work_refused Nothing e (never_cause disk source sink given rest before sent old new e never))
        (λ served. absurd (unsound (served.serves.plain.sound reported)))
        why

    serve_read_refused : (e : Ending) → ServeReadCause disk source sink given rest before sent old new course e → Refused e
    serve_read_refused e why =
        ⊎_elim
        (λ never. work_refused Nothing e (never_cause disk source sink given rest before sent old new e never))
        (λ served. absurd (unsound (served.serves.sound reported)))
        why

    cause_refused : (command : Option Command) (e : Ending) → OpensStore command → Cause source sink disk command given rest before sent old new course e → Refused e
    cause_refused None e opens why = absurd opens
    cause_refused (Some (Format blocks)) e opens why = absurd opens
    cause_refused (Some (Live batch materialize)) e opens why =
        read_refused (λ input. ScriptCause disk (Own batch) materialize (script_of input)) e
        (λ input cause. work_refused (λ said start log own. LivesStore batch materialize (script_of input) start log said own) e cause.0) why
    cause_refused (Some (LiveGroups threshold materialize)) e opens why =
        read_refused (λ input. ScriptCause disk (Shared threshold) materialize (script_of input)) e
        (λ input cause. work_refused (λ said start log own. SharesStore threshold materialize (script_of input) start log said own) e cause.0) why
    cause_refused (Some (Ask true)) e opens why = absurd opens
    cause_refused (Some (Ask false)) e opens why =
        read_refused (λ input. QuestionsCause disk (questions_of input)) e (λ input. asked_refused (questions_of input) e) why
    cause_refused (Some (Load workers batch)) e opens why =
        read_refused
        (λ input was now end. AreDistinct (list_of (rows_of input)).streams × RowsCause disk workers batch (list_of (rows_of input)) was now end) e
        (λ input cause. work_refused (λ said start log own. LoadsStore start log (list_of (rows_of input)) batch workers said own) e cause.1.0)
        why
    cause_refused (Some (Distil workers)) e opens why =
        work_refused (λ said start log own. DistilsStore start log workers said own) e why.1.0
    cause_refused (Some (Sample number streams points)) e opens why =
        work_refused (λ said start log own. SamplesStore number streams points start log said own) e why.1.0
    cause_refused (Some Checkpoint) e opens why = checkpoint_refused kinds.Plain e why.1
    cause_refused (Some Seal) e opens why = checkpoint_refused kinds.Seal e why.1
    cause_refused (Some Check) e opens why = absurd opens
    cause_refused (Some (Ship from)) e opens why = absurd opens
    cause_refused (Some (Serve batch)) e opens why = serve_refused batch e why
    cause_refused (Some ServeRead) e opens why = serve_read_refused e why
    cause_refused (Some Hear) e opens why = read_refused (HearingCause disk) e (λ input. heard_refused input e) why

    run_refused : (command : Option Command) (e : Ending) → OpensStore command → RunCause source sink disk command given rest before sent old new course e → Refused e
    run_refused command e opens why =
        ⊎_elim
        (λ cause. cause_refused command e opens cause)
        (λ lacks. (same_kept lacks.3, subst (λ (x : Ending). IsRefusal (status_of x)) (sym lacks.0) without_memory))
        why

    -- What the run did, and what was shown of it.
    pub refused_shown : (after : K) (command : Option Command) (e : Ending) (status : ℕ) → OpensStore command → RunCause source sink disk command given rest before sent old new course e → Shows sink e sent after status → IsRefused disk old new status
    refused_shown after command e status opens why shows =
        let refused = run_refused command e opens why in
        record { kept = refused.0; refusal = refusal_shown sink sent after e status refused.1 shows }
