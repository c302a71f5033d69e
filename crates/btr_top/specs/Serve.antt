-- The command `serve`: why it ends as it does, and when it comes to its end.
use Rattle.std.specs.Prelude.{◌≡◌, ◌⊎◌, ℕ, ◌≤◌, Bool, false, length, Result, IfOk}
use Rattle.std.specs.declared.alloc.AllocError.{AllocError}
use Rattle.std.specs.List.{AllByRecursion}
use Rattle.btr_io.specs.declared.source.Source.{Ghosts as SourceGhosts}
use Rattle.btr_io.specs.declared.sink.Sink.{Ghosts as SinkGhosts}
use Rattle.btr_lines.specs.Lines.{pieces}
use Rattle.btr_disk.specs.declared.disk.Disk.{Ghosts}
use Rattle.btr_jobs.specs.States.{StoreState}
use Rattle.btr_live.specs.Script.{begun_state, script_needs}
use Rattle.btr_store.specs.declared.status.Status.{Status}
use Rattle.btr_store.specs.declared.status.Status.TheVariants.{DeviceFault}
use Rattle.btr_store.specs.declared.transcript.Transcript.{Transcript}
use Rattle.btr_talk.specs.declared.turns.TalkEnd.{TalkEnd}
use Rattle.btr_talk.specs.declared.turns.TalkEnd.TheVariants as ends
use Rattle.btr_serve.specs.declared.course.Course.{Course}
use Rattle.btr_serve.specs.Answers.{script_in}
use Rattle.btr_serve.specs.Serves.{HasStatus, Serves}
use Rattle.btr_serve.specs.ServesQuestions.{ServesQuestions}
use Rattle.btr_top.specs.declared.command.TheConstants.{MAX_INPUT}
use Rattle.btr_top.specs.declared.ending.Ending.{Ending}
use Rattle.btr_top.specs.declared.ending.Ending.TheVariants.{NoSource, TooLong, NoSink}
use Rattle.btr_top.specs.Command.{HoldsStoreWith, IsKept, OpeningCause}
use Rattle.btr_top.specs.Work.{ending_of, unsaid}

-- What is said of work on a store: its transcript, or that memory ran out.
abbrev pub Said : Type 0
Said = Result Transcript AllocError

-- How a run ends whose talk ended so, and of whose work this is said. `failed` says whether the device failed in a step. If memory ran out,
-- this counts more.
abbrev pub ending_of_talk : TalkEnd → Said → Bool → Ending
ending_of_talk ends.Ended said failed = ending_of said failed
ending_of_talk ends.NoSource said failed = NoSource
ending_of_talk ends.TooLong said failed = TooLong
ending_of_talk ends.NoSink said failed = NoSink
ending_of_talk ends.OutOfMemory said failed = unsaid failed

module _ {S K D : Type 0} (disk : Ghosts D) (source : SourceGhosts S) (sink : SinkGhosts K) where
  -- The store was not opened. Nothing was read of the source, and nothing written.
  pub record NeverServes (given rest : S) (before sent : K) (old new : D) (e : Ending) : Type 0 where
    pub unread : rest ≡ given
    pub unwritten : sent ≡ before
    pub why : OpeningCause disk old new e
    pub kept : IsKept disk old new

  -- The store was served, as long as these moments say, and the run ends as the talk did.
  pub record ServeEnds (batch : ℕ) (given rest : S) (before sent : K) (old new : D) (course : Course S K D disk) (e : Ending) : Type 0 where
    pub end : TalkEnd
    pub said : Said
    pub failed : Bool
    pub serves : Serves disk source sink batch MAX_INPUT given rest before sent old new end said failed course.moments.items course.asked.items
    pub ends : e ≡ ending_of_talk end said failed

  -- Why `serve` ends so. A line has at most as many bytes as a whole input of `live`.
  abbrev pub ServeCause : ℕ → S → S → K → K → D → D → Course S K D disk → Ending → Type 0
  ServeCause batch given rest before sent old new course e =
      NeverServes given rest before sent old new e ⊎ ServeEnds batch given rest before sent old new course e

  -- Questions were served, as long as these moments say, and the run ends as the talk did. Nothing was written on the device.
  pub record ServeReadEnds (given rest : S) (before sent : K) (old new : D) (course : Course S K D disk) (e : Ending) : Type 0 where
    pub end : TalkEnd
    pub status : Status
    pub said : Said
    pub serves : ServesQuestions disk source sink MAX_INPUT given rest before sent old new end status course.asked.items
    pub kept : IsKept disk old new
    pub says : IfOk said (HasStatus status)
    pub no_fault : IfOk said (λ t. t.status ≡ DeviceFault → ⊥)
    pub ends : e ≡ ending_of_talk end said false

  -- Why `serve --read` ends so.
  abbrev pub ServeReadCause : S → S → K → K → D → D → Course S K D disk → Ending → Type 0
  ServeReadCause given rest before sent old new course e =
      NeverServes given rest before sent old new e ⊎ ServeReadEnds given rest before sent old new course e

module _ {S D : Type 0} (source : SourceGhosts S) (disk : Ghosts D) where
  -- Each line of the input is within the limit of a line.
  abbrev pub HasShortLines : S → Type 0
  HasShortLines given = AllByRecursion (λ line. length line ≤ MAX_INPUT) (pieces (source.left given))

  -- The device holds a store with room for what the lines of the input need one after another, and each line is within the limit.
  abbrev pub CanServe : ℕ → S → D → Type 0
  CanServe batch given old = HasShortLines given
      × HoldsStoreWith disk (λ store. script_needs batch (begun_state store) (script_in (pieces (source.left given))) ≤ store.left) old

  -- The device holds a store, and each line of the input is within the limit.
  abbrev pub CanServeRead : S → D → Type 0
  CanServeRead given old = HasShortLines given × HoldsStoreWith disk (λ store. Unit {0}) old
