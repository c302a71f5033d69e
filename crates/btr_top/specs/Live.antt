-- The command `live`: why it ends as it does, and when it comes to its end.
use Rattle.std.specs.Prelude.{ℕ, ◌≤◌, Bool, List, Result}
use Rattle.std.specs.declared.alloc.AllocError.{AllocError}
use Rattle.btr_base.specs.declared.limits.TheConstants.{MAX_COMMIT_POINTS}
use Rattle.btr_io.specs.declared.source.Source.{Ghosts as SourceGhosts}
use Rattle.btr_disk.specs.declared.disk.Disk.{Ghosts}
use Rattle.btr_text.specs.Input.{script_of}
use Rattle.btr_text.specs.declared.script.ScriptLine.{ScriptLine}
use Rattle.btr_jobs.specs.States.{StoreState, LogState}
use Rattle.btr_store.specs.declared.transcript.Transcript.{Transcript}
use Rattle.btr_store.specs.Live.{LivesStore, SaysSomeScript}
use Rattle.btr_store.specs.Shared.{SharesStore}
use Rattle.btr_top.specs.declared.live.FeedKind.{FeedKind}
use Rattle.btr_top.specs.declared.live.FeedKind.TheVariants.{Own, Shared}
use Rattle.btr_top.specs.declared.ending.Ending.{Ending}
use Rattle.btr_top.specs.Command.{HoldsStoreWith, IsWithinLimit, CommandCause}
use Rattle.btr_top.specs.Room.{HasRoomForScript}
use Rattle.btr_top.specs.Work.{IfReplied, WorkCause}

-- A batch is from 1 to 65,536 points.
abbrev pub FeedsFit : FeedKind → Type 0
FeedsFit (Own batch) = (1 ≤ batch) × (batch ≤ MAX_COMMIT_POINTS)
FeedsFit (Shared threshold) = (1 ≤ threshold) × (threshold ≤ MAX_COMMIT_POINTS)

-- What a script did on a store whose points wait there, and what was said of it.
abbrev pub RunsScriptOn : FeedKind → Bool → List ScriptLine → Result Transcript AllocError → StoreState → LogState → List ℕ → Type 0
RunsScriptOn (Own batch) materialize script said start log own = LivesStore batch materialize script start log said own
RunsScriptOn (Shared threshold) materialize script said start log own = SharesStore threshold materialize script start log said own

module _ {D : Type 0} (disk : Ghosts D) where
  -- Why `live` ends so, after its lines were read. On each device it says a reply for each line.
  abbrev pub ScriptCause : FeedKind → Bool → List ScriptLine → D → D → Ending → Type 0
  ScriptCause feeds materialize script old new e =
      WorkCause disk (λ said start log own. RunsScriptOn feeds materialize script said start log own) old new e
      × IfReplied (SaysSomeScript materialize script) e

module _ {S D : Type 0} (source : SourceGhosts S) (disk : Ghosts D) where
  -- Why `live` ends so.
  abbrev pub LiveCause : FeedKind → Bool → S → S → D → D → Ending → Type 0
  LiveCause feeds materialize given rest old new e =
      CommandCause source (λ input. ScriptCause disk feeds materialize (script_of input)) given rest old new e

  -- The device holds a store with room for what the lines of the input need, and the rounds, and the input is within the limit.
  abbrev pub CanLive : FeedKind → Bool → S → D → Type 0
  CanLive feeds materialize given old = IsWithinLimit source given
      × HoldsStoreWith disk (λ store. HasRoomForScript feeds materialize store (script_of (source.left given))) old
