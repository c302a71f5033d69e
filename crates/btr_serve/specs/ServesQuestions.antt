-- What is so of a store whose questions were answered one at a time.
use Rattle.std.specs.Prelude.{◌≡◌, ℕ, List}
use Rattle.btr_disk.specs.declared.disk.Disk.{Ghosts}
use Rattle.btr_disk.specs.Bytes.{Image}
use Rattle.btr_io.specs.declared.source.Source.{Ghosts as SourceGhosts}
use Rattle.btr_io.specs.declared.sink.Sink.{Ghosts as SinkGhosts}
use Rattle.btr_hist.specs.declared.entry.Entry.{Entry}
use Rattle.btr_hist.specs.Legal.{Follows}
use Rattle.btr_streams.specs.Snapshot.{IsSnapshotOf}
use Rattle.btr_engine.specs.Holds.{HoldsHistory}
use Rattle.btr_store.specs.declared.status.Status.{Status}
use Rattle.btr_store.specs.declared.status.Status.TheVariants.{Done}
use Rattle.btr_store.specs.Work.{IfHolds, WasSound}
use Rattle.btr_talk.specs.declared.turns.TalkEnd.{TalkEnd}
use Rattle.btr_talk.specs.Ends.{Talks}
use Rattle.btr_serve.specs.declared.question_desk.QuestionDesk.{QuestionDesk}
use Rattle.btr_serve.specs.Questions.{question_desk}

module _ {D : Type 0} (disk : Ghosts D) where
  -- The desk has a snapshot of the history that the device `old` holds. Each entry of the history may follow those before it. Every crash
  -- from now on leaves the history.
  pub record AsksHeld (begun : QuestionDesk) (old new : D) : Type 0 where
    pub history : List Entry
    pub follows : Follows history
    pub holds : disk.is_observable → HoldsHistory (disk.size old) (disk.contents old) history
    pub snapshot : IsSnapshotOf history begun.snapshot
    pub durable : disk.is_observable → (c : Image) → disk.images_now new c → HoldsHistory (disk.size new) c history

  module _ {S K : Type 0} (source : SourceGhosts S) (sink : SinkGhosts K) where
    -- A store was opened on the device `old`, and a talk at the desk of its snapshot went from the source `given` to `rest`, and from the
    -- sink `before` to `after`. A line has at most `limit` bytes. `status` is that of the desk at the end.
    pub record ServesQuestions (limit : ℕ) (given rest : S) (before after : K) (old new : D) (end : TalkEnd) (status : Status)
        (asked : List (S × K)) : Type 0 where
      pub begun : QuestionDesk
      pub now : QuestionDesk
      pub nothing : begun.status ≡ Done
      pub moments : List (K × QuestionDesk)
      pub talks : Talks source sink question_desk limit given rest before after begun now end moments asked
      pub same_status : status ≡ now.status
      pub sound : WasSound disk old
      pub held : IfHolds disk old (AsksHeld begun old new)
