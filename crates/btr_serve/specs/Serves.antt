-- What is so of a store that was served: what its replies say, and what a crash leaves since each of them.
use Rattle.std.specs.Prelude.{◌≡◌, ℕ, Bool, true, List, [], None, Result, IfOk}
use Rattle.std.specs.declared.alloc.AllocError.{AllocError}
use Rattle.std.specs.Option.{is_some}
use Rattle.btr_disk.specs.declared.disk.Disk.{Ghosts}
use Rattle.btr_io.specs.declared.source.Source.{Ghosts as SourceGhosts}
use Rattle.btr_io.specs.declared.sink.Sink.{Ghosts as SinkGhosts}
use Rattle.btr_lines.specs.Moments.{EachAfter}
use Rattle.btr_hist.specs.declared.entry.Entry.{Entry}
use Rattle.btr_engine.specs.Engine.{device}
use Rattle.btr_hall.specs.Session.{engine_of}
use Rattle.btr_jobs.specs.States.{StoreState, LogState, log_seen}
use Rattle.btr_live.specs.Feeds.{none_waiting, waiting_of}
use Rattle.btr_live.specs.OneLane.{RunsAlone}
use Rattle.btr_store.specs.declared.status.Status.{Status}
use Rattle.btr_store.specs.declared.status.Status.TheVariants.{Done}
use Rattle.btr_store.specs.declared.transcript.Transcript.{Transcript}
use Rattle.btr_store.specs.Work.{KeepsHistory, DoesRightly, IfHolds, IsPlainWork}
use Rattle.btr_store.specs.Closing.{BeginsOn}
use Rattle.btr_talk.specs.declared.turns.TalkEnd.{TalkEnd}
use Rattle.btr_talk.specs.Ends.{Talks}
use Rattle.btr_serve.specs.declared.serve.Served.{Served}
use Rattle.btr_serve.specs.declared.store_desk.StoreDesk.{StoreDesk}
use Rattle.btr_serve.specs.Answers.{script_in, replies_in}
use Rattle.btr_serve.specs.Desk.{Did, store_desk}

-- The transcript has this status. All replies are written by then, so it has no text.
pub record HasStatus (status : Status) (t : Transcript) : Type 0 where
  pub same_status : t.status ≡ status
  pub no_text : t.text.items ≡ []

module _ {D : Type 0} (disk : Ghosts D) where
  -- The device of a desk: that of its engine, after all that its session has seen.
  abbrev pub device_at : StoreDesk D disk → D
  device_at d = device (engine_of d.hall d.session)

  -- The state of the log at a desk, if its hall began with this history.
  abbrev pub log_at_desk : List Entry → StoreDesk D disk → LogState
  log_at_desk h d = log_seen h d.session

  -- A desk at a store that was opened on this device. No points wait, and nothing was replied.
  pub record BeginsServing (batch : ℕ) (old : D) (desk : StoreDesk D disk) : Type 0 where
    pub opened : BeginsOn disk old desk.hall desk.session
    pub same_batch : desk.feeds.batch ≡ batch
    pub none : waiting_of desk.feeds ≡ none_waiting
    pub nothing : desk.status ≡ Done

  -- At the device `d` the log was `then`, and work went on to the device `new` and to this state of the log. A crash at `d` leaves just
  -- the history of then, and one at any moment since leaves a history with all its entries. But if the device had failed by then, it was
  -- not called again.
  pub record Lasts (log : LogState) (new d : D) (then : LogState) : Type 0 where
    pub kept : then.failed ≡ None → KeepsHistory disk log new d then.history
    pub ended : is_some then.failed ≡ true → (new ≡ d) × (log ≡ then)

  -- The desk went from its beginning to its end, and these are the sinks and the desks of the moments in between. Whatever lines it did
  -- by its end, their replies are the model's, one after another. From each moment on a crash keeps the log of then.
  pub record DidServe {K : Type 0} (begun now : StoreDesk D disk) (moments : List (K × StoreDesk D disk)) (new : D) (start : StoreState)
      (log : LogState) : Type 0 where
    pub same_log : log ≡ log_at_desk start.history now
    pub alone : (pieces texts : List (List ℕ)) (did : Did begun now pieces texts)
        → RunsAlone begun.feeds.batch start log (script_in pieces) (replies_in did.answers)
    pub lasts : disk.is_observable → EachAfter (λ earlier m. Lasts log new (device_at m.1) (log_at_desk start.history m.1)) moments

  module _ {S K : Type 0} (source : SourceGhosts S) (sink : SinkGhosts K) where
    -- A store was opened on the device `old`, and a talk at its desk went from the source `given` to `rest`, and from the sink `before`
    -- to `after`. A line has at most `limit` bytes. `new` is the device when the store was closed.
    pub record Serves (batch limit : ℕ) (given rest : S) (before after : K) (old new : D) (end : TalkEnd)
        (said : Result Transcript AllocError) (failed : Bool) (moments : List (K × StoreDesk D disk)) (asked : List (S × K)) : Type 0 where
      pub begun : StoreDesk D disk
      pub now : StoreDesk D disk
      pub begins : BeginsServing batch old begun
      pub talks : Talks source sink (store_desk disk) limit given rest before after begun now end moments asked
      pub says : IfOk said (HasStatus now.status)
      pub plain : IsPlainWork disk old said failed new
      pub served : IfHolds disk old (DoesRightly disk (λ start log own. DidServe begun now moments new start log) failed old new)

    -- So it was, and this is what was handed out.
    abbrev pub WasServed : ℕ → ℕ → S → S → K → K → D → Served S K D disk → Type 0
    WasServed batch limit given rest before after old s =
        Serves batch limit given rest before after old s.worked.disk s.end s.worked.said s.worked.failed s.course.moments.items s.course.asked.items
