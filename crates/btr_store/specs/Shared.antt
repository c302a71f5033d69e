-- What a script with shared buffers did on a store: the lanes, the batches of the buffers, and the rounds.
use Rattle.std.specs.Prelude.{◌≡◌, ℕ, ◌+◌, ◌<◌, ◌≤◌, nat_lt, Bool, true, false, List, [], ◌∷◌, ◌++◌, length, map, slice_index_or}
use Rattle.std.specs.Prelude.{Option, Some, None, Result, IfSome}
use Rattle.std.specs.Option.{is_some}
use Rattle.std.specs.List.{AllByRecursion}
use Rattle.std.specs.declared.alloc.AllocError.{AllocError}
use Rattle.btr_hist.specs.declared.entry.Entry.{Entry}
use Rattle.btr_hist.specs.History.{ids}
use Rattle.btr_text.specs.declared.script.ScriptLine.{ScriptLine}
use Rattle.btr_gate.specs.Prefixes.{StartsWith}
use Rattle.btr_gate.specs.Numbers.{one, total, times, given}
use Rattle.btr_hall.specs.declared.group_item.GroupItem.{GroupItem}
use Rattle.btr_hall.specs.GroupBook.{SettledValue, book, Tiles}
use Rattle.btr_hall.specs.GroupCalls.{no_items}
use Rattle.btr_group.specs.Serves.{entry_of_batch, commit_result}
use Rattle.btr_jobs.specs.States.{StoreState, LogState, GoesOn}
use Rattle.btr_jobs.specs.Turns.{CommittedAfter}
use Rattle.btr_live.specs.declared.live.LiveReport.{LiveReport}
use Rattle.btr_live.specs.Lanes.{LaneRan}
use Rattle.btr_live.specs.SharedLines.{Views}
use Rattle.btr_live.specs.SharedLanes.{RunsSharedLane}
use Rattle.btr_live.specs.OneHistory.{RunsLanes, times_all}
use Rattle.btr_live.specs.Live.{LastRound}
use Rattle.btr_store.specs.declared.transcript.Transcript.{Transcript}
use Rattle.btr_store.specs.Live.{SaysScript, IsLastCurrent}

-- ---- the batches of one buffer

-- The batches of the buffer of a stream were committed, one after another, after all of `low` had been seen: each is one entry, which adds
-- the sorted points of its offers, and has its outcome. `own` are the numbers of what they added.
abbrev pub RunsBatches : StoreState → LogState → ℕ → List Entry → List SettledValue → List ℕ → Type 0
RunsBatches start log stream low [] own = own ≡ []
RunsBatches start log stream low (b ∷ bs) own =
    (first rest : List ℕ) × (next : List Entry) × (own ≡ first ++ rest)
    × CommittedAfter start log low (entry_of_batch stream b.batch) (commit_result b.outcome) first next
    × RunsBatches start log stream next bs rest

-- The buffer of a stream at the end of a run, by its list: each lane has seen a beginning of the list, and each item of it is that of one
-- line of one lane. No batch is out, and each ticket is in one batch that was committed, or among those whose points are dropped.
pub record BufferEnds (start : StoreState) (log : LogState) (low : List Entry) (stream : ℕ) (views : List Views) (items : List GroupItem)
    (own : List ℕ) : Type 0 where
  pub seen : AllByRecursion (λ (v : Views). StartsWith items (v stream).seen) views
  pub once : (n : ℕ) → total (λ (v : Views). times n (v stream).own) views ≡ given 0 (length items) n
  pub home : (book items).out ≡ None
  pub tiles : Tiles 0 (map (λ (b : SettledValue). b.batch) (book items).settled) (book items).first
  pub batches : RunsBatches start log stream low (book items).settled own

-- ---- a whole run

-- Which streams have a buffer: those that stand in a history. That of an output is never used.
abbrev pub has_buffer : List Entry → ℕ → Bool
has_buffer h = λ stream. nat_lt stream (length (ids h))

-- What a lane has seen of the buffers.
abbrev pub views_of : List Views → ℕ → Views
views_of views k = slice_index_or views k (λ stream. no_items)

-- What each lane did that had seen the first of the buffers, and has then seen the second of them.
abbrev pub in_buffers : (ℕ → Bool) → ℕ → List Views → List Views → LaneRan
in_buffers has threshold befores afters = λ k start log low lines replies own.
    RunsSharedLane has threshold (views_of befores k) (views_of afters k) start log low lines replies own

-- A script ran in a session that had seen `low`, with a buffer for each stream of it. `middle` is the log when all lanes had ended and all
-- buffers were closed. The last round had seen it. `own` are the numbers of all that was added, which are those of the lanes, of the party
-- beside them, of the batches of each buffer, and of the last round.
pub record RunsInBuffers (threshold : ℕ) (materialize : Bool) (start : StoreState) (log : LogState) (low : List Entry)
    (script : List ScriptLine) (report : LiveReport) (own : List ℕ) : Type 0 where
  pub middle : LogState
  pub goes_on : GoesOn start log middle
  pub after : StartsWith middle.history low
  pub befores : List Views
  pub afters : List Views
  pub fresh : AllByRecursion (λ (v : Views). (stream : ℕ) → v stream ≡ no_items) befores
  pub mine : List (List ℕ)
  pub beside : List (List ℕ)
  pub lanes : RunsLanes (in_buffers (has_buffer low) threshold befores afters) (length script) start middle low script
      report.replies.items mine beside
  pub party : length beside ≡ one materialize
  pub lists : ℕ → List GroupItem
  pub batches : List (List ℕ)
  pub as_many : length batches ≡ length (ids low)
  pub buffers : (stream : ℕ) → stream < length (ids low)
      → BufferEnds start middle low stream afters (lists stream) (slice_index_or batches stream [])
  pub lastly : List ℕ
  pub last : LastRound start log middle.history materialize report.last lastly
  pub numbers : (n : ℕ) → times n own ≡ times_all n mine beside + total (times n) batches + times n lastly
  -- All but the last round is in the log of the middle.
  pub inside : (n : ℕ) → 1 ≤ times_all n mine beside + total (times n) batches
      → n ≤ length middle.history + one (is_some middle.failed)

-- A script ran; or memory ran out before any line.
abbrev pub RunsInBuffersIf : ℕ → Bool → StoreState → LogState → List Entry → List ScriptLine → Option LiveReport → List ℕ → Type 0
RunsInBuffersIf threshold materialize start log low script None own = own ≡ []
RunsInBuffersIf threshold materialize start log low script (Some report) own =
    RunsInBuffers threshold materialize start log low script report own

-- A script ran on a store that nobody else used, and this was said of it. `own` are the numbers of what was added.
pub record SharesStore (threshold : ℕ) (materialize : Bool) (script : List ScriptLine) (start : StoreState) (log : LogState)
    (said : Result Transcript AllocError) (own : List ℕ) : Type 0 where
  pub report : Option LiveReport
  pub runs : RunsInBuffersIf threshold materialize start log start.history script report own
  -- each entry since the beginning, and the one in whose step the device failed, is that of one line, of one batch or of one landing
  pub once : (n : ℕ) → times n own ≡ given (length start.history) (length log.history + one (is_some log.failed)) n
  -- after the last round each output that it did not refuse is up to date, and none is superseded, if the device did not fail
  pub current : log.failed ≡ None → IfSome report (λ r. IsLastCurrent log.history r.last)
  pub says : SaysScript log report said
