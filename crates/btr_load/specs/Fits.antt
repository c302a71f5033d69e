-- How much room a load needs: the most that its creates and its batches need. If there is so much, nothing is refused for lack of room.
use Rattle.std.specs.Prelude.{ℕ, ◌+◌, ◌≤◌, max, List, [], ◌∷◌, ◌++◌, Option, Some, None, Result, Ok, Err}
use Rattle.std.specs.List.{AllByRecursion}
use Rattle.btr_base.specs.Commit.{Change}
use Rattle.btr_hist.specs.declared.entry.Entry.{Entry}
use Rattle.btr_hist.specs.declared.entry.Entry.TheVariants.{Create}
use Rattle.btr_hist.specs.History.{stream_of, commits}
use Rattle.btr_hist.specs.Legal.{Follows}
use Rattle.btr_rows.specs.declared.row.NumberedPoint.{NumberedPoint}
use Rattle.btr_rows.specs.Streams.{StreamValue, RowListValue}
use Rattle.btr_streams.specs.declared.board.Receipt.{Receipt}
use Rattle.btr_engine.specs.declared.step.StepFault.{StepFault}
use Rattle.btr_engine.specs.declared.step.StepFault.TheVariants.{Stopped, Sealed, Rejected, Want, DeviceFull, DeviceFault}
use Rattle.btr_engine.specs.Body.{need_after}
use Rattle.btr_jobs.specs.States.{StoreState, LogState}
use Rattle.btr_load.specs.declared.outcome.RowsOutcome.{RowsOutcome}
use Rattle.btr_load.specs.declared.outcome.RowsOutcome.TheVariants.{Output, NotCreated, Committed}
use Rattle.btr_load.specs.Batches.{batches_of, batch_entry, batch_change}
use Rattle.btr_load.specs.Loads.{LoadedValue, Loads}
use Rattle.btr_load.specs.There.{OnlyOwn, AreDistinct}

-- The most blocks that the commits of some of these batches need, one after another, if their stream has these commits. Each batch is
-- committed or refused. It is the same for each stream.
abbrev pub batches_need : List Change → List (List NumberedPoint) → ℕ
batches_need past [] = 0
batches_need past (batch ∷ batches) =
    max (need_after past (batch_entry 0 batch) + batches_need (past ++ batch_change batch ∷ []) batches) (batches_need past batches)

-- The blocks that the create of a stream needs, if the history `low` has none of this id.
abbrev pub create_need : ℕ → Option ℕ → ℕ
create_need id (Some stream) = 0
create_need id None = need_after [] (Create id)

-- The commits of the stream that the history `low` has of an id. If it has none there are no commits.
abbrev pub commits_found : List Entry → Option ℕ → List Change
commits_found low (Some stream) = commits low stream
commits_found low None = []

-- The most blocks that rows need after the history `low`.
abbrev pub rows_need : List Entry → ℕ → List StreamValue → ℕ
rows_need low batch [] = 0
rows_need low batch (r ∷ rows) =
    create_need r.id (stream_of low r.id) + batches_need (commits_found low (stream_of low r.id)) (batches_of batch r.points)
    + rows_need low batch rows

-- There was room for the entry.
abbrev pub HadRoom : Result Receipt StepFault → Type 0
HadRoom (Ok receipt) = Unit {0}
HadRoom (Err (Stopped entries)) = Unit {0}
HadRoom (Err Sealed) = Unit {0}
HadRoom (Err (Rejected why)) = Unit {0}
HadRoom (Err Want) = Unit {0}
HadRoom (Err (DeviceFull need left)) = ⊥
HadRoom (Err DeviceFault) = Unit {0}

abbrev pub OutcomeHadRoom : RowsOutcome → Type 0
OutcomeHadRoom Output = Unit {0}
OutcomeHadRoom (NotCreated fault) = HadRoom (Err fault)
OutcomeHadRoom (Committed stream results latest) = AllByRecursion HadRoom results

-- Nothing is refused for lack of room if the most blocks that the rows need were left when the hall began, no id stands twice, and the
-- load is the first that is added to it.
abbrev pub LoadsFit : Type 0
LoadsFit =
    (start : StoreState) (log : LogState) (rows : RowListValue) (batch : ℕ) (reported : LoadedValue) (numbers : List ℕ)
    → Follows start.history → AreDistinct rows.streams → OnlyOwn log start.history numbers
    → Loads start log start.history rows batch reported numbers
    → rows_need start.history batch rows.streams ≤ start.left
    → AllByRecursion (λ s. OutcomeHadRoom s.outcome) reported.streams
