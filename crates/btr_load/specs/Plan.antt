-- What the private functions promise that open the streams of a load: what is planned of each, and what a create makes of it.
use Rattle.std.specs.Prelude.{◌≡◌, ℕ, List, [], ◌∷◌, ◌++◌, Option, Some, None, Result, Ok, Err}
use Rattle.std.specs.List.{AllByRecursion}
use Rattle.btr_hist.specs.declared.entry.Entry.{Entry}
use Rattle.btr_hist.specs.History.{stream_of, spec_of}
use Rattle.btr_rows.specs.Streams.{StreamValue}
use Rattle.btr_streams.specs.declared.board.Receipt.{Receipt}
use Rattle.btr_streams.specs.declared.snapshot.Snapshot.{Snapshot}
use Rattle.btr_streams.specs.Snapshot.{IsSnapshotOf}
use Rattle.btr_engine.specs.declared.step.StepFault.{StepFault}
use Rattle.btr_jobs.specs.States.{StoreState, LogState}
use Rattle.btr_jobs.specs.Turns.{IsIdle}
use Rattle.btr_load.specs.declared.outcome.RowsOutcome.{RowsOutcome}
use Rattle.btr_load.specs.declared.outcome.RowsOutcome.TheVariants.{Output, NotCreated, Committed}
use Rattle.btr_load.specs.declared.stream.LoadedStream.{LoadedStream}
use Rattle.btr_load.specs.Work.{IsReady}
use Rattle.btr_load.specs.Loads.{IsCommittedTo, OutcomeOfFound, CreatesIfNew}

-- What is planned for rows whose stream is this one after the history h. One that is not there has the number 0 for now.
abbrev pub IsPlanned : List Entry → Option ℕ → RowsOutcome → Type 0
IsPlanned h (Some stream) outcome = OutcomeOfFound h stream (spec_of h stream) outcome
IsPlanned h None outcome = IsCommittedTo 0 0 outcome

-- The same of the streams of rows, in order.
abbrev pub ArePlanned : List Entry → ℕ → List StreamValue → List LoadedStream → Type 0
ArePlanned h batch [] [] = Unit {0}
ArePlanned h batch [] (s ∷ streams) = ⊥
ArePlanned h batch (r ∷ rows) [] = ⊥
ArePlanned h batch (r ∷ rows) (s ∷ streams) =
    (s.rows ≡ r) × (s.batch ≡ batch) × IsPlanned h (stream_of h r.id) s.outcome × ArePlanned h batch rows streams

abbrev pub AreReady : List LoadedStream → Type 0
AreReady streams = AllByRecursion IsReady streams

-- The outcome of rows after the create of their stream returned this.
abbrev pub settled_outcome : RowsOutcome → Result Receipt StepFault → RowsOutcome
settled_outcome outcome (Err fault) = NotCreated fault
settled_outcome Output (Ok receipt) = Output
settled_outcome (NotCreated fault) (Ok receipt) = NotCreated fault
settled_outcome (Committed stream results latest) (Ok receipt) = Committed receipt.stream results latest

-- The stream of rows was opened, right after the history p, if it was planned after the history h.
pub record IsStreamSettled (start : StoreState) (log : LogState) (h p : List Entry) (was now : LoadedStream) (own : List ℕ)
    (next : List Entry)
    : Type 0 where
  pub rows : now.rows ≡ was.rows
  pub batch : now.batch ≡ was.batch
  pub ready : IsReady was → IsReady now
  pub opens : IsPlanned h (stream_of h was.rows.id) was.outcome
      → CreatesIfNew start log h p was.rows.id (stream_of h was.rows.id) now.outcome own next

-- The streams of rows were opened, in order.
abbrev pub AreStreamsSettled : StoreState → LogState → List Entry → List Entry → List LoadedStream → List LoadedStream
    → List ℕ → List Entry → Type 0
AreStreamsSettled start log h p [] [] own last = IsIdle p own last
AreStreamsSettled start log h p [] (now ∷ after) own last = ⊥
AreStreamsSettled start log h p (was ∷ before) [] own last = ⊥
AreStreamsSettled start log h p (was ∷ before) (now ∷ after) own last =
    (first rest : List ℕ) × (next : List Entry) × (own ≡ first ++ rest)
    × IsStreamSettled start log h p was now first next × AreStreamsSettled start log h next before after rest last

-- The streams were opened, in order, for each history of the snapshot by which they were planned.
abbrev pub SettlesStreams : Snapshot → List LoadedStream → List LoadedStream → StoreState → LogState → List Entry → List ℕ → Type 0
SettlesStreams snapshot was now start log low own =
    (h : List Entry) → IsSnapshotOf h snapshot → AreStreamsSettled start log h low was now own log.history
