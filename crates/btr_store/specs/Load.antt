-- What loading rows into a store does, and what it says of them.
use Rattle.std.specs.Prelude.{◌≡◌, ℕ, ◌≤◌, false, List, [], Option, Some, None, Result, Ok, Err, IfSome}
use Rattle.std.specs.List.{AllByRecursion}
use Rattle.std.specs.declared.alloc.AllocError.{AllocError}
use Rattle.btr_hist.specs.declared.entry.Entry.{Entry}
use Rattle.btr_rows.specs.Streams.{RowListValue}
use Rattle.btr_jobs.specs.States.{StoreState, LogState}
use Rattle.btr_load.specs.Loads.{LoadedValue, Loads, LoadsInTurn}
use Rattle.btr_load.specs.There.{AreDistinct, AreThere}
use Rattle.btr_load.specs.Alike.{IsAlike, IsPlainOutcome}
use Rattle.btr_load.specs.InOrder.{OutcomeHadMemory, IsLoadedInOrder}
use Rattle.btr_store.specs.declared.transcript.Transcript.{Transcript}
use Rattle.btr_store.specs.Completes.{SaysBenign, HasRoomForRows}
use Rattle.btr_store.specs.LoadLines.{SaysLoad}

-- The rows were loaded, and this became of them; or memory ran out before any entry.
abbrev pub LoadsIf : StoreState → LogState → List Entry → RowListValue → ℕ → Option LoadedValue → List ℕ → Type 0
LoadsIf start log low rows batch None own = own ≡ []
LoadsIf start log low rows batch (Some loaded) own = Loads start log low rows batch loaded own

-- The transcript has the lines of what became of the rows. Memory may run out for it.
abbrev pub SaysLoaded : Option LoadedValue → Result Transcript AllocError → Type 0
SaysLoaded loaded (Err error) = Unit {0}
SaysLoaded None (Ok transcript) = ⊥
SaysLoaded (Some loaded) (Ok transcript) = SaysLoad loaded transcript

-- The transcript has the lines of a load, whatever became of its rows.
abbrev pub SaysSomeLoad : Transcript → Type 0
SaysSomeLoad transcript = (loaded : LoadedValue) × SaysLoad loaded transcript

-- Rows were loaded, after all of `low` had been seen, and this was said of them. `own` are the numbers of what was added.
pub record LoadsRows (start : StoreState) (log : LogState) (low : List Entry) (rows : RowListValue) (batch : ℕ)
    (said : Result Transcript AllocError) (own : List ℕ) : Type 0 where
  pub loaded : Option LoadedValue
  pub loads : LoadsIf start log low rows batch loaded own
  pub says : SaysLoaded loaded said

-- The same of one worker: the streams were committed one after another.
pub record LoadsRowsInTurn (start : StoreState) (log : LogState) (low : List Entry) (rows : RowListValue) (batch : ℕ)
    (said : Result Transcript AllocError) (own : List ℕ) : Type 0 where
  pub did : LoadsRows start log low rows batch said own
  pub in_turn : IfSome did.loaded (λ loaded. LoadsInTurn start log low rows batch loaded own)

-- ---- the work on a store that nobody else uses

-- No result came from the memory or from the device.
abbrev pub ArePlain : LoadedValue → Type 0
ArePlain loaded = AllByRecursion (λ s. IsPlainOutcome s.outcome) loaded.streams

-- The memory sufficed for each create and each batch.
abbrev pub HadMemoryForAll : LoadedValue → Type 0
HadMemoryForAll loaded = AllByRecursion (λ s. OutcomeHadMemory s.outcome) loaded.streams

-- Rows were loaded by this many workers into a store that nobody else used, and this was said of them. `own` are the numbers of what was
-- added.
pub record LoadsStore (start : StoreState) (log : LogState) (rows : RowListValue) (batch workers : ℕ) (said : Result Transcript AllocError)
    (own : List ℕ) : Type 0 where
  pub did : LoadsRows start log start.history rows batch said own
  -- just the creates and the batches that were accepted were added, each batch at the number of its receipt
  pub there : AreDistinct rows.streams → IfSome did.loaded (AreThere log.history start.history)
  -- any number of workers leaves each stream as the plain load does, if the memory and the device sufficed
  pub alike : AreDistinct rows.streams
      → IfSome did.loaded (λ loaded. ArePlain loaded → IsAlike log.history start.history rows.streams batch loaded.streams)
  -- one worker makes the creates in order, and then commits the batches stream by stream, each entry if the model accepts it and the
  -- blocks that are left suffice: if the store is not sealed, and memory and device did not fail, the history and the results are those
  pub in_order : workers ≤ 1 → start.sealed ≡ false → log.failed ≡ None
      → IfSome did.loaded (λ loaded. HadMemoryForAll loaded → IsLoadedInOrder start log rows.streams batch loaded.streams)
  -- if there was room for the rows, and the device did not fail, no line says that it was full or failed
  pub completes : AreDistinct rows.streams → HasRoomForRows start rows batch → log.failed ≡ None → SaysBenign said
