-- What filling an empty store with a sample does, and what it says.
use Rattle.std.specs.Prelude.{◌≡◌, ◌⊎◌, ℕ, ◌+◌, List, [], ◌∷◌, length, Option, Some, None, Result, Ok, Err, IfOk}
use Rattle.std.specs.declared.alloc.AllocError.{AllocError}
use Rattle.btr_hist.specs.declared.entry.Entry.{Entry}
use Rattle.btr_rows.specs.Rows.{rows_of}
use Rattle.btr_rows.specs.Sample.{sample_text}
use Rattle.btr_rows.specs.Streams.{RowListValue, list_of}
use Rattle.btr_gate.specs.Numbers.{times}
use Rattle.btr_jobs.specs.States.{StoreState, LogState, GoesOn}
use Rattle.btr_load.specs.Loads.{LoadedValue}
use Rattle.btr_work.specs.declared.report.RefreshLine.{RefreshLine}
use Rattle.btr_store.specs.declared.report_line.ReportLine.TheVariants as lines
use Rattle.btr_store.specs.declared.define.DefinedOutput.{DefinedOutput}
use Rattle.btr_store.specs.declared.sample.Filled.{Filled}
use Rattle.btr_store.specs.declared.sample.TheConstants.{BATCH}
use Rattle.btr_store.specs.declared.transcript.Transcript.{Transcript}
use Rattle.btr_store.specs.Transcript.{SaysLines}
use Rattle.btr_store.specs.Distil.{RefreshesIf}
use Rattle.btr_store.specs.Load.{LoadsIf}
use Rattle.btr_store.specs.Define.{DefinesEach}
use Rattle.btr_store.specs.SampleLines.{SaysAll, SaysSomeFilled}

-- ---- what is done

-- The rows of a sample: those that a reader finds in its text.
abbrev pub rows_of_sample : ℕ → ℕ → ℕ → RowListValue
rows_of_sample number streams points = list_of (rows_of (sample_text number streams points))

-- An empty store was filled, after all of `low` had been seen: the rows were loaded, then outputs were defined, and then each output
-- was brought up to date. If memory ran out, what follows was left out. `numbers` are those of what was added.
pub record Work (number streams points : ℕ) (start : StoreState) (log : LogState) (low : List Entry)
    (loaded : Option LoadedValue) (outputs : List DefinedOutput) (report : Option (List RefreshLine)) (numbers : List ℕ)
    : Type 0 where
  -- the states of the log after the load, and after the definitions
  pub load_end : LogState
  pub define_end : LogState
  pub load_first : GoesOn start define_end load_end
  pub define_first : GoesOn start log define_end
  -- the numbers of the load, of the definitions, and of what was added for outputs
  pub load_own : List ℕ
  pub define_own : List ℕ
  pub refresh_own : List ℕ
  pub loads : LoadsIf start load_end low (rows_of_sample number streams points) BATCH loaded load_own
  pub defines : DefinesEach start define_end load_end.history 0 outputs define_own define_end.history
  pub refreshes : RefreshesIf start log define_end.history report refresh_own
  pub own : (n : ℕ) → times n numbers ≡ times n load_own + times n define_own + times n refresh_own

-- ---- what is said

-- The transcript has the lines of what was done, if all was: one output was defined for each stream. Memory may run out for it.
abbrev pub SaysSample : ℕ → List Entry → Option LoadedValue → List DefinedOutput → Option (List RefreshLine)
    → Result Transcript AllocError → Type 0
SaysSample streams h loaded outputs report (Err error) = Unit {0}
SaysSample streams h None outputs report (Ok transcript) = ⊥
SaysSample streams h (Some loaded) outputs None (Ok transcript) = ⊥
SaysSample streams h (Some loaded) outputs (Some report) (Ok transcript) =
    (length outputs ≡ streams) × SaysAll h loaded outputs report transcript

-- An empty store was filled, and this was said of it.
pub record Fills (number streams points : ℕ) (start : StoreState) (log : LogState) (low : List Entry)
    (said : Result Transcript AllocError) (own : List ℕ) : Type 0 where
  pub loaded : Option LoadedValue
  pub outputs : List DefinedOutput
  pub report : Option (List RefreshLine)
  pub work : Work number streams points start log low loaded outputs report own
  pub says : SaysSample streams log.history loaded outputs report said

-- A store with these entries was left as it is, and that was said. Memory may run out for the line.
pub record LeavesUsed (log : LogState) (low : List Entry) (said : Result Transcript AllocError) (own : List ℕ) : Type 0 where
  pub none : own ≡ []
  pub same : log.history ≡ low
  pub says : IfOk said (SaysLines (lines.Used (length low) ∷ []))

-- A store that had the history `low` was filled with a sample if it was empty, and left as it is if not.
abbrev pub Samples : ℕ → ℕ → ℕ → StoreState → LogState → List Entry → Result Transcript AllocError → List ℕ → Type 0
Samples number streams points start log [] said own = Fills number streams points start log [] said own
Samples number streams points start log (e ∷ low) said own = LeavesUsed log (e ∷ low) said own

-- The transcript has the lines of a sample on each device: that the store is used, or what was done to it, with an output for each stream.
abbrev pub SaysSomeSample : ℕ → Transcript → Type 0
SaysSomeSample streams t =
    ((entries : ℕ) × SaysLines (lines.Used entries ∷ []) t)
    ⊎ ((filled : Filled) × (length filled.outputs.items ≡ streams) × SaysSomeFilled filled t)

-- ---- what private functions promise

-- An empty store was filled, or filled in part.
abbrev pub IsFilledInPart : ℕ → ℕ → ℕ → StoreState → LogState → List Entry → Result Filled AllocError → List ℕ → Type 0
IsFilledInPart number streams points start log low (Ok filled) own =
    (length filled.outputs.items ≡ streams)
    × Work number streams points start log low (Some filled.loaded) filled.outputs.items (Some filled.report) own
IsFilledInPart number streams points start log low (Err error) own =
    (loaded : Option LoadedValue) × (outputs : List DefinedOutput) × (report : Option (List RefreshLine))
    × Work number streams points start log low loaded outputs report own
