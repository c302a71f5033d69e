-- What the laws of loads and of reports say of a sample of a store that nobody else uses.
use Rattle.std.specs.Prelude.{◌≡◌, ℕ, List, [], ◌∷◌, None, Result, IfSome}
use Rattle.std.specs.declared.alloc.AllocError.{AllocError}
use Rattle.btr_hist.specs.declared.entry.Entry.{Entry}
use Rattle.btr_jobs.specs.States.{StoreState, LogState}
use Rattle.btr_load.specs.There.{AreThere}
use Rattle.btr_load.specs.Alike.{IsAlike}
use Rattle.btr_store.specs.declared.sample.TheConstants.{BATCH}
use Rattle.btr_store.specs.declared.transcript.Transcript.{Transcript}
use Rattle.btr_store.specs.Distil.{AreCurrent, AreUndisturbed, AreOfOneWorker}
use Rattle.btr_store.specs.Load.{ArePlain}
use Rattle.btr_store.specs.Completes.{SaysBenign}
use Rattle.btr_store.specs.Sample.{rows_of_sample, Fills, Samples}
use Rattle.btr_store.specs.SampleRoom.{HasRoomForSample}

-- An empty store was filled that nobody else used. What is said of a part of the work is said if the device did not fail before its end
-- or, of the outputs, before its begin.
pub record FillsStore (number streams points : ℕ) (start : StoreState) (log : LogState) (low : List Entry)
    (said : Result Transcript AllocError)
    (own : List ℕ) (did : Fills number streams points start log low said own) : Type 0 where
  -- after the load just the creates and the batches that were accepted are there, each batch at the number of its receipt
  pub there : did.work.load_end.failed ≡ None → IfSome did.loaded (AreThere did.work.load_end.history low)
  -- any number of workers loads as the plain load does, if the memory and the device sufficed
  pub loads_alike : did.work.load_end.failed ≡ None → IfSome did.loaded (λ loaded. ArePlain loaded
      → IsAlike did.work.load_end.history low (rows_of_sample number streams points).streams BATCH loaded.streams)
  -- each output whose result is no refusal is up to date in the end, and none is superseded
  pub current : did.work.define_end.failed ≡ None → IfSome did.report (AreCurrent log.history)
  -- any number of workers leaves of the outputs what one worker leaves, if the memory and the device sufficed
  pub refreshes_alike : did.work.define_end.failed ≡ None
      → IfSome did.report (λ report. AreUndisturbed report → AreOfOneWorker log.history did.work.define_end.history report)

-- The same of a store that had the history `low`: if it was empty, the laws hold.
abbrev pub SettlesStore : (number streams points : ℕ) (start : StoreState) (log : LogState) (low : List Entry)
    (said : Result Transcript AllocError) (own : List ℕ) → Samples number streams points start log low said own → Type 0
SettlesStore number streams points start log [] said own did = FillsStore number streams points start log [] said own did
SettlesStore number streams points start log (e ∷ low) said own did = Unit {0}

-- A store that nobody else used was filled with a sample if it was empty, and left as it is if not. This was said of it. `own` are the
-- numbers of what was added.
pub record SamplesStore (number streams points : ℕ) (start : StoreState) (log : LogState) (said : Result Transcript AllocError)
    (own : List ℕ)
    : Type 0 where
  pub did : Samples number streams points start log start.history said own
  pub settles : SettlesStore number streams points start log start.history said own did
  -- if there was room for all of it or the store was used, and the device did not fail, no line says that it was full or failed
  pub completes : HasRoomForSample number streams points start → log.failed ≡ None → SaysBenign said
