-- How much room a sample needs: in an empty store that of its rows, and then of all that may be defined and landed; else none.
use Rattle.std.specs.Prelude.{◌≡◌, ℕ, ◌+◌, ◌<◌, ◌≤◌, List, [], ◌∷◌, ◌++◌, length, map}
use Rattle.std.specs.List.{AllByRecursion}
use Rattle.btr_hist.specs.declared.entry.Entry.{Entry}
use Rattle.btr_hist.specs.declared.entry.Entry.TheVariants.{Define}
use Rattle.btr_hist.specs.Legal.{Follows}
use Rattle.btr_rows.specs.Streams.{StreamValue, RowListValue}
use Rattle.btr_gate.specs.Prefixes.{StartsWith}
use Rattle.btr_engine.specs.Body.{needs_of}
use Rattle.btr_jobs.specs.States.{StoreState}
use Rattle.btr_load.specs.declared.stream.LoadedStream.{LoadedStream}
use Rattle.btr_load.specs.Loads.{LoadedValue}
use Rattle.btr_load.specs.There.{AreThere}
use Rattle.btr_store.specs.declared.sample.TheConstants.{BATCH}
use Rattle.btr_store.specs.Completes.{HasRoomForRows, LandsSince}
use Rattle.btr_store.specs.Define.{output_id, mean_of}
use Rattle.btr_store.specs.Sample.{rows_of_sample}

-- The streams are those of these rows, in batches of this size, whatever became of them.
abbrev pub AreOfRows : ℕ → List StreamValue → List LoadedStream → Type 0
AreOfRows batch rows streams = (map (λ s. s.rows) streams ≡ rows) × AllByRecursion (λ s. s.batch ≡ batch) streams

-- The history has creates and batches of these rows, each at most once, and nothing else.
abbrev pub IsLoadOf : ℕ → RowListValue → List Entry → Type 0
IsLoadOf batch rows h = (loaded : LoadedValue) × AreOfRows batch rows.streams loaded.streams × AreThere h [] loaded

-- The history goes on from `low` by the definitions of outputs of a sample with this number of streams alone. Each may follow the entries
-- before it.
pub record DefinesSince (streams : ℕ) (low h : List Entry) : Type 0 where
  pub begins : StartsWith h low
  pub follows : Follows h
  pub defines : (p : List Entry) (e : Entry) → StartsWith h (p ++ e ∷ []) → length low ≤ length p
      → (stream input : ℕ) × (stream < streams) × (e ≡ Define (output_id stream) (mean_of input))

-- All blocks that the rows need are left. Whatever of them is loaded, then defined, and then landed once for each output, its blocks
-- are left.
pub record HasRoomToFill (number streams points : ℕ) (start : StoreState) : Type 0 where
  pub rows : HasRoomForRows start (rows_of_sample number streams points) BATCH
  pub outputs : (loaded defined landed : List Entry)
      → IsLoadOf BATCH (rows_of_sample number streams points) loaded → DefinesSince streams loaded defined → LandsSince 1 defined landed
      → needs_of landed ≤ start.left + needs_of start.history

-- A store without an entry has room for the sample. A store that has an entry needs none, since nothing is added to it.
abbrev pub HasRoomForSample : ℕ → ℕ → ℕ → StoreState → Type 0
HasRoomForSample number streams points start = start.history ≡ [] → HasRoomToFill number streams points start
