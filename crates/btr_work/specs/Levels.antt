-- The levels of outputs: each output stands above its inputs.
use Rattle.std.specs.Prelude.{◌≡◌, ℕ, ◌+◌, ◌<◌, ◌==◌, max, List, [], ◌∷◌, ◌++◌, length, slice_index_or, if◌then◌else◌}
use Rattle.std.specs.Prelude.{Option, Some, None}
use Rattle.btr_hist.specs.declared.entry.Entry.{Entry}
use Rattle.btr_hist.specs.declared.kernel.Spec.{Spec}
use Rattle.btr_hist.specs.History.{kinds}

-- The level of a second input, if there is one, if the streams have these levels.
abbrev pub second_level : List ℕ → Option ℕ → ℕ
second_level levels None = 0
second_level levels (Some stream) = slice_index_or levels stream 0

-- The level of the next stream, if those before it have these levels: 0 of a plain stream, and of an output one more than the
-- greatest of its inputs. An input that is not there counts as a plain stream; a store has none.
abbrev pub next_level : List ℕ → Option Spec → ℕ
next_level levels None = 0
next_level levels (Some spec) = max (slice_index_or levels spec.first 0) (second_level levels spec.second) + 1

-- The levels of streams of these kinds, after others that have these levels.
abbrev pub levels_from : List ℕ → List (Option Spec) → List ℕ
levels_from levels [] = levels
levels_from levels (kind ∷ more) = levels_from (levels ++ next_level levels kind ∷ []) more

-- The level of each stream, in the order of their numbers.
abbrev pub levels_of : List Entry → List ℕ
levels_of h = levels_from [] (kinds h)

-- The places of the items that are equal to k, in rising order, if the first item has this place.
abbrev pub places_from : ℕ → ℕ → List ℕ → List ℕ
places_from place k [] = []
places_from place k (n ∷ ns) = if n == k then place ∷ places_from (place + 1) k ns else places_from (place + 1) k ns

-- The streams of a level, in rising order, if the streams have these levels.
abbrev pub streams_at : List ℕ → ℕ → List ℕ
streams_at levels k = places_from 0 k levels

-- If the streams have these levels, these are the streams of each level from level 1 on, each in rising order. None is empty.
pub record AreGroups (levels : List ℕ) (groups : List (List ℕ)) : Type 0 where
  pub each : (k : ℕ) → slice_index_or groups k [] ≡ streams_at levels (k + 1)
  pub some : (k : ℕ) → k < length groups → 0 < length (slice_index_or groups k [])

-- These are the outputs of the history by levels, from level 1 on, each level in rising order. None is empty.
abbrev pub AreLevels : List Entry → List (List ℕ) → Type 0
AreLevels h groups = AreGroups (levels_of h) groups

-- The streams of levels in one list, level by level.
abbrev pub by_levels : List (List ℕ) → List ℕ
by_levels [] = []
by_levels (level ∷ levels) = level ++ by_levels levels

-- The outputs among streams of these kinds, in rising order, if the first stream has this number.
abbrev pub outputs_from : ℕ → List (Option Spec) → List ℕ
outputs_from stream [] = []
outputs_from stream (None ∷ kinds) = outputs_from (stream + 1) kinds
outputs_from stream (Some spec ∷ kinds) = stream ∷ outputs_from (stream + 1) kinds

-- The outputs of a history, in the order in which they were defined.
abbrev pub outputs : List Entry → List ℕ
outputs h = outputs_from 0 (kinds h)
