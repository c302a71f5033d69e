-- What the private functions promise that find levels.
use Rattle.std.specs.Prelude.{◌≡◌, ℕ, ◌+◌, ◌≤◌, ◌==◌, max, List, [], ◌∷◌, ◌++◌, length, slice_index_or, if◌then◌else◌}

-- No number is above the top.
abbrev pub AreAtMost : List ℕ → ℕ → Type 0
AreAtMost ns top = (place : ℕ) → slice_index_or ns place 0 ≤ top

-- A stream is placed at the end of its level. At level 0 nothing is placed.
pub record PlacesStream (level stream : ℕ) (old new : List (List ℕ)) : Type 0 where
  pub each : (k : ℕ)
      → slice_index_or new k [] ≡ (if level == k + 1 then slice_index_or old k [] ++ stream ∷ [] else slice_index_or old k [])
  pub counted : length new ≡ max (length old) level
