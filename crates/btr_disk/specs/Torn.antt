-- Blocks that are marked as torn: a crash may leave any bytes there.
use Rattle.std.specs.Prelude.{◌≡◌, ℕ, ◌+◌, ◌/◌, ◌<◌, ◌≤◌, Bool, true, Some, List, length, slice_get}

-- The block of the address is marked as torn.
abbrev pub IsTornAt : List Bool → ℕ → Type 0
IsTornAt torn k = slice_get torn (k / 4096) ≡ Some true

-- No block is marked as torn.
abbrev pub IsUntorn : List Bool → Type 0
IsUntorn torn = (block : ℕ) → slice_get torn block ≡ Some true → ⊥

-- The `count` blocks from `first` on are marked as torn, and the others are as before.
pub record Tore (first count : ℕ) (old new : List Bool) : Type 0 where
  pub same_length : length new ≡ length old
  pub marked : (block : ℕ) → first ≤ block → block < first + count → slice_get new block ≡ Some true
  pub below : (block : ℕ) → block < first → slice_get new block ≡ slice_get old block
  pub above : (block : ℕ) → first + count ≤ block → slice_get new block ≡ slice_get old block
