-- Blocks that are put where they are written.
use Rattle.std.specs.Prelude.{ℕ, ◌+◌, ◌*◌, ◌<◌, ◌≤◌, List, length, take, drop}

-- The bytes of one block of these.
abbrev pub block_at : List ℕ → ℕ → List ℕ
block_at bytes i = take 4096 (drop (4096 * i) bytes)

-- Each block of these bytes was put.
abbrev pub HasBlocks : (ℕ → List ℕ → Type 0) → List ℕ → Type 0
HasBlocks has_block bytes = (i : ℕ) → 4096 * i < length bytes → has_block i (block_at bytes i)

-- Each block of these bytes was put, the first of them as the one with the number `first`.
abbrev pub HasBlocksFrom : (ℕ → List ℕ → Type 0) → ℕ → List ℕ → Type 0
HasBlocksFrom has_block first bytes = (i : ℕ) → 4096 * i < length bytes → has_block (first + i) (block_at bytes i)

-- The blocks of a portion were put: where `weight` counts come before the first block, those with the counts from `from` on, below `to`.
abbrev pub HasPortion : (ℕ → List ℕ → Type 0) → ℕ → ℕ → ℕ → List ℕ → Type 0
HasPortion has_block weight from to bytes =
    (i : ℕ) → from ≤ weight + i → weight + i < to → 4096 * i < length bytes → has_block i (block_at bytes i)

-- The blocks of these bytes with the numbers from `from` on, below `to`, were put, as many as there are.
abbrev pub HasBlocksBetween : (ℕ → List ℕ → Type 0) → ℕ → ℕ → List ℕ → Type 0
HasBlocksBetween has_block from to bytes = (i : ℕ) → from ≤ i → i < to → 4096 * i < length bytes → has_block i (block_at bytes i)
