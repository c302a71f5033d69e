-- Pieces: runs of blocks that were read from a device and are kept, and what they hold.
use Rattle.std.specs.Prelude.{◌≡◌, ℕ, ◌+◌, ◌-◌, ◌*◌, ◌≤◌, List, [], length, take, drop}
use Rattle.btr_disk.specs.Bytes.{Image, Has}
use Rattle.btr_disk.specs.Causes.{KeepsCounts}

-- The first block of a piece, and its bytes.
pub record PieceValue : Type 0 where
  pub first : ℕ
  pub bytes : List ℕ

-- The piece with no block.
abbrev pub empty_piece : PieceValue
empty_piece = record { first = 0; bytes = [] }

-- The blocks of the piece are those of the image.
abbrev pub IsPieceOf : Image → PieceValue → Type 0
IsPieceOf image p = Has image (4096 * p.first) p.bytes

-- The piece holds the `count` blocks from this one on.
pub record HoldsBlocks (p : PieceValue) (block count : ℕ) : Type 0 where
  pub begins : p.first ≤ block
  pub ends : 4096 * (block + count) ≤ 4096 * p.first + length p.bytes

-- At most one call of the device was made, and none if the piece held the blocks: then it stays.
pub record ReadsIfNotHeld (held : Type 0) (old new : PieceValue) (before after : ℕ) : Type 0 where
  pub most : after ≤ before + 1
  pub none : held → (new ≡ old) × (after ≡ before)

-- The device has as many blocks as before, and its counts have not fallen. It was read if the piece did not hold the blocks.
pub record ReadsPiece {D : Type 0} (size calls faults : D → ℕ) (held : Type 0) (old new : PieceValue) (before after : D) : Type 0 where
  pub counts : KeepsCounts size calls faults before after
  pub call : ReadsIfNotHeld held old new (calls before) (calls after)

-- The bytes of the `count` blocks from this one on.
abbrev pub bytes_at : PieceValue → ℕ → ℕ → List ℕ
bytes_at p block count = take (4096 * count) (drop (4096 * (block - p.first)) p.bytes)
