-- What is found at a gate in the blocks that a piece holds.
use Rattle.std.specs.Prelude.{◌≡◌, ℕ, ◌+◌, ◌-◌, ◌*◌, ◌<◌, ◌≤◌, min, Option, None, Some, Result, IfOk}
use Rattle.btr_disk.specs.Bytes.{Image, Has}
use Rattle.btr_disk.specs.Gate.{IsOpen, IsClosed}
use Rattle.btr_log.specs.declared.head.Head.{Head}
use Rattle.btr_log.specs.declared.found.ExtentFault.{ExtentFault}
use Rattle.btr_log.specs.Found.{IsWholeExtent, StartSays}
use Rattle.btr_log.specs.Piece.{PieceValue, HoldsBlocks, bytes_at}

-- The `count` blocks from the gate on are those of a log of this many blocks, and tell what is at the gate.
pub record TellsStart (blocks gate count : ℕ) : Type 0 where
  pub below : gate < blocks
  pub enough : min 2 (blocks - gate) ≤ count
  pub inside : gate + count ≤ blocks

-- The piece holds the `count` blocks from the gate on, and this is what they say.
pub record HoldsGateBlocks (blocks gate count : ℕ) (piece : PieceValue) (found : Option Head) : Type 0 where
  pub held : HoldsBlocks piece gate count
  pub start : StartSays blocks gate (bytes_at piece gate (min 2 (blocks - gate))) found

-- The piece holds the body of a whole extent with this head.
pub record HoldsExtent (blocks gate : ℕ) (piece : PieceValue) (head : Head) : Type 0 where
  pub held : HoldsBlocks piece (gate + 1) head.n
  pub whole : IsWholeExtent blocks gate head (bytes_at piece (gate + 1) head.n) (gate + head.n + 1)

-- The extent whose head is found is whole in the piece, whether the device is observable or not.
abbrev pub HoldsWhole : ℕ → ℕ → PieceValue → Option Head → Type 0
HoldsWhole blocks gate piece None = Unit {0}
HoldsWhole blocks gate piece (Some head) = HoldsExtent blocks gate piece head

-- What is found is what the device has.
abbrev pub MatchesPiece : Image → ℕ → PieceValue → Option Head → Type 0
MatchesPiece image gate piece None = IsClosed image gate
MatchesPiece image gate piece (Some head) = IsOpen image gate × Has image (4096 * (gate + 1)) (bytes_at piece (gate + 1) head.n)

-- What is found is whole in the piece, and on a device that is observable it is what the device has.
pub record IsFoundAhead (is_observable : Type 0) (image : Image) (blocks gate : ℕ) (piece : PieceValue) (found : Option Head) : Type 0 where
  pub whole : HoldsWhole blocks gate piece found
  pub matches : is_observable → MatchesPiece image gate piece found

-- The number of blocks from the gate on that say what is found: the gate and the block after it, or the gate and its extent.
abbrev pub found_blocks : ℕ → ℕ → Option Head → ℕ
found_blocks blocks gate None = min 2 (blocks - gate)
found_blocks blocks gate (Some head) = head.n + 1

-- At most two calls of the device were made, and none if the piece held all blocks that say what is found.
pub record ReadsAhead (blocks gate : ℕ) (piece : PieceValue) (r : Result (Option Head) ExtentFault) (before after : ℕ) : Type 0 where
  pub most : after ≤ before + 2
  pub none : IfOk r (λ found. HoldsBlocks piece gate (found_blocks blocks gate found) → after ≡ before)
