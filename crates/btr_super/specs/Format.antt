-- The making of an empty store: what is written, and what a crash at any moment leaves.
use Rattle.std.specs.Prelude.{◌≡◌, ℕ, ◌*◌, ◌^◌, ◌<◌, ◌≤◌, ◌⊎◌, Result, OnOk}
use Rattle.btr_disk.specs.Bytes.{Image, Has, SameButTwo}
use Rattle.btr_disk.specs.Images.{Only}
use Rattle.btr_disk.specs.Moments.{Leaves, IsUnwritten}
use Rattle.btr_disk.specs.Gate.{IsOpen, IsClosed, gate_block, zeros}
use Rattle.btr_super.specs.Super.{super_bytes, first_super}
use Rattle.btr_super.specs.Choose.{IsChosen}

-- The number of blocks is one that a store can have.
pub record IsStoreSize (blocks : ℕ) : Type 0 where
  pub least : 8 ≤ blocks
  pub greatest : blocks ≤ 2 ^ 32

-- More blocks were asked for than the device has.
pub record IsTooSmall (size blocks asked has : ℕ) : Type 0 where
  pub short : size < blocks
  pub asked_is : asked ≡ blocks
  pub has_is : has ≡ size

-- The block is the first open gate of a superblock.
abbrev pub IsOccupied : Image → ℕ → Type 0
IsOccupied image block = ((block ≡ 0) × IsOpen image 0) ⊎ ((block ≡ 2) × IsClosed image 0 × IsOpen image 2)

-- No gate of a superblock is open.
pub record HasClosedGates (image : Image) : Type 0 where
  pub first : IsClosed image 0
  pub second : IsClosed image 2

-- A store of `blocks` blocks that has no entry: its superblock is chosen, and the log's first gate is closed.
pub record IsEmptyStore (size blocks : ℕ) (image : Image) : Type 0 where
  pub chosen : IsChosen size image (first_super blocks)
  pub no_entry : IsClosed image 4

-- The body of the first superblock and the log's first gate are stored.
pub record HasBodies (blocks : ℕ) (image : Image) : Type 0 where
  pub body : Has image (4096 * 1) (super_bytes (first_super blocks))
  pub log : Has image (4096 * 4) (zeros 4096)

-- All but the blocks of these two is as before.
abbrev pub SameButBodies : Image → Image → Type 0
SameButBodies old new = SameButTwo (4096 * 1) 4096 (4096 * 4) 4096 old new

-- Gate and body of superblock A and the log's first gate were written, all else is as before, and the result is an empty store.
pub record Formatted (size blocks : ℕ) (old new : Image) : Type 0 where
  pub gate : Has new (4096 * 0) gate_block
  pub body : Has new (4096 * 1) (super_bytes (first_super blocks))
  pub log : Has new (4096 * 4) (zeros 4096)
  pub elsewhere : SameButTwo (4096 * 0) 8192 (4096 * 4) 4096 old new
  pub store : IsEmptyStore size blocks new

-- At each moment no gate of a superblock is open, or there is the empty store. All but blocks 0, 1 and 4 is as before.
pub record IsFormatting (size blocks : ℕ) (old new : Image) : Type 0 where
  pub none_or_empty : HasClosedGates new ⊎ IsEmptyStore size blocks new
  pub elsewhere : SameButTwo (4096 * 0) 8192 (4096 * 4) 4096 old new

-- The writes began at `start`: nothing was written before, a crash there left what a read returns, and each image since has P.
pub record WritesFrom {D : Type 0} (calls : D → ℕ) (contents : D → Image) (images_now : D → Image → Type 0)
    (images_since : D → ℕ → Image → Type 0) (P : Image → Type 0) (old start new : D) : Type 0 where
  pub unwritten : IsUnwritten calls contents images_now images_since old start
  pub settled : Only (contents old) (images_now start)
  pub moments : Leaves calls images_since start new P

-- The calls from `old` to `new` write the store that has no entry: what they leave if they succeed, and what a crash leaves at each moment.
pub record WritesStore {D T E : Type 0} (size calls : D → ℕ) (contents : D → Image) (images_now : D → Image → Type 0)
    (images_since : D → ℕ → Image → Type 0) (blocks : ℕ) (old new : D) (result : Result T E) : Type 0 where
  pub formatted : HasClosedGates (contents old) → OnOk result (Formatted (size old) blocks (contents old) (contents new))
  pub synced : OnOk result (Only (contents new) (images_now new))
  -- Given that a crash before the calls left what a read returns.
  pub moments : HasClosedGates (contents old) → Only (contents old) (images_now old)
      → Leaves calls images_since old new (IsFormatting (size old) blocks (contents old))

-- If the format succeeded, the device has the store that has no entry, and a crash leaves nothing else.
pub record MakesStore {D T E : Type 0} (size : D → ℕ) (contents : D → Image) (images_now : D → Image → Type 0)
    (blocks : ℕ) (old new : D) (result : Result T E) : Type 0 where
  pub formatted : OnOk result (Formatted (size old) blocks (contents old) (contents new))
  pub synced : OnOk result (Only (contents new) (images_now new))

-- Nothing was written, or the writes of a format began at some moment.
abbrev pub LeavesFormatting : {D : Type 0} → (size calls : D → ℕ) → (contents : D → Image) → (images_now : D → Image → Type 0)
    → (images_since : D → ℕ → Image → Type 0) → ℕ → D → D → Type 0
LeavesFormatting {D} size calls contents images_now images_since blocks old new =
    IsUnwritten calls contents images_now images_since old new
    ⊎ ((start : D) × WritesFrom calls contents images_now images_since (IsFormatting (size old) blocks (contents old)) old start new)
