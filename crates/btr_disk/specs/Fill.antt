-- The images of a crash that a device in memory makes as devices of their own.
use Rattle.std.specs.Prelude.{◌≡◌, ◌⊎◌, ℕ, ◌+◌, ◌%◌, ◌<◌, ◌≤◌, List, length, slice_index, slice_index_or}
use Rattle.btr_disk.specs.Bytes.{Image, Same}
use Rattle.btr_disk.specs.CallRecord.{IsUnsyncedAt, newest_first}
use Rattle.btr_disk.specs.Gate.{mark}
use Rattle.btr_disk.specs.Replay.{WasAtLastSync}
use Rattle.btr_disk.specs.Torn.{IsTornAt}
use Rattle.btr_disk.specs.declared.call_record.CallRecord.{CallRecord}
use Rattle.btr_disk.specs.declared.image.Fill.{Fill}
use Rattle.btr_disk.specs.declared.image.Fill.TheVariants.{Written, Kept, Zeros, Ones, Gates}

-- The byte at an address that the fill decides: 0, 255, or that of a block that begins with the mark of an open gate. `Written` and
-- `Kept` decide none.
abbrev pub fill_byte : Fill → ℕ → ℕ
fill_byte Written k = 0
fill_byte Kept k = 0
fill_byte Zeros k = 0
fill_byte Ones k = 255
fill_byte Gates k = slice_index_or mark (k % 4096) 255

-- The addresses with P have the byte of the fill, and the others are as before.
pub record FillsWhere (fill : Fill) (P : ℕ → Type 0) (old new : List ℕ) : Type 0 where
  pub same_length : length new ≡ length old
  pub filled : (k : ℕ) → k < length old → P k → slice_index new k ≡ fill_byte fill k
  pub rest : (k : ℕ) → (P k → ⊥) → slice_index new k ≡ slice_index old k
  -- What has the byte keeps it.
  pub stays : (k : ℕ) → slice_index old k ≡ fill_byte fill k → slice_index new k ≡ fill_byte fill k

-- The address is one of the n from this one on.
abbrev pub IsAddressIn : ℕ → ℕ → ℕ → Type 0
IsAddressIn address n k = (address ≤ k) × (k < address + n)

-- A crash may leave any byte at the address: it is unsynced, or in a torn block.
abbrev pub IsLooseAt : CallRecord → ℕ → Type 0
IsLooseAt made k = IsUnsyncedAt (newest_first made) k ⊎ IsTornAt made.torn.flags.items k

-- The image of this fill: as a read returns, as a read returned at the last sync that succeeded, or with the byte of the fill at each
-- address where a crash may leave any.
abbrev pub HasFill : Fill → Image → CallRecord → ℕ → Image → Type 0
HasFill Written now made size image = Same now image
HasFill Kept now made size image = WasAtLastSync now (newest_first made) made.replaced.items image
HasFill Zeros now made size image = (k : ℕ) → k < size → IsLooseAt made k → image k ≡ 0
HasFill Ones now made size image = (k : ℕ) → k < size → IsLooseAt made k → image k ≡ 255
HasFill Gates now made size image = (k : ℕ) → k < size → IsLooseAt made k → image k ≡ fill_byte Gates k
