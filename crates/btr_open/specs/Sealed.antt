-- What the opening of a sealed store as a shelf promises: the shelf that it returns, and why it returns none.
use Rattle.std.specs.Prelude.{◌≡◌, ◌⊎◌, ℕ, ◌+◌, ◌*◌, ◌<◌, ◌≤◌, true, false, List}
use Rattle.btr_disk.specs.declared.disk.Disk.{Ghosts}
use Rattle.btr_disk.specs.Bytes.{Image, Has}
use Rattle.btr_disk.specs.Causes.{Rose}
use Rattle.btr_disk.specs.Gate.{IsOpen, IsClosed}
use Rattle.btr_log.specs.declared.found.Found.{Found}
use Rattle.btr_log.specs.declared.found.Found.TheVariants.{Closed, Extent}
use Rattle.btr_super.specs.declared.superblock.Super.{Super}
use Rattle.btr_super.specs.Super.{has_seal}
use Rattle.btr_super.specs.Choose.{HasNoSuper, IsChosen, IsDamagedSuper}
use Rattle.btr_node.specs.declared.page.NodePage.{NodePage}
use Rattle.btr_shelf.specs.DeviceBlocks.{DeviceBlocks, IsBlockPage}
use Rattle.btr_hist.specs.declared.entry.Entry.{Entry}
use Rattle.btr_engine.specs.Body.{MayStandUnder}
use Rattle.btr_engine.specs.Holds.{HoldsHistoryTo, HoldsHistory}
use Rattle.btr_open.specs.declared.opening.OpenCause.{OpenCause}
use Rattle.btr_open.specs.declared.opening.OpenCause.TheVariants as cause
use Rattle.btr_open.specs.declared.sealed.SealedFault.{SealedFault}
use Rattle.btr_open.specs.declared.sealed.SealedFault.TheVariants.{NotAStore, Unsealed, Damaged, Fault, Want}
use Rattle.btr_open.specs.Start.{HasRoll, IsCheckpointExtent, IsWrongStart}
use Rattle.btr_open.specs.Walk.{IsOpenTail}
use Rattle.btr_open.specs.Checkpoint.{IsRollRead}
use Rattle.btr_open.specs.Shelf.{ShelfValue, IsPossibleShelfOf, IsShelfOf}

-- ---- a damaged sealed store

-- The superblock names no checkpoint. Its body breaks the format of a sealed store.
pub record NamesNoCheckpoint (s : Super) (block : ℕ) : Type 0 where
  pub none : s.checkpoint ≡ 0
  pub of : block ≡ 2 * s.side + 1

-- This block of the sealed store of a superblock breaks the format: the superblock's body if it names no checkpoint, one of the checkpoint,
-- or the gate at the tail.
abbrev pub IsDamagedSealed : Image → Super → ℕ → Type 0
IsDamagedSealed image s block = NamesNoCheckpoint s block ⊎ (IsWrongStart image s block ⊎ IsOpenTail image s s.tail block)

-- ---- the shelf

-- The shelf has what the checkpoint of a superblock has: its streams, and the number of the entries before it.
pub record IsShelfRead (observable : Type 0) (image : Image) (s : Super) (shelf : ShelfValue) : Type 0 where
  pub format : ℕ
  pub read : IsRollRead observable image s shelf.entries format shelf.roll

-- The device holds a history, its store is sealed, and the superblock names a checkpoint.
pub record HoldsSealed (size : ℕ) (image : Image) (h : List Entry) : Type 0 where
  pub blocks : ℕ
  pub tail : ℕ
  pub holds : HoldsHistoryTo size image blocks tail h
  pub seal : has_seal holds.super ≡ true
  pub named : 0 < holds.super.checkpoint

-- A device had these bytes, and may have lost pages since: it has the same superblock and the same checkpoint still, and each page that it
-- has now is one that it had in that block.
pub record MayHaveLost (size : ℕ) (was now : Image) : Type 0 where
  pub chosen : (s : Super) → IsChosen size now s → IsChosen size was s
  pub checkpoint : (s : Super) (body : List ℕ) → IsChosen size now s → IsCheckpointExtent now s body → IsCheckpointExtent was s body
  pub pages : (block : ℕ) (page : NodePage)
      → IsBlockPage (record { image = now; size = size }) block page
      → IsBlockPage (record { image = was; size = size }) block page

-- The opening failed for the device or for memory alone.
abbrev pub IsHarmlessCause : SealedFault → Type 0
IsHarmlessCause NotAStore = ⊥
IsHarmlessCause Unsealed = ⊥
IsHarmlessCause (Damaged block) = ⊥
IsHarmlessCause Fault = Unit {0}
IsHarmlessCause Want = Unit {0}

module _ {D : Type 0} (disk : Ghosts D) where
  -- The blocks of a device.
  abbrev pub blocks_on : D → DeviceBlocks
  blocks_on d = record { image = disk.contents d; size = disk.size d }

  -- If the device is observable, its store is sealed. If it held a history, the shelf is that of the history, in the device's pages. If it
  -- held a history before and may have lost pages since, the shelf may be that of the history, in the pages that are left.
  pub record IsOpenedShelf (old : D) (shelf : ShelfValue) : Type 0 where
    pub sealed : disk.is_observable → (s : Super) × IsChosen (disk.size old) (disk.contents old) s × (has_seal s ≡ true)
    pub of : disk.is_observable → (h : List Entry) → HoldsHistory (disk.size old) (disk.contents old) h
        → IsShelfOf (IsBlockPage (blocks_on old)) h shelf
    pub may : disk.is_observable → (was : Image) (h : List Entry) → HoldsHistory (disk.size old) was h
        → MayHaveLost (disk.size old) was (disk.contents old)
        → IsPossibleShelfOf (IsBlockPage (blocks_on old)) h shelf

  -- Why a device was not opened as a shelf.
  abbrev pub SealedCause : D → D → SealedFault → Type 0
  SealedCause old new NotAStore = disk.is_observable → HasNoSuper (disk.size old) (disk.contents old)
  SealedCause old new Unsealed =
      disk.is_observable → (s : Super) × IsChosen (disk.size old) (disk.contents old) s × (has_seal s ≡ false)
  SealedCause old new (Damaged block) =
      disk.is_observable
      → IsDamagedSuper (disk.size old) (disk.contents old) block
      ⊎ ((s : Super) × IsChosen (disk.size old) (disk.contents old) s × (has_seal s ≡ true)
      × IsDamagedSealed (disk.contents old) s block)
  SealedCause old new Fault = Rose (disk.faults old) (disk.faults new)
  SealedCause old new Want = Unit {0}

-- ---- what the private functions promise

-- The image has an open gate, and after it this body.
abbrev pub HasBodyAt : Image → ℕ → List ℕ → Type 0
HasBodyAt image gate body = IsOpen image gate × Has image (4096 * (gate + 1)) body

-- The shelf has what the body of a checkpoint has, at the gate that a superblock names.
pub record IsShelfOfBody (s : Super) (body : List ℕ) (shelf : ShelfValue) : Type 0 where
  pub has : HasRoll s.checkpoint shelf.entries shelf.roll body
  pub after : s.checkpoint + 2 ≤ s.tail
  pub under : MayStandUnder s.format body
  pub extent : (image : Image) → HasBodyAt image s.checkpoint body → IsCheckpointExtent image s body

-- Why there is no shelf of a body at the gate that a superblock names: each image that has the body there breaks the format.
abbrev pub IsWrongBody : Super → List ℕ → OpenCause → Type 0
IsWrongBody s body cause.NotAStore = ⊥
IsWrongBody s body (cause.Damaged block) = (image : Image) → HasBodyAt image s.checkpoint body → IsWrongStart image s block
IsWrongBody s body cause.Fault = ⊥
IsWrongBody s body cause.Want = Unit {0}

-- The same of what was found at the gate.
abbrev pub IsShelfIn : Super → Found → ShelfValue → Type 0
IsShelfIn s Closed shelf = ⊥
IsShelfIn s (Extent head body next) shelf = IsShelfOfBody s body.items shelf

abbrev pub IsWrongIn : Super → Found → OpenCause → Type 0
IsWrongIn s Closed cause.NotAStore = ⊥
IsWrongIn s Closed (cause.Damaged block) = (image : Image) → IsClosed image s.checkpoint → IsWrongStart image s block
IsWrongIn s Closed cause.Fault = ⊥
IsWrongIn s Closed cause.Want = Unit {0}
IsWrongIn s (Extent head body next) fault = IsWrongBody s body.items fault
