-- What is found at a gate: a closed gate, an extent, or a damaged extent.
use Rattle.std.specs.Prelude.{◌≡◌, ◌⊎◌, ℕ, ◌+◌, ◌*◌, ◌-◌, ◌<◌, ◌≤◌, List, length, take, drop, Option, None, Some}
use Rattle.btr_disk.specs.declared.disk.Disk.{Ghosts}
use Rattle.btr_disk.specs.Bytes.{Image, Has}
use Rattle.btr_disk.specs.Causes.{Rose}
use Rattle.btr_disk.specs.Gate.{mark, IsOpen, IsClosed}
use Rattle.btr_log.specs.declared.head.Head.{Head}
use Rattle.btr_log.specs.declared.log.Log.{Log}
use Rattle.btr_log.specs.declared.found.Found.{Found}
use Rattle.btr_log.specs.declared.found.Found.TheVariants.{Closed, Extent}
use Rattle.btr_log.specs.declared.found.ExtentFault.{ExtentFault}
use Rattle.btr_log.specs.declared.found.ExtentFault.TheVariants.{Damaged, Fault, Want}
use Rattle.btr_log.specs.Head.{head_bytes, IsHead, Spells}
use Rattle.btr_log.specs.Extents.{IsBody}
use Rattle.btr_log.specs.Log.{log_device, log_blocks}

-- A body with its head, and the gate after it, which is inside the log's blocks.
pub record IsWholeExtent (blocks gate : ℕ) (head : Head) (body : List ℕ) (next : ℕ) : Type 0 where
  pub is_body : IsBody body head
  pub follows : next ≡ gate + head.n + 1
  pub inside : next < blocks

-- What is found is a whole extent, whether the device is observable or not.
abbrev pub IsWhole : ℕ → ℕ → Found → Type 0
IsWhole blocks gate Closed = Unit {0}
IsWhole blocks gate (Extent head body next) = IsWholeExtent blocks gate head body.items next

-- What is found is what the device has.
abbrev pub MatchesDevice : Image → ℕ → Found → Type 0
MatchesDevice image gate Closed = IsClosed image gate
MatchesDevice image gate (Extent head body next) = IsOpen image gate × Has image (4096 * (gate + 1)) body.items

-- In this image the block begins with the head.
pub record SpellsAt (image : Image) (block : ℕ) (head : Head) : Type 0 where
  pub is_head : IsHead head
  pub stored : Has image (4096 * block) (head_bytes head)

-- The block begins with no head.
abbrev pub HasNoHead : Image → ℕ → Type 0
HasNoHead image block = (head : Head) → SpellsAt image block head → ⊥

-- The block after the gate begins with a head whose extent leaves no room for the next gate.
abbrev pub HasNoRoom : Image → ℕ → ℕ → Type 0
HasNoRoom image blocks gate =
    (head : Head) × SpellsAt image (gate + 1) head × (blocks ≤ gate + head.n + 1)

-- The gate is the last block.
abbrev pub IsOpenAtEnd : ℕ → ℕ → ℕ → Type 0
IsOpenAtEnd blocks gate block = (gate + 1 ≡ blocks) × (block ≡ gate)

-- The block after the gate breaks the format.
abbrev pub IsDamagedBody : Image → ℕ → ℕ → ℕ → Type 0
IsDamagedBody image blocks gate block =
    (gate + 1 < blocks) × (block ≡ gate + 1) × (HasNoHead image (gate + 1) ⊎ HasNoRoom image blocks gate)

-- The gate is open, but this block breaks the format.
pub record IsDamagedExtent (image : Image) (blocks gate block : ℕ) : Type 0 where
  pub is_open : IsOpen image gate
  pub damage : IsOpenAtEnd blocks gate block ⊎ IsDamagedBody image blocks gate block

-- Why nothing is found, on a device that is observable or not.
abbrev pub FindCause : Type 0 → Image → ℕ → ℕ → ℕ → ℕ → ExtentFault → Type 0
FindCause is_observable image blocks gate before after (Damaged block) =
    is_observable → IsDamagedExtent image blocks gate block
FindCause is_observable image blocks gate before after Fault = Rose before after
FindCause is_observable image blocks gate before after Want = Unit {0}

-- Why blocks were not read.
abbrev pub ReadCause : ℕ → ℕ → ExtentFault → Type 0
ReadCause before after (Damaged block) = ⊥
ReadCause before after Fault = Rose before after
ReadCause before after Want = Unit {0}

-- The bytes are n blocks, and the first of them is this one.
pub record HasFirstBlock (n : ℕ) (first bytes : List ℕ) : Type 0 where
  pub size : length bytes ≡ 4096 * n
  pub begins : take 4096 bytes ≡ first

-- Why a log finds nothing at a gate.
abbrev pub ExtentCause : {D : Type 0} {disk : Ghosts D} → Log D disk → Log D disk → ℕ → ExtentFault → Type 0
ExtentCause {D} {disk} old new gate fault =
    FindCause disk.is_observable (disk.contents (log_device old)) (log_blocks old) gate
    (disk.faults (log_device old)) (disk.faults (log_device new)) fault

-- The bytes after the first block.
abbrev pub after_first : List ℕ → List ℕ
after_first bytes = take (length bytes - 4096) (drop 4096 bytes)

-- The bytes begin with an open gate and then a block with this head, whose extent leaves room for the next gate.
pub record IsOpenStart (blocks gate : ℕ) (bytes : List ℕ) (head : Head) : Type 0 where
  pub is_open : take 8 bytes ≡ mark
  pub spells : Spells (take 64 (after_first bytes)) head
  pub inside : gate + head.n + 1 < blocks

-- What the bytes from the gate on say: it is closed, or its extent has this head.
abbrev pub StartSays : ℕ → ℕ → List ℕ → Option Head → Type 0
StartSays blocks gate bytes None = take 8 bytes ≡ mark → ⊥
StartSays blocks gate bytes (Some head) = IsOpenStart blocks gate bytes head

-- Each image that has the bytes from the gate on has a damaged extent there.
abbrev pub IsDamagedStart : ℕ → ℕ → List ℕ → ExtentFault → Type 0
IsDamagedStart blocks gate bytes (Damaged block) =
    (image : Image) → Has image (4096 * gate) bytes → IsDamagedExtent image blocks gate block
IsDamagedStart blocks gate bytes Fault = ⊥
IsDamagedStart blocks gate bytes Want = ⊥
