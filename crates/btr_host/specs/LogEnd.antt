-- The last gate of a log, by its gates and the heads after them alone.
use Rattle.std.specs.Prelude.{◌≡◌, ◌⊎◌, ℕ, ◌+◌, ◌<◌, List, [], ◌∷◌, Option, Some, None}
use Rattle.btr_disk.specs.Bytes.{Image}
use Rattle.btr_disk.specs.Gate.{IsOpen}
use Rattle.btr_log.specs.declared.head.Head.{Head}
use Rattle.btr_log.specs.Found.{SpellsAt}
use Rattle.btr_super.specs.declared.superblock.Super.{Super}
use Rattle.btr_super.specs.Choose.{IsChosen}

-- The gate is open, and the head after it says that this is the next gate.
pub record Leads (image : Image) (gate next : ℕ) : Type 0 where
  pub is_open : IsOpen image gate
  pub head : Head
  pub spells : SpellsAt image (gate + 1) head
  pub follows : next ≡ gate + head.n + 1

-- The gate leads to none of the first `blocks` blocks.
abbrev pub LeadsNowhere : Image → ℕ → ℕ → Type 0
LeadsNowhere image blocks gate = (next : ℕ) → next < blocks → Leads image gate next → ⊥

-- The gate to which this one leads, of the first `blocks` blocks, if there is one.
abbrev pub IsNextGate : Image → ℕ → ℕ → Option ℕ → Type 0
IsNextGate image blocks gate None = LeadsNowhere image blocks gate
IsNextGate image blocks gate (Some next) = Leads image gate next

-- The first gate leads to the first of these, each of them to the one after it, and the last one is this gate.
abbrev pub LeadsAlong : Image → ℕ → List ℕ → ℕ → Type 0
LeadsAlong image start [] gate = start ≡ gate
LeadsAlong image start (next ∷ rest) gate = Leads image start next × LeadsAlong image next rest gate

-- The gates of a log of `blocks` blocks from `start` on lead to this one, and no other extent is after that of this one: the gate to
-- which it leads, if any, is one of the first `blocks` blocks and leads nowhere. It is `start` if that leads nowhere.
pub record IsLastGate (image : Image) (blocks start gate : ℕ) : Type 0 where
  pub path : List ℕ
  pub along : LeadsAlong image start path gate
  pub end : ℕ
  pub to_end : ((path ≡ []) × (gate ≡ end)) ⊎ Leads image gate end
  pub inside : end < blocks
  pub ends : LeadsNowhere image blocks end

-- The gate is the last one of the log that the superblock of the device names. There is none if no superblock counts.
abbrev pub IsLastGateOf : ℕ → Image → Option ℕ → Type 0
IsLastGateOf size image None = (s : Super) → IsChosen size image s → ⊥
IsLastGateOf size image (Some gate) = (s : Super) × IsChosen size image s × IsLastGate image s.blocks s.tail gate
