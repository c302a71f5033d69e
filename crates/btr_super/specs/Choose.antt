-- Which superblock of a device counts: of those with an open gate the one with the greater number.
use Rattle.std.specs.Prelude.{◌≡◌, ℕ, ◌+◌, ◌-◌, ◌*◌, ◌<◌, ◌≤◌, ◌⊎◌}
use Rattle.btr_disk.specs.Bytes.{Image, Has}
use Rattle.btr_disk.specs.Gate.{IsOpen}
use Rattle.btr_super.specs.declared.superblock.Super.{Super}
use Rattle.btr_super.specs.Super.{super_bytes, IsSuper}

-- The device has this block, and it is an open gate.
abbrev pub IsOpenAt : ℕ → Image → ℕ → Type 0
IsOpenAt size image block = (block < size) × IsOpen image block

-- The device has this block, and it spells a superblock that keeps the table.
pub record Spells (size : ℕ) (image : Image) (block : ℕ) (s : Super) : Type 0 where
  pub has_block : block < size
  pub stored : Has image (4096 * block) (super_bytes s)
  pub keeps : IsSuper size s

-- The gate of its side is open, and the block after it spells the superblock.
pub record HasSuper (size : ℕ) (image : Image) (s : Super) : Type 0 where
  pub opened : IsOpenAt size image (2 * s.side)
  pub spelled : Spells size image (2 * s.side + 1) s

-- The superblock is stored, and if the other gate is open, the superblock there has a lesser number.
pub record IsChosen (size : ℕ) (image : Image) (s : Super) : Type 0 where
  pub stored : HasSuper size image s
  pub newest : IsOpenAt size image (2 * (1 - s.side))
      → (other : Super) × HasSuper size image other × (other.side ≡ 1 - s.side) × (other.seq < s.seq)

-- Neither gate is open.
pub record HasNoSuper (size : ℕ) (image : Image) : Type 0 where
  pub first_closed : IsOpenAt size image 0 → ⊥
  pub second_closed : IsOpenAt size image 2 → ⊥

-- The gate of this side is open, and the block after it spells no superblock.
pub record IsBroken (size : ℕ) (image : Image) (side : ℕ) : Type 0 where
  pub opened : IsOpenAt size image (2 * side)
  pub unspelled : (s : Super) → s.side ≡ side → Spells size image (2 * side + 1) s → ⊥

-- Both sides have a superblock, with the same number.
pub record HasEqualSeq (size : ℕ) (image : Image) (a b : Super) : Type 0 where
  pub first : HasSuper size image a
  pub second : HasSuper size image b
  pub sides : (a.side ≡ 0) × (b.side ≡ 1)
  pub equal : a.seq ≡ b.seq

-- A side is broken, or both have the same number. The block is the body of the first broken side, or of side B.
abbrev pub IsDamagedSuper : ℕ → Image → ℕ → Type 0
IsDamagedSuper size image block =
    ((block ≡ 1) × IsBroken size image 0)
    ⊎ ((block ≡ 3) × (IsBroken size image 0 → ⊥) × (IsBroken size image 1 ⊎ ((a b : Super) × HasEqualSeq size image a b)))

-- At most one call was counted.
pub record AtMostOneCall (old new : ℕ) : Type 0 where
  pub later : old ≤ new
  pub most : new ≤ old + 1
