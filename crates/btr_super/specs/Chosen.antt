-- What the private functions of choosing promise, by cases on the result.
use Rattle.std.specs.Prelude.{◌≡◌, ℕ, ◌+◌, ◌*◌, ◌<◌, ◌≤◌, ◌⊎◌, List, length, Option, Some, None, Result, Ok, Err}
use Rattle.btr_disk.specs.Bytes.{Image, Has}
use Rattle.btr_super.specs.declared.superblock.Super.{Super}
use Rattle.btr_super.specs.declared.choosing.ChooseFault.{ChooseFault}
use Rattle.btr_super.specs.declared.choosing.ChooseFault.TheVariants.{NotAStore, Damaged, Fault}
use Rattle.btr_super.specs.Choose.{IsOpenAt, HasSuper, IsChosen, HasNoSuper, IsBroken, IsDamagedSuper}

-- These bytes are one block of the prefix, and in each image with the prefix they are at that block.
pub record IsBlockOf (prefix : List ℕ) (block : ℕ) (bytes : List ℕ) : Type 0 where
  pub inside : 4096 * block + 4096 ≤ length prefix
  pub whole : length bytes ≡ 4096
  pub stored : (image : Image) → Has image 0 prefix → Has image (4096 * block) bytes

-- The result is the superblock of this side, if its gate is open.
abbrev pub SideIs : ℕ → Image → ℕ → Result (Option Super) ChooseFault → Type 0
SideIs size image side (Ok None) = IsOpenAt size image (2 * side) → ⊥
SideIs size image side (Ok (Some s)) = (s.side ≡ side) × HasSuper size image s
SideIs size image side (Err NotAStore) = ⊥
SideIs size image side (Err (Damaged block)) = (block ≡ 2 * side + 1) × IsBroken size image side
SideIs size image side (Err Fault) = ⊥

-- The result is the superblock with the greater number, or block 3 if both have the same number.
abbrev pub IsLater : Super → Super → Result Super ChooseFault → Type 0
IsLater first second (Ok s) = ((s ≡ first) × (second.seq < first.seq)) ⊎ ((s ≡ second) × (first.seq < second.seq))
IsLater first second (Err NotAStore) = ⊥
IsLater first second (Err (Damaged block)) = (block ≡ 3) × (first.seq ≡ second.seq)
IsLater first second (Err Fault) = ⊥

-- The result is the one that the device calls for.
abbrev pub ChoiceIs : ℕ → Image → Result Super ChooseFault → Type 0
ChoiceIs size image (Ok s) = IsChosen size image s
ChoiceIs size image (Err NotAStore) = HasNoSuper size image
ChoiceIs size image (Err (Damaged block)) = IsDamagedSuper size image block
ChoiceIs size image (Err Fault) = ⊥
