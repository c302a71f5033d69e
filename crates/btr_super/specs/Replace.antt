-- The replacement of a superblock by one on the other side: its premises, and what a crash at any moment leaves.
use Rattle.std.specs.Prelude.{◌≡◌, ◌⊎◌, ℕ, ◌+◌, ◌-◌, ◌*◌, ◌<◌, ◌≤◌, List, Result, OnOk}
use Rattle.btr_disk.specs.Bytes.{Image, Has, SameBut}
use Rattle.btr_disk.specs.Causes.{Rose, CountedTimes}
use Rattle.btr_disk.specs.Gate.{IsOpen, gate_block}
use Rattle.btr_disk.specs.Images.{Only}
use Rattle.btr_disk.specs.Moments.{Leaves}
use Rattle.btr_super.specs.declared.superblock.Super.{Super}
use Rattle.btr_super.specs.Super.{super_bytes}
use Rattle.btr_super.specs.Choose.{IsChosen}

-- The superblock is chosen on the image, and the next one is on the other side and has a greater number.
pub record IsFollowed (size : ℕ) (image : Image) (s next : Super) : Type 0 where
  pub chosen : IsChosen size image s
  pub other : next.side ≡ 1 - s.side
  pub later : s.seq < next.seq

-- Blocks 0 to 3 of each image are those of the contents.
abbrev pub HasOnePrefix : Image → (Image → Type 0) → Type 0
HasOnePrefix contents images = (c : Image) → images c → (k : ℕ) → k < 16384 → c k ≡ contents k

-- The superblock is on its side as it is written: its gate, which is open, and then its body.
pub record StoresSuper (image : Image) (s : Super) : Type 0 where
  pub gate : Has image (4096 * (2 * s.side)) gate_block
  pub body : Has image (4096 * (2 * s.side + 1)) (super_bytes s)

-- The image is one of these, but for the two blocks of this side.
abbrev pub IsButSide : ℕ → (Image → Type 0) → Image → Type 0
IsButSide side images c = (base : Image) × images base × SameBut (8192 * side) 8192 base c

-- An image at a moment of a replacement: all outside the next superblock's side is as it was, and the old superblock or the next is chosen.
pub record IsReplacing (size : ℕ) (images : Image → Type 0) (s next : Super) (c : Image) : Type 0 where
  pub elsewhere : IsButSide next.side images c
  pub either : IsChosen size c s ⊎ IsChosen size c next

-- At least one call was counted and at most `most`, and exactly `least` or exactly `most` if all of them succeeded.
pub record CountsEither {T E : Type 0} (least most old new : ℕ) (result : Result T E) : Type 0 where
  pub later : old ≤ new
  pub called : Rose old new
  pub at_most : new ≤ old + most
  pub all : OnOk result (CountedTimes least old new ⊎ CountedTimes most old new)

-- The image is one of these, but for this block.
abbrev pub IsButBlock : ℕ → (Image → Type 0) → Image → Type 0
IsButBlock block images c = (base : Image) × images base × SameBut (4096 * block) 4096 base c

-- The image is one of these. If the block is an open gate of the contents, the image may have any bytes in that block.
abbrev pub IsClosing : ℕ → Image → (Image → Type 0) → Image → Type 0
IsClosing block contents images c = images c ⊎ (IsOpen contents block × IsButBlock block images c)

-- The calls from `old` to `new` write these bytes to the block, and nothing else. If they succeed, a crash leaves what a read returns.
pub record WritesBlock {D T E : Type 0} (calls : D → ℕ) (contents : D → Image) (images_now : D → Image → Type 0)
    (images_since : D → ℕ → Image → Type 0) (block : ℕ) (bytes : List ℕ) (old new : D) (result : Result T E) : Type 0 where
  pub written : OnOk result (Has (contents new) (4096 * block) bytes)
  pub elsewhere : SameBut (4096 * block) 4096 (contents old) (contents new)
  pub synced : OnOk result (Only (contents new) (images_now new))
  pub moments : Leaves calls images_since old new (IsButBlock block (images_now old))

-- If the replacement succeeded, the device has the superblock, and a crash leaves what a read returns.
pub record StoresDurably {D T E : Type 0} (contents : D → Image) (images_now : D → Image → Type 0) (next : Super) (new : D)
    (result : Result T E) : Type 0 where
  pub written : OnOk result (StoresSuper (contents new) next)
  pub synced : OnOk result (Only (contents new) (images_now new))

-- If the superblock follows the one that is chosen at `old`, and the replacement succeeded, it is chosen.
abbrev pub ChoosesNext : {D T E : Type 0} → (size : D → ℕ) → (contents : D → Image) → (images_now : D → Image → Type 0) → Super
    → (old new : D) → Result T E → Type 0
ChoosesNext size contents images_now next old new result =
    (s : Super) → IsFollowed (size old) (contents old) s next → HasOnePrefix (contents old) (images_now old)
    → OnOk result (IsChosen (size old) (contents new) next)

-- If the superblock follows the one that is chosen at `old`, a crash at any moment leaves one of the two chosen.
abbrev pub LeavesReplacing : {D : Type 0} → (size calls : D → ℕ) → (contents : D → Image) → (images_now : D → Image → Type 0)
    → (images_since : D → ℕ → Image → Type 0) → Super → (old new : D) → Type 0
LeavesReplacing size calls contents images_now images_since next old new =
    (s : Super) → IsFollowed (size old) (contents old) s next → HasOnePrefix (contents old) (images_now old)
    → Leaves calls images_since old new (IsReplacing (size old) (images_now old) s next)
