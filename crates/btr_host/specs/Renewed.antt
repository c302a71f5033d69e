-- What a crash may leave after the gates on which all else on a device depends were written anew.
use Rattle.std.specs.Prelude.{◌≡◌, ◌⊎◌, ℕ, ◌*◌, List, [], ◌∷◌, Option, Some, None, Bool, IsTrue, IsFalse}
use Rattle.btr_disk.specs.Bytes.{Image, IsOutside, AreBytes}
use Rattle.btr_disk.specs.Images.{SameImages, Tears}
use Rattle.btr_disk.specs.Gate.{IsOpen, IsClosed}
use Rattle.btr_host.specs.LogEnd.{IsLastGateOf}

-- The address k is in none of these blocks.
abbrev pub IsInNone : List ℕ → ℕ → Type 0
IsInNone [] k = Unit {0}
IsInNone (block ∷ blocks) k = IsOutside (4096 * block) 4096 k × IsInNone blocks k

-- Both images have the same byte at each address that is in none of these blocks.
abbrev pub SameButBlocks : List ℕ → Image → Image → Type 0
SameButBlocks blocks old new = (k : ℕ) → IsInNone blocks k → new k ≡ old k

-- The new images are exactly the old ones with any bytes in these blocks.
pub record TearsBlocks (blocks : List ℕ) (old new : Image → Type 0) : Type 0 where
  pub torn : (c : Image) → new c → (d : Image) × old d × SameButBlocks blocks d c
  pub unsynced : (c d : Image) → old d → SameButBlocks blocks d c → AreBytes c → new c

-- The block was written, which may be closed or is open; or it may not, it is closed, and nothing was written.
abbrev pub RenewsBlock : Bool → ℕ → Image → (Image → Type 0) → (Image → Type 0) → Type 0
RenewsBlock also_closed block image old new =
    ((IsTrue also_closed ⊎ IsOpen image block) × Tears (4096 * block) 4096 old new)
    ⊎ (IsFalse also_closed × IsClosed image block × SameImages old new)

-- The blocks that are written anew if this is the last gate of the log: the gates of both superblocks, and this one if it is open.
abbrev pub AreRenewed : Image → ℕ → List ℕ → Type 0
AreRenewed image gate blocks =
    (IsOpen image gate × (blocks ≡ 0 ∷ 2 ∷ gate ∷ [])) ⊎ (IsClosed image gate × (blocks ≡ 0 ∷ 2 ∷ []))

-- Just the blocks that belong to this gate were written, and nothing if there is none.
abbrev pub RenewsFound : Image → Option ℕ → (Image → Type 0) → (Image → Type 0) → Type 0
RenewsFound image None old new = SameImages old new
RenewsFound image (Some gate) old new = (blocks : List ℕ) × AreRenewed image gate blocks × TearsBlocks blocks old new

-- Just the gates on which all else depends were written. The device is one of `size` blocks that reads as this image.
pub record Renews (size : ℕ) (image : Image) (old new : Image → Type 0) : Type 0 where
  pub gate : Option ℕ
  pub last : IsLastGateOf size image gate
  pub renewed : RenewsFound image gate old new

-- ---- after a failure

-- What a read returns is as before but in these blocks, and each new image is an old one but for bytes there.
pub record TearsAtMost (blocks : List ℕ) (was is : Image) (old new : Image → Type 0) : Type 0 where
  pub elsewhere : SameButBlocks blocks was is
  pub torn : (c : Image) → new c → (d : Image) × old d × SameButBlocks blocks d c

-- Of the gates on which all else depends some may have been written, and nothing else was. The device is one of `size` blocks that read as
-- `was`.
abbrev pub RenewsInPart : ℕ → Image → Image → (Image → Type 0) → (Image → Type 0) → Type 0
RenewsInPart size was is old new =
    TearsAtMost [] was is old new
    ⊎ ((gate : ℕ) × IsLastGateOf size was (Some gate) × TearsAtMost (0 ∷ 2 ∷ gate ∷ []) was is old new)
