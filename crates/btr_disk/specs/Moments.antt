-- The images at the moments since a call number, and how calls change them.
use Rattle.std.specs.Prelude.{ℕ, ◌≤◌, ◌⊎◌}
use Rattle.btr_disk.specs.Bytes.{Image, Same}
use Rattle.btr_disk.specs.Images.{SameImages}

-- After a call, an image since t is one since t before the call or one now. An image since t stays one.
pub record Elapses (before : ℕ) (past since : ℕ → Image → Type 0) (images : Image → Type 0) : Type 0 where
  pub nothing_else : (t : ℕ) (c : Image) → t ≤ before → since t c → past t c ⊎ images c
  pub keeps : (t : ℕ) (c : Image) → t ≤ before → past t c → since t c

-- A crash at any moment of the calls between `old` and `new` leaves an image that has P.
pub record Leaves {D : Type 0} (calls : D → ℕ) (images_since : D → ℕ → Image → Type 0) (old new : D) (P : Image → Type 0) : Type 0 where
  pub later : calls old ≤ calls new
  pub each : (c : Image) → images_since new (calls old) c → P c
  -- An image since an earlier call number is one of before, or it has P.
  pub before : (t : ℕ) (c : Image) → t ≤ calls old → images_since new t c → images_since old t c ⊎ P c
  pub keeps : (t : ℕ) (c : Image) → t ≤ calls old → images_since old t c → images_since new t c

-- The calls between `old` and `new` wrote nothing: what a read returns is the same, and so is what a crash may leave at each moment.
pub record WroteNothing {D : Type 0} (calls : D → ℕ) (contents : D → Image) (images_now : D → Image → Type 0)
    (images_since : D → ℕ → Image → Type 0) (old new : D) : Type 0 where
  pub same : Same (contents old) (contents new)
  pub images : SameImages (images_now old) (images_now new)
  pub moments : Leaves calls images_since old new (images_now old)

-- Nothing was written, but earlier writes may have been synced: a read returns the same, and a crash at any moment leaves what
-- it might have left at `old`.
pub record IsUnwritten {D : Type 0} (calls : D → ℕ) (contents : D → Image) (images_now : D → Image → Type 0)
    (images_since : D → ℕ → Image → Type 0) (old new : D) : Type 0 where
  pub same : Same (contents old) (contents new)
  pub moments : Leaves calls images_since old new (images_now old)
