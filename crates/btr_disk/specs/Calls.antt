-- What one call of a device does to what a read returns and to what a crash may leave: a read, and a write.
use Rattle.std.specs.Prelude.{ℕ, List, length, Result, OnOk}
use Rattle.btr_disk.specs.Bytes.{Image, Has, Same, SameBut}
use Rattle.btr_disk.specs.Images.{SameImages, Tears}
use Rattle.btr_disk.specs.Moments.{Elapses}

-- A read at the address. If it succeeds, the bytes are those of the device. It changes nothing on the device, whether it succeeds or fails.
pub record ReadsBytes {D T E : Type 0} (calls : D → ℕ) (contents : D → Image) (images_now : D → Image → Type 0)
    (images_since : D → ℕ → Image → Type 0) (address : ℕ) (buf : List ℕ) (old new : D) (result : Result T E) : Type 0 where
  pub bytes : OnOk result (Has (contents old) address buf)
  pub same : Same (contents old) (contents new)
  pub images : SameImages (images_now old) (images_now new)
  pub time : Elapses (calls old) (images_since old) (images_since new) (images_now new)

-- A write of the bytes at the address. If it succeeds, a read returns them. Whether it succeeds or fails, a read of all else returns the
-- same, and a crash may leave any bytes at their addresses.
pub record WritesBytes {D T E : Type 0} (calls : D → ℕ) (contents : D → Image) (images_now : D → Image → Type 0)
    (images_since : D → ℕ → Image → Type 0) (address : ℕ) (bytes : List ℕ) (old new : D) (result : Result T E) : Type 0 where
  pub written : OnOk result (Has (contents new) address bytes)
  pub elsewhere : SameBut address (length bytes) (contents old) (contents new)
  pub images : Tears address (length bytes) (images_now old) (images_now new)
  pub time : Elapses (calls old) (images_since old) (images_since new) (images_now new)
