-- A body that is made durable first and visible then, by one block that is its gate.
use Rattle.std.specs.Prelude.{◌≡◌, ◌*◌, ◌⊎◌, ℕ, List, length, Result, OnOk}
use Rattle.btr_disk.specs.Bytes.{Image, Has, SameBut, SameButTwo, IsBlockRange, IsOutside}
use Rattle.btr_disk.specs.Images.{Only}
use Rattle.btr_disk.specs.Moments.{Leaves}

-- The image has the body, any bytes in the gate's block, and all else as before.
pub record HasBody (old : Image) (address : ℕ) (body : List ℕ) (gate : ℕ) (new : Image) : Type 0 where
  pub stored : Has new address body
  pub elsewhere : SameButTwo address (length body) gate 4096 old new

-- The image is as before but for the body's blocks, and so has the old gate, or it has the whole body.
abbrev pub IsBeforeOrHasBody : Image → ℕ → List ℕ → ℕ → Image → Type 0
IsBeforeOrHasBody old address body gate new = SameBut address (length body) old new ⊎ HasBody old address body gate new

-- The body and the gate, which is one block, are on a device of this size, and the gate is outside the body.
pub record HasPlaces (size first : ℕ) (body : List ℕ) (at : ℕ) (gate : List ℕ) : Type 0 where
  pub body_inside : IsBlockRange size first (length body)
  pub gate_inside : IsBlockRange size at (length gate)
  pub one_block : length gate ≡ 4096
  pub apart : IsOutside (4096 * first) (length body) (4096 * at)

-- The image has the body and the gate, and all else as before.
pub record Published (old : Image) (address : ℕ) (body : List ℕ) (at : ℕ) (gate : List ℕ) (new : Image) : Type 0 where
  pub body_stored : Has new address body
  pub gate_stored : Has new at gate
  pub elsewhere : SameButTwo address (length body) at 4096 old new

-- The calls from `old` to `new` publish the body and its gate. If they succeed, both are stored and a crash leaves what a read returns.
pub record Publishes {D T E : Type 0} (calls : D → ℕ) (contents : D → Image) (images_now : D → Image → Type 0)
    (images_since : D → ℕ → Image → Type 0) (address : ℕ) (body : List ℕ) (at : ℕ) (gate : List ℕ) (old new : D) (result : Result T E)
    : Type 0 where
  pub published : OnOk result (Published (contents old) address body at gate (contents new))
  pub synced : OnOk result (Only (contents new) (images_now new))
  -- Given that a crash before the calls left what a read returns.
  pub moments : Only (contents old) (images_now old) → Leaves calls images_since old new (IsBeforeOrHasBody (contents old) address body at)
