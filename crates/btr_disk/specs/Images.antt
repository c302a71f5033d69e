-- What a crash may leave: sets of images, and how calls change them.
use Rattle.std.specs.Prelude.{◌≡◌, ◌≢◌, ℕ, ◌+◌, ◌<◌, ◌≤◌}
use Rattle.btr_disk.specs.Bytes.{Image, Same, SameBut, SameButTwo, AreBytes}

-- The contents are the only image.
pub record Only (contents : Image) (images : Image → Type 0) : Type 0 where
  pub each : (c : Image) → images c → Same contents c
  pub itself : (c : Image) → Same contents c → images c

-- No image is gone, and none is new.
pub record SameImages (old new : Image → Type 0) : Type 0 where
  pub none_new : (c : Image) → new c → old c
  pub none_gone : (c : Image) → old c → new c

-- Each new image is an old one but for the `length` addresses from this one on.
abbrev pub Torn : ℕ → ℕ → (Image → Type 0) → (Image → Type 0) → Type 0
Torn address length old new = (c : Image) → new c → (d : Image) × old d × SameBut address length d c

-- An old image with any bytes at the `length` addresses from this one on is a new one.
abbrev pub MayTear : ℕ → ℕ → (Image → Type 0) → (Image → Type 0) → Type 0
MayTear address length old new = (c d : Image) → old d → SameBut address length d c → AreBytes c → new c

-- The new images are exactly the old ones with any bytes at the `length` addresses from this one on.
pub record Tears (address length : ℕ) (old new : Image → Type 0) : Type 0 where
  pub torn : Torn address length old new
  pub unsynced : MayTear address length old new

-- Each new image is an old one but for two ranges.
abbrev pub TornTwice : ℕ → ℕ → ℕ → ℕ → (Image → Type 0) → (Image → Type 0) → Type 0
TornTwice address length other more old new =
    (c : Image) → new c → (d : Image) × old d × SameButTwo address length other more d c

-- An old image with any bytes in two ranges is a new one.
abbrev pub MayTearTwice : ℕ → ℕ → ℕ → ℕ → (Image → Type 0) → (Image → Type 0) → Type 0
MayTearTwice address length other more old new =
    (c d : Image) → old d → SameButTwo address length other more d c → AreBytes c → new c

-- Each image has this byte at the address k.
abbrev pub AllHave : ℕ → ℕ → (Image → Type 0) → Type 0
AllHave k byte images = (c : Image) → images c → c k ≡ byte

-- Each image differs from the contents, and from each other image, at most at the `length` addresses from this one on.
pub record DifferIn (address length : ℕ) (contents : Image) (images : Image → Type 0) : Type 0 where
  pub each : (c : Image) → images c → SameBut address length contents c
  pub two : (c d : Image) → images c → images d → SameBut address length c d

-- A crash may leave these addresses as they were, as a read returns them, or with bytes that are neither.
pub record IsUnsynced (address length : ℕ) (old new : Image) (images : Image → Type 0) : Type 0 where
  pub before : images old
  pub after : images new
  pub neither : (c : Image) × images c × ((k : ℕ) → address ≤ k → k < address + length → (c k ≢ old k) × (c k ≢ new k))
