-- Images of a device: an image has a byte at each address, and block k begins at the address 4096 * k.
use Rattle.std.specs.Prelude.{◌≡◌, ℕ, ◌+◌, ◌*◌, ◌%◌, ◌<◌, ◌≤◌, List, [], ◌∷◌}
use Rattle.std.proofs.Common.{suc}

-- A number for each address.
abbrev pub Image : Type 0
Image = ℕ → ℕ

-- The image has these bytes from this address on.
abbrev pub Has : Image → ℕ → List ℕ → Type 0
Has image address [] = Unit {0}
Has image address (byte ∷ bytes) = (image address ≡ byte) × Has image (suc address) bytes

-- Both images have the same byte at each address.
abbrev pub Same : Image → Image → Type 0
Same old new = (k : ℕ) → new k ≡ old k

-- Both images have the same byte at each address but the `length` addresses from this one on.
pub record SameBut (address length : ℕ) (old new : Image) : Type 0 where
  pub below : (k : ℕ) → k < address → new k ≡ old k
  pub above : (k : ℕ) → address + length ≤ k → new k ≡ old k

-- The address k is not among the `length` addresses from this one on.
abbrev pub IsOutside : ℕ → ℕ → ℕ → Type 0
IsOutside address length k = address ≤ k → address + length ≤ k

-- Each number of the image is a byte.
abbrev pub AreBytes : Image → Type 0
AreBytes image = (k : ℕ) → image k < 256

-- `length` bytes are a whole positive number of blocks, and from block `first` on they are inside a device of `size` blocks.
pub record IsBlockRange (size first length : ℕ) : Type 0 where
  pub some : 0 < length
  pub whole : length % 4096 ≡ 0
  pub inside : 4096 * first + length ≤ 4096 * size

-- Both images have the same byte at each address that is in neither of two ranges.
abbrev pub SameButTwo : ℕ → ℕ → ℕ → ℕ → Image → Image → Type 0
SameButTwo address length other more old new =
    (k : ℕ) → IsOutside address length k → IsOutside other more k → new k ≡ old k
