-- Extents: a gate, the body after it, and then the next gate; and the log that they make in an image.
use Rattle.std.specs.Prelude.{◌≡◌, ℕ, ◌+◌, ◌-◌, ◌*◌, ◌/◌, List, [], ◌∷◌, length, take}
use Rattle.btr_disk.specs.Bytes.{Image, Has}
use Rattle.btr_disk.specs.Gate.{IsOpen, IsClosed}
use Rattle.btr_disk.specs.Images.{Only}
use Rattle.btr_log.specs.declared.head.Head.{Head}
use Rattle.btr_log.specs.Head.{Spells}

-- The bytes are a body: they begin with the head, and are as many blocks as it says.
pub record IsBody (body : List ℕ) (head : Head) : Type 0 where
  pub spells : Spells (take 64 body) head
  pub whole : length body ≡ 4096 * head.n

-- The number of blocks of a body.
abbrev pub body_blocks : List ℕ → ℕ
body_blocks body = length body / 4096

-- The number of blocks that an append of a body needs: the body's, and one for the next gate.
abbrev pub need : List ℕ → ℕ
need body = body_blocks body + 1

-- The number of blocks after the gate at the tail, of `blocks` blocks.
abbrev pub left : ℕ → ℕ → ℕ
left blocks tail = blocks - 1 - tail

-- In this image the gate is open, and this body follows it.
pub record IsExtent (image : Image) (gate : ℕ) (body : List ℕ) (head : Head) : Type 0 where
  pub is_open : IsOpen image gate
  pub is_body : IsBody body head
  pub stored : Has image (4096 * (gate + 1)) body

-- The extents with these bodies follow one another from one gate to another.
abbrev pub Extents : Image → ℕ → List (List ℕ) → ℕ → Type 0
Extents image gate [] tail = gate ≡ tail
Extents image gate (body ∷ rest) tail =
    ((head : Head) × IsExtent image gate body head) × Extents image (gate + need body) rest tail

-- A log from this gate on: extents with these bodies, and then a closed gate.
abbrev pub IsLog : Image → ℕ → List (List ℕ) → Type 0
IsLog image start bodies = (tail : ℕ) × Extents image start bodies tail × IsClosed image tail

-- The first gate of a log on a device, after the blocks of the superblocks.
abbrev pub first_gate : ℕ
first_gate = 4

-- What a read returns is the log of these bodies up to the tail, and a crash leaves nothing else.
pub record AtRest (contents : Image) (images : Image → Type 0) (tail : ℕ) (bodies : List (List ℕ)) : Type 0 where
  pub extents : Extents contents first_gate bodies tail
  pub closed : IsClosed contents tail
  pub only : Only contents images
