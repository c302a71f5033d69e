-- Gates: a gate is a block that is open or closed, and so decides whether the blocks after it count.
use Rattle.std.specs.Prelude.{ℕ, ◌*◌, List, ◌++◌, replicate, codes}
use Rattle.btr_disk.specs.Bytes.{Image, Has}

-- ASCII `BTR-GATE`.
abbrev pub mark : List ℕ
mark = codes "BTR-GATE"

-- The block begins with the mark, whatever follows.
abbrev pub IsOpen : Image → ℕ → Type 0
IsOpen image block = Has image (4096 * block) mark

-- Every other block is closed.
abbrev pub IsClosed : Image → ℕ → Type 0
IsClosed image block = IsOpen image block → ⊥

-- A list of n zeros.
unfoldable pub zeros : ℕ → List ℕ
zeros n = replicate n 0

-- An open gate as it is written: the mark, and then zeros.
abbrev pub gate_block : List ℕ
gate_block = mark ++ zeros 4088
