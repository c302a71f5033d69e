-- Lemmas on gates: how long a written gate is, and that it is open and zeros are closed.
use Rattle.std.specs.Prelude.{◌≡◌, ℕ, ◌*◌, length}
use Rattle.std.proofs.Common.{sym, ◌∙◌, arith}
use Rattle.std.proofs.lemmas.List.{length-replicate}
use Rattle.btr_disk.specs.Bytes.{Image, Has}
use Rattle.btr_disk.specs.Gate.{mark, zeros, gate_block, IsOpen, IsClosed}
use Rattle.btr_disk.proofs.ByteLemmas.{Has-append}
use Rattle.btr_disk.specs.Gate.{IsClosed, IsOpen, mark, zeros, gate_block}

pub length-zeros : (n : ℕ) → length (zeros n) ≡ n
unfolding zeros
length-zeros n = length-replicate n 0

pub length-gate_block : length gate_block ≡ 4096
length-gate_block = omega (arith, length-zeros 4088)

-- what is written as an open gate is open
pub open_gate_is_open : (image : Image) (block : ℕ) → Has image (4096 * block) gate_block → IsOpen image block
open_gate_is_open image block has = (Has-append image (4096 * block) mark (zeros 4088) has).0

-- a block of zeros is closed
pub zeros_are_closed : (image : Image) (block : ℕ) → Has image (4096 * block) (zeros 4096) → IsClosed image block
unfolding zeros
zeros_are_closed image block has is_open =
    let e : ◌≡◌ {A = ℕ} 66 0 = sym is_open.0 ∙ has.0 in cc
