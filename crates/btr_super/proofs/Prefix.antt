-- The first blocks of a device, and what one of them says.
use Rattle.std.specs.Prelude.{◌≡◌, ℕ, ◌+◌, ◌*◌, ◌≤◌, List, length, take, drop}
use Rattle.std.proofs.Common.{sym, ◌∙◌, subst, arith}
use Rattle.std.proofs.lemmas.List.{take-append-drop, length-take-le}
use Rattle.std.proofs.Math.ListN.{length-drop}
use Rattle.btr_disk.specs.Bytes.{Image, Has}
use Rattle.btr_disk.specs.Gate.{mark, IsOpen}
use Rattle.btr_disk.proofs.ByteLemmas.{Has-one, Has-append, Has-take}
use Rattle.btr_super.specs.declared.superblock.Super.{Super}
use Rattle.btr_super.specs.Super.{super_bytes}
use Rattle.btr_super.proofs.SuperLemmas.{length-super_bytes}
use Rattle.btr_super.specs.Choose.{Spells}
use Rattle.btr_super.specs.Chosen.{IsBlockOf}

-- the bytes from a later address on
Has-drop : (image : Image) (n : ℕ) (prefix : List ℕ) → n ≤ length prefix → Has image 0 prefix → Has image n (drop n prefix)
Has-drop image n prefix le has =
    let split = Has-append image 0 (take n prefix) (drop n prefix) (subst (Has image 0) (sym (take-append-drop n prefix)) has) in
    let e : 0 + length (take n prefix) ≡ n = omega (arith, length-take-le n prefix le) in
    subst (λ a. Has image a (drop n prefix)) e split.1

pub IsBlockOf-part : (prefix : List ℕ) (block k : ℕ) → k ≡ 4096 → 4096 * block + 4096 ≤ length prefix → IsBlockOf prefix block (take k (drop (4096 * block) prefix))
IsBlockOf-part prefix block k size le =
    let le2 : k ≤ length (drop (4096 * block) prefix) = omega (arith, length-drop (4096 * block) prefix) in
    record {
      inside = le;
      whole = length-take-le k (drop (4096 * block) prefix) le2 ∙ size;
      stored = λ image has. Has-take image (4096 * block) k (drop (4096 * block) prefix) (Has-drop image (4096 * block) prefix (omega arith) has);
    }

-- the gate's block as bytes
pub open_as_bytes : (image : Image) (block : ℕ) (bytes : List ℕ) → length bytes ≡ 4096 → Has image (4096 * block) bytes → IsOpen image block → take 8 bytes ≡ mark
open_as_bytes image block bytes whole has opened =
    Has-one image (4096 * block) (take 8 bytes) mark (length-take-le 8 bytes (omega arith)) (Has-take image (4096 * block) 8 bytes has) opened

pub open_from_bytes : (image : Image) (block : ℕ) (bytes : List ℕ) → Has image (4096 * block) bytes → take 8 bytes ≡ mark → IsOpen image block
open_from_bytes image block bytes has marked = subst (Has image (4096 * block)) marked (Has-take image (4096 * block) 8 bytes has)

-- the bytes of a block that spells a superblock
pub spelled_bytes : (size : ℕ) (image : Image) (block : ℕ) (bytes : List ℕ) (s : Super) → length bytes ≡ 4096 → Has image (4096 * block) bytes → Spells size image block s → bytes ≡ super_bytes s
spelled_bytes size image block bytes s whole has spelled =
    Has-one image (4096 * block) bytes (super_bytes s) (whole ∙ sym (length-super_bytes s)) has spelled.stored
