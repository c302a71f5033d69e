-- Lemmas on reads below the tail, and on the page that is read from a block.
use Rattle.std.specs.Prelude.{◌≡◌, ℕ, ◌*◌, Option, Some}
use Rattle.std.proofs.Common.{sym, ◌∙◌, subst}
use Rattle.btr_disk.specs.declared.disk.Disk.{Ghosts}
use Rattle.btr_disk.specs.Bytes.{Image, Has}
use Rattle.btr_disk.proofs.ByteLemmas.{Has-one}
use Rattle.btr_log.specs.Piece.{PieceValue, IsPieceOf, HoldsBlocks, bytes_at}
use Rattle.btr_log.proofs.OnlyReading.{OnlyReads-trans}
use Rattle.btr_log.proofs.PieceLemmas.{length-bytes_at, Has-bytes_at}
use Rattle.btr_node.specs.Page.{page_bytes, Fits, Spells}
use Rattle.btr_node.specs.declared.page.NodePage.{NodePage}
use Rattle.btr_pages.proofs.BlockLemmas.{one-block}
use Rattle.btr_verify.specs.Judging.{ReadsBelow, IsPageRead}

-- Reads below the tail, followed by others.
pub reads-more : {D : Type 0} {disk : Ghosts D} (tail : ℕ) (old mid new : D) (piece after : PieceValue)
    → ReadsBelow disk tail old mid piece → ReadsBelow disk tail mid new after → ReadsBelow disk tail old new after
reads-more tail old mid new piece after first second =
    record { reads = OnlyReads-trans old mid new first.reads second.reads; can = second.can }

-- The bytes of a block were decoded: to the page that is stored there, if one is.
pub page-read : (old new : Image) (p : PieceValue) (block : ℕ) (o : Option NodePage) → new ≡ old → HoldsBlocks p block 1 → IsPieceOf new p → ((page : NodePage) → Fits page → Spells (bytes_at p block 1) page → o ≡ Some page) → IsPageRead old block o
page-read old new p block o same holds has only pages page stored =
    let here = subst (λ c. Has c (4096 * block) (bytes_at p block 1)) same (Has-bytes_at p block 1 holds new has) in
    let bytes : bytes_at p block 1 ≡ page_bytes page = Has-one old (4096 * block) (bytes_at p block 1) (page_bytes page) (length-bytes_at p block 1 holds ∙ sym (one-block page stored.fits)) here stored.stored in
    only page stored.fits (record { keeps = stored.stands.keeps; bytes_are = bytes })
