-- The laws that no block has two pages, which ghost members cite.
use Rattle.std.specs.Prelude.{◌≡◌, ℕ, ◌*◌, Option, Some}
use Rattle.std.proofs.Common.{sym, ◌∙◌}
use Rattle.std.proofs.lemmas.Option.{same_Some}
use Rattle.btr_disk.proofs.ByteLemmas.{Has-one}
use Rattle.btr_node.specs.declared.page.NodePage.{NodePage}
use Rattle.btr_node.proofs.PageLemmas.{page-once}
use Rattle.btr_shelf.specs.DeviceBlocks.{DeviceBlocks, IsBlockPage}

-- A block of a device has one page at most.
pub one_block_page : (device : DeviceBlocks) (block : ℕ) (p q : NodePage) → IsBlockPage device block p → IsBlockPage device block q → p ≡ q
one_block_page device block p q a b =
    page-once p q a.fits b.fits (sym a.spells.bytes_are ∙ Has-one device.image (4096 * block) a.bytes b.bytes (a.long ∙ sym b.long) a.stored b.stored ∙ b.spells.bytes_are)

-- A function gives one page at most for a block.
pub one_held_page : (pages : ℕ → Option NodePage) (block : ℕ) (p q : NodePage) → pages block ≡ Some p → pages block ≡ Some q → p ≡ q
one_held_page pages block p q a b = same_Some p q (sym a ∙ b)
