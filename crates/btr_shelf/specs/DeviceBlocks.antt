-- The pages of a device: the bytes of blocks that are those of nodes.
use Rattle.std.specs.Prelude.{◌≡◌, ℕ, ◌+◌, ◌*◌, ◌<◌, List, length, slice_index}
use Rattle.btr_disk.specs.Bytes.{Image, Has}
use Rattle.btr_disk.specs.Causes.{Rose}
use Rattle.btr_node.specs.Page.{Fits, Spells}
use Rattle.btr_node.specs.declared.page.NodePage.{NodePage}
use Rattle.btr_tree.specs.declared.fetch.NodeFault.{NodeFault}
use Rattle.btr_tree.specs.declared.fetch.NodeFault.TheVariants.{Failed, Damaged, Want}

-- The bytes of a device, and its number of blocks.
pub record DeviceBlocks : Type 0 where
  pub image : Image
  pub size : ℕ

-- The block of a device has this page: the block is inside the device, and its bytes are those of the page.
pub record IsBlockPage (device : DeviceBlocks) (block : ℕ) (page : NodePage) : Type 0 where
  pub inside : block < device.size
  pub bytes : List ℕ
  pub long : length bytes ≡ 4096
  pub stored : Has device.image (4096 * block) bytes
  pub spells : Spells bytes page
  pub fits : Fits page

-- The image has each of the 4096 bytes of a block from this address on.
abbrev pub HasEach : Image → ℕ → List ℕ → Type 0
HasEach image address bytes = (k : ℕ) → k < 4096 → image (address + k) ≡ slice_index bytes k

-- A read is refused only because the device failed.
abbrev pub ReadCause : ℕ → ℕ → NodeFault → Type 0
ReadCause before after Failed = Rose before after
ReadCause before after (Damaged block) = ⊥
ReadCause before after Want = ⊥

-- What a device tells of its blocks.
abbrev pub told_blocks : {D : Type 0} → (D → Image) → (D → ℕ) → D → DeviceBlocks
told_blocks contents size disk = record { image = contents disk; size = size disk }

-- The refusal is not for memory.
abbrev pub IsNoWant : NodeFault → Type 0
IsNoWant Failed = Unit {0}
IsNoWant (Damaged block) = Unit {0}
IsNoWant Want = ⊥
