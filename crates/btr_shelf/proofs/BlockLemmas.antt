-- Lemmas on the blocks of a device whose bytes are pages.
use Rattle.std.specs.Prelude.{◌≡◌, ℕ, ◌+◌, ◌*◌, ◌<◌, List, length, slice_index, Option, Some, None}
use Rattle.std.proofs.Common.{sym, ◌∙◌, subst, arith}
use Rattle.std.proofs.lemmas.Option.{same_Some}
use Rattle.btr_disk.specs.Bytes.{Image, Has, Same}
use Rattle.btr_disk.proofs.ByteLemmas.{Has-at, Has-from_each, Has-one, Has-Same}
use Rattle.btr_node.specs.Page.{Fits, Spells}
use Rattle.btr_node.specs.declared.page.NodePage.{NodePage}
use Rattle.btr_shelf.specs.DeviceBlocks.{IsBlockPage, HasEach}

-- Bytes that were read, each at its address.
pub read-each : (old new : Image) (block other k : ℕ) (bytes : List ℕ) → Has old (4096 * block) bytes → Same old new → length bytes ≡ 4096 → Some block ≡ Some other → k < 4096 → new (4096 * other + k) ≡ slice_index bytes k
read-each old new block other k bytes has same long e lt =
    let here : block ≡ other = same_Some block other e in
    subst (λ b. new (4096 * b + k) ≡ slice_index bytes k) here (Has-at new (4096 * block) bytes (Has-Same old new (4096 * block) bytes same has) k (omega arith))

stored : (old new : Image) (block : ℕ) (bytes : List ℕ) → Same old new → HasEach new (4096 * block) bytes → length bytes ≡ 4096 → Has old (4096 * block) bytes
stored old new block bytes same each long =
    Has-from_each old (4096 * block) bytes (λ k lt. sym (same (4096 * block + k)) ∙ each k (omega arith))

-- The bytes of a block are those of a page.
pub page-there : (old new : Image) (size block : ℕ) (bytes : List ℕ) (page : NodePage) → block < size → Same old new → HasEach new (4096 * block) bytes → length bytes ≡ 4096 → Spells bytes page → Fits page → IsBlockPage (record { image = old; size = size }) block page
page-there old new size block bytes page inside same each long spells fits =
    record {
      inside = inside;
      bytes = bytes;
      long = long;
      stored = stored old new block bytes same each long;
      spells = spells;
      fits = fits;
    }

-- They are not.
pub no-page : (old new : Image) (size block : ℕ) (bytes : List ℕ) (o : Option NodePage) → Same old new → HasEach new (4096 * block) bytes → length bytes ≡ 4096 → o ≡ None → ((page : NodePage) → Fits page → Spells bytes page → o ≡ Some page) → (page : NodePage) → IsBlockPage (record { image = old; size = size }) block page → ⊥
no-page old new size block bytes o same each long none only page is =
    let e : is.bytes ≡ bytes = Has-one old (4096 * block) is.bytes bytes (is.long ∙ sym long) is.stored (stored old new block bytes same each long) in
    let found = only page is.fits (subst (λ bs. Spells bs page) e is.spells) in
    absurd (cc)
