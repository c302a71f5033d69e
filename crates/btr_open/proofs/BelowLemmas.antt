-- Lemmas on the pages of a device below a block: at most one page is stored in a block, and pages that stand rightly have nothing below them
-- that breaks the format.
use Rattle.std.specs.Prelude.{◌≡◌, ℕ, ◌*◌, ◌<◌, ◌≤◌, nat_lt, List, [], ◌∷◌, length, slice_get, Option, Some, None, IfSome, MatchOption, cond, true, false}
use Rattle.std.proofs.Common.{sym, ap, ◌∙◌, subst, arith, inl, inr}
use Rattle.std.proofs.lemmas.Bool.{cases_lt}
use Rattle.std.proofs.lemmas.Bool.Decides.{nat_tests}
use Rattle.btr_disk.specs.Bytes.{Image, Has, Same}
use Rattle.btr_disk.proofs.ByteLemmas.{Has-one}
use Rattle.btr_log.specs.Piece.{PieceValue, IsPieceOf, HoldsBlocks, bytes_at}
use Rattle.btr_log.proofs.PieceLemmas.{length-bytes_at, Has-bytes_at, Has-bytes_before}
use Rattle.btr_node.specs.Page.{page_bytes, Fits, Spells, slots_of_page}
use Rattle.btr_node.specs.declared.page.NodePage.{NodePage}
use Rattle.btr_node.specs.declared.page.PageSlot.{PageSlot}
use Rattle.btr_node.proofs.PageLemmas.{page-once}
use Rattle.btr_tree.specs.PageNodes.{Pages, IsChildPage}
use Rattle.btr_pages.specs.Pages.{with_pages, IsPageAt, HasChildPage}
use Rattle.btr_pages.proofs.BlockLemmas.{one-block}
use Rattle.btr_pages.proofs.KnownLemmas.{pages-below, pages-from}
use Rattle.btr_pages.proofs.PagesLemmas.{right-along}
use Rattle.btr_open.specs.Below.{IsStoredPage, HasNoPage, StandBelow, pages_joined, IsWrongChild, BreaksAlong, BreaksBelow}
use Rattle.btr_open.specs.Loading.{IsDeviceBlock}

-- At most one page is stored in a block.
pub stored-one : (image : Image) (block : ℕ) (p q : NodePage) → IsStoredPage image block p → IsStoredPage image block q → p ≡ q
stored-one image block p q one two =
    page-once p q one.fits two.fits (Has-one image (4096 * block) (page_bytes p) (page_bytes q) (one-block p one.fits ∙ sym (one-block q two.fits)) one.stored two.stored)

-- A page that is among pages that stand rightly.
pub stand-page : (image : Image) (limit block : ℕ) (pages : Pages) → StandBelow image limit pages → block < limit → (page : NodePage) → pages block ≡ Some page → (1 ≤ block) × IsStoredPage image block page × IsPageAt pages block page
stand-page image limit block pages stand lt page at =
    subst (λ o. IfSome o (λ p. (1 ≤ block) × IsStoredPage image block p × IsPageAt pages block p)) at (stand block lt)

-- The child of a slot with a point, of a page that stands rightly.
pub child-at : (pages : Pages) (block : ℕ) (page : NodePage) (i : ℕ) (slot : PageSlot) → IsPageAt pages block page → slice_get (slots_of_page page) i ≡ Some slot → 0 < slot.agg.count → HasChildPage pages block page i slot
child-at pages block page i slot right there some =
    subst (λ o. IfSome o (λ s. 0 < s.agg.count → HasChildPage pages block page i s)) there (right.children i) some

-- No child of a page is wrong, if pages stand rightly and it is among them.
wrong-child : (image : Image) (limit block i named : ℕ) (pages : Pages) (page : NodePage) (slot : PageSlot) → StandBelow image limit pages → block < limit → HasChildPage pages block page i slot → IsWrongChild image block page i slot named → ⊥
wrong-child image limit block i named pages page slot stand lt has (inl wrong) =
    let lower = has.lower in
    let above = wrong.0 in
    absurd (omega arith)
wrong-child image limit block i named pages page slot stand lt has (inr (inl wrong)) =
    let lower = has.lower in
    wrong.1 has.child (stand-page image limit slot.child pages stand (omega arith) has.child has.is).1
wrong-child image limit block i named pages page slot stand lt has (inr (inr wrong)) =
    let lower = has.lower in
    let its = (stand-page image limit slot.child pages stand (omega arith) has.child has.is).1 in
    wrong.3 (subst (λ p. IsChildPage page i slot p) (stored-one image slot.child has.child wrong.1 its wrong.2) has.fits)

stand-along : (image : Image) (limit : ℕ) (pages : Pages) → StandBelow image limit pages → (slots : List ℕ) (block : ℕ) (page : NodePage) (named : ℕ) → block < limit → pages block ≡ Some page → BreaksAlong image slots block page named → ⊥
stand-along image limit pages stand [] block page named lt at breaks =
    let here = stand-page image limit block pages stand lt page at in
    wrong-child image limit block breaks.0 named pages page breaks.1 stand lt (child-at pages block page breaks.0 breaks.1 here.2 breaks.2 breaks.3) breaks.4
stand-along image limit pages stand (i ∷ slots) block page named lt at breaks =
    let here = stand-page image limit block pages stand lt page at in
    let down = breaks.2 in
    let has = child-at pages block page i down.slot here.2 down.there down.some in
    let is = down.is in
    let lower = down.lower in
    let its = (stand-page image limit down.slot.child pages stand (omega arith) has.child has.is).1 in
    let same = stored-one image breaks.0 has.child breaks.1 (subst (λ b. IsStoredPage image b has.child) is its) down.stored in
    stand-along image limit pages stand slots breaks.0 breaks.1 named (omega arith) (ap pages (sym is) ∙ has.is ∙ ap Some same) breaks.3

-- Nothing breaks the format below a page of pages that stand rightly.
pub stand-broken : (image : Image) (limit block named : ℕ) (pages : Pages) (page : NodePage) → StandBelow image limit pages → block < limit → pages block ≡ Some page → BreaksBelow image block page named → ⊥
stand-broken image limit block named pages page stand lt at breaks =
    stand-along image limit pages stand breaks.0 block page named lt at breaks.1

-- ---- pages below a limit, and others from there on

pub pages_joined-below : (limit : ℕ) (below pages : Pages) (block : ℕ) → block < limit → pages_joined limit below pages block ≡ below block
pages_joined-below limit below pages block lt =
    let yes : nat_lt block limit ≡ true = grind (arith, nat_tests) in
    ap (λ t. cond t (below block) (pages block)) yes

pub pages_joined-from : (limit : ℕ) (below pages : Pages) (block : ℕ) → limit ≤ block → pages_joined limit below pages block ≡ pages block
pages_joined-from limit below pages block le =
    let no : nat_lt block limit ≡ false = grind (arith, nat_tests) in
    ap (λ t. cond t (below block) (pages block)) no

-- Pages that are the same from the limit on are the same with the pages below it.
pub pages_joined-is : (limit : ℕ) (below pages : Pages) → ((block : ℕ) → limit ≤ block → pages block ≡ below block) → pages_joined limit below pages ≡ below
pages_joined-is limit below pages same =
    let each : (block : ℕ) → pages_joined limit below pages block ≡ below block = λ block. elim (cases_lt block limit) [
      | inl less ↦ pages_joined-below limit below pages block less
      | inr le ↦ pages_joined-from limit below pages block le ∙ same block le
    ] in
    λ i block. each block i

-- Pages from a block on, which is not below the limit, are added to those that are known.
pub pages_joined-with : (limit : ℕ) (below pages : Pages) (first : ℕ) (new : List NodePage) → limit ≤ first → with_pages (pages_joined limit below pages) first new ≡ pages_joined limit below (with_pages pages first new)
pages_joined-with limit below pages first new behind =
    let known = pages_joined limit below pages in
    let more = with_pages pages first new in
    let each : (block : ℕ) → with_pages known first new block ≡ pages_joined limit below more block = λ block. elim (cases_lt block limit) [
      | inl less ↦
          pages-below known first block new (omega (arith, less, behind)) ∙ pages_joined-below limit below pages block less ∙ sym (pages_joined-below limit below more block less)
      | inr le ↦ elim (cases_lt block first) [
        | inl less ↦
            pages-below known first block new less ∙ pages_joined-from limit below pages block le ∙ sym (pages-below pages first block new less) ∙ sym (pages_joined-from limit below more block le)
        | inr there ↦ pages-from known first block new there ∙ sym (pages-from pages first block new there) ∙ sym (pages_joined-from limit below more block le)
      ]
    ] in
    λ i block. each block i

stand-joined_at : (image : Image) (limit block : ℕ) (below pages : Pages) → block < limit → (o : Option NodePage) → IfSome o (λ page. (1 ≤ block) × IsStoredPage image block page × IsPageAt below block page) → IfSome o (λ page. (1 ≤ block) × IsStoredPage image block page × IsPageAt (pages_joined limit below pages) block page)
stand-joined_at image limit block below pages lt None has = has
stand-joined_at image limit block below pages lt (Some page) has =
    (has.0, has.1, right-along below (pages_joined limit below pages) block page (λ b less. pages_joined-below limit below pages b (omega arith)) has.2)

-- Pages that stand rightly do so with others from the limit on.
pub stand-pages_joined : (image : Image) (limit : ℕ) (below pages : Pages) → StandBelow image limit below → StandBelow image limit (pages_joined limit below pages)
stand-pages_joined image limit below pages stand block lt =
    subst (λ o. IfSome o (λ page. (1 ≤ block) × IsStoredPage image block page × IsPageAt (pages_joined limit below pages) block page)) (sym (pages_joined-below limit below pages block lt)) (stand-joined_at image limit block below pages lt (below block) (stand block lt))

-- ---- the page that a block was decoded to

-- The bytes of a block were decoded: to the page that is stored there, or to none.
pub read-page : (image : Image) (block : ℕ) (bytes : List ℕ) (o : Option NodePage) → length bytes ≡ 4096 → Has image (4096 * block) bytes → IfSome o (λ page. Spells bytes page) → IfSome o (λ page. Fits page) → ((page : NodePage) → Fits page → Spells bytes page → o ≡ Some page) → MatchOption o (HasNoPage image block) (IsStoredPage image block)
read-page image block bytes None size has found fits only = λ page stored.
    let same : bytes ≡ page_bytes page = Has-one image (4096 * block) bytes (page_bytes page) (size ∙ sym (one-block page stored.fits)) has stored.stored in
    let none = only page stored.fits (record { keeps = stored.keeps; bytes_are = same }) in
    absurd (cc)
read-page image block bytes (Some page) size has found fits only =
    record { fits = fits; keeps = found.keeps; stored = subst (Has image (4096 * block)) found.bytes_are has }

-- ---- the blocks that a piece holds

module _ (p : PieceValue) (block : ℕ) (holds : HoldsBlocks p block 1) where
  pub block-held : (image : Image) → IsPieceOf image p → IsDeviceBlock image block (bytes_at p block 1)
  block-held image has = record { size = length-bytes_at p block 1 holds; has = Has-bytes_at p block 1 holds image has }

  pub block-was : (old new : Image) → Same old new → IsPieceOf new p → IsDeviceBlock old block (bytes_at p block 1)
  block-was old new same has = record { size = length-bytes_at p block 1 holds; has = Has-bytes_before old new same p block 1 holds has }
