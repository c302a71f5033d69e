-- The pages of a history that a device holds: up to a gate each of them is stored in its block and stands rightly, and from there on there is
-- none.
use Rattle.std.specs.Prelude.{◌≡◌, ℕ, ◌+◌, ◌-◌, ◌*◌, ◌<◌, ◌≤◌, List, [], ◌∷◌, ◌++◌, length, slice_get, Option, Some, None, IfSome, IsNone, is_some}
use Rattle.std.specs.List.{flat_map, AllByRecursion}
use Rattle.std.proofs.Common.{zero, suc, refl, sym, ◌∙◌, ap, subst, inl, inr, arith, append_assoc, length-append}
use Rattle.std.proofs.lemmas.Bool.{cases_lt}
use Rattle.std.proofs.lemmas.List.Concat.{flat_map-cons}
use Rattle.std.proofs.lemmas.Option.{slice_get_past}
use Rattle.btr_disk.specs.Bytes.{Image, Has}
use Rattle.btr_disk.specs.Gate.{zeros}
use Rattle.btr_disk.proofs.ByteLemmas.{Has-append}
use Rattle.btr_disk.proofs.GateLemmas.{length-zeros}
use Rattle.btr_log.specs.declared.head.Head.{Head}
use Rattle.btr_log.specs.Head.{content_blocks, head_bytes}
use Rattle.btr_log.specs.Extents.{need, IsExtent, Extents, first_gate}
use Rattle.btr_log.proofs.HeadLemmas.{length-head_bytes}
use Rattle.btr_node.specs.Page.{page_bytes, Fits}
use Rattle.btr_node.specs.declared.page.NodePage.{NodePage}
use Rattle.btr_tree.specs.PageNodes.{Pages}
use Rattle.btr_pages.specs.Pages.{IsPageAt}
use Rattle.btr_pages.proofs.BlockLemmas.{each-places, length-pages}
use Rattle.btr_pages.proofs.KnownLemmas.{pages-below, pages-from}
use Rattle.btr_pages.proofs.PagesLemmas.{right-along}
use Rattle.btr_pages.proofs.ReportedLemmas.{with-either}
use Rattle.btr_hist.specs.declared.entry.Entry.{Entry}
use Rattle.btr_entry.specs.Grammar.{spelling}
use Rattle.btr_engine.specs.Body.{Prefix, padding, body_of, no_extents, first_page, pages_after, with_extent, with_checkpoint, IsBodyOf, LeadTo}
use Rattle.btr_engine.specs.Roots.{IsRootOf}
use Rattle.btr_engine.proofs.BodyLemmas.{filled, head_of, need-body_of}
use Rattle.btr_open.specs.Below.{IsStoredPage, StandBelow}

-- What holds of each value holds of the one that there is.
pub if-each : {X : Type 0} (o : Option X) (P : X → Type 0) → ((x : X) → o ≡ Some x → P x) → IfSome o P
if-each None P each = tt
if-each (Some x) P each = each x refl

-- What holds of the value that there is holds of this one.
pub if-at : {X : Type 0} (o : Option X) (P : X → Type 0) (x : X) → o ≡ Some x → IfSome o P → P x
if-at {X} o P x at is = subst (λ (p : Option X). IfSome p P) at is

-- ---- no page from a gate on

-- No block from a gate on has a page.
abbrev pub AreBelow : ℕ → Pages → Type 0
AreBelow gate pages = (block : ℕ) → gate ≤ block → pages block ≡ None

-- With the pages of an entry there is none from the gate after its extent on.
pub below-extent : (before : Prefix) (e : Entry) (root : ℕ) (pages : List NodePage) (body : List ℕ) → IsBodyOf before e root pages body → AreBelow (before.gate + need body) (pages_after before e pages)
below-extent before e root pages body is block high =
    let first = first_page before.gate e in
    let needed : need body ≡ content_blocks (length (spelling e)) + length pages + 1 = ap need is.bytes ∙ need-body_of (length before.entries + 1) e root pages (each-places pages is.fits) in
    pages-from before.pages first block pages (omega (arith, high, needed)) ∙ slice_get_past pages (block - first) (omega (arith, high, needed))

-- A page is below the gate.
pub page-low : (gate : ℕ) (pages : Pages) (block : ℕ) (page : NodePage) → AreBelow gate pages → pages block ≡ Some page → block < gate
page-low gate pages block page below at = elim (cases_lt block gate) [
  | inl low ↦ low
  | inr high ↦
      let none : None ≡ Some page = sym (below block high) ∙ at in
      absurd (cc)
]

-- ---- pages in the bytes of an extent

module _ (image : Image) where
  -- Each of the pages whose bytes follow one another is stored in its block.
  has-pages : (block : ℕ) (pages : List NodePage) → AllByRecursion Fits pages → Has image (4096 * block) (flat_map page_bytes pages) → (i : ℕ) (page : NodePage) → slice_get pages i ≡ Some page → Fits page × Has image (4096 * (block + i)) (page_bytes page)
  has-pages block [] fits has i page at = absurd (cc)
  has-pages block (p ∷ pages) fits has i page at =
      let parts = Has-append image (4096 * block) (page_bytes p) (flat_map page_bytes pages) (subst (Has image (4096 * block)) (flat_map-cons page_bytes p pages) has) in
      go parts.0 parts.1 (λ rest. has-pages (block + 1) pages fits.1 rest) i at
    where
      size : length (page_bytes p) ≡ 4096
      size =
          omega (arith, length-pages (p ∷ []) (each-places (p ∷ []) (fits.0, tt)), ap (length {A = ℕ}) (flat_map-cons page_bytes p []), length-append (page_bytes p) [])

      next : 4096 * block + length (page_bytes p) ≡ 4096 * (block + 1)
      next = omega (arith, size)

      go : Has image (4096 * block) (page_bytes p) → Has image (4096 * block + length (page_bytes p)) (flat_map page_bytes pages) → (Has image (4096 * (block + 1)) (flat_map page_bytes pages) → (i : ℕ) (page : NodePage) → slice_get pages i ≡ Some page → Fits page × Has image (4096 * (block + 1 + i)) (page_bytes page)) → (i : ℕ) → slice_get (p ∷ pages) i ≡ Some page → Fits page × Has image (4096 * (block + i)) (page_bytes page)
      go first rest on zero at =
          let same : p ≡ page = cc in
          let here : block ≡ block + 0 = omega arith in
          subst (λ (q : NodePage). Fits q × Has image (4096 * (block + 0)) (page_bytes q)) same (fits.0, subst (λ (k : ℕ). Has image (4096 * k) (page_bytes p)) here first)
      go first rest on (suc j) at =
          let more = on (subst (λ a. Has image a (flat_map page_bytes pages)) next rest) j page at in
          let far : (block + 1) + j ≡ block + suc j = omega arith in
          (more.0, subst (λ (k : ℕ). Has image (4096 * k) (page_bytes page)) far more.1)

  -- The pages of the body of an entry are stored after its content.
  body-pages : (before : Prefix) (e : Entry) (root : ℕ) (pages : List NodePage) (body : List ℕ) → IsBodyOf before e root pages body → Has image (4096 * (before.gate + 1)) body → Has image (4096 * first_page before.gate e) (flat_map page_bytes pages)
  unfolding body_of
  body-pages before e root pages body is has =
      let head = head_of (length before.entries + 1) e root pages in
      let content = head_bytes head ++ filled e in
      let bytes : body ≡ content ++ flat_map page_bytes pages = is.bytes ∙ sym (append_assoc (head_bytes head) (filled e) (flat_map page_bytes pages)) in
      let size : length content ≡ 4096 * content_blocks (length (spelling e)) =
      omega (arith, length-append (head_bytes head) (filled e), length-append (spelling e) (zeros (padding (length (spelling e)))), length-head_bytes head, length-zeros (padding (length (spelling e)))) in
      let place : 4096 * (before.gate + 1) + length content ≡ 4096 * first_page before.gate e = omega (arith, size) in
      subst (λ a. Has image a (flat_map page_bytes pages)) place (Has-append image (4096 * (before.gate + 1)) content (flat_map page_bytes pages) (subst (Has image (4096 * (before.gate + 1))) bytes has)).1

  -- ---- the pages up to a gate

  -- The pages up to a gate stand rightly on the device, and there is none from there on.
  abbrev pub StandTo : ℕ → Pages → Type 0
  StandTo gate pages = StandBelow image gate pages × AreBelow gate pages

  pub stand-extent : (before : Prefix) (e : Entry) (root : ℕ) (pages : List NodePage) (body : List ℕ) (head : Head) → 1 ≤ before.gate → StandTo before.gate before.pages → IsBodyOf before e root pages body → IsExtent image before.gate body head → StandTo (before.gate + need body) (pages_after before e pages)
  stand-extent before e root pages body head some stand is extent = (
    λ block low. if-each (all block) _ (λ page at. elim (with-either before.pages first pages block page at) [
      | inl old ↦
          let under = page-low before.gate before.pages block page stand.1 old.1 in
          let was = if-at (before.pages block) (λ q. (1 ≤ block) × IsStoredPage image block q × IsPageAt before.pages block q) page old.1 (stand.0 block under) in
          (was.0, was.1, right-along before.pages all block page (λ b less. pages-below before.pages first b pages (omega arith)) was.2)
      | inr new ↦
          let i = block - first in
          let place : first + i ≡ block = omega (arith, new.0) in
          let there = has-pages first pages is.fits stored i page new.1 in
          let right = subst (λ k. IsPageAt all k page) place (if-at (slice_get pages i) (λ q. IsPageAt all (first + i) q) page new.1 (is.rightly i)) in
          (omega arith, record { fits = there.0; keeps = right.keeps; stored = subst (λ (k : ℕ). Has image (4096 * k) (page_bytes page)) place there.1 }, right)
    ]),
    below-extent before e root pages body is,
  )
    where
      first : ℕ
      first = first_page before.gate e

      all : Pages
      all = pages_after before e pages

      stored : Has image (4096 * first) (flat_map page_bytes pages)
      stored = body-pages before e root pages body is extent.stored

  pub stand-passed : (gate next : ℕ) (pages : Pages) → gate ≤ next → StandTo gate pages → StandTo next pages
  stand-passed gate next pages le stand =
      (λ block low. if-each (pages block) _ (λ page at. if-at (pages block) _ page at (stand.0 block (page-low gate pages block page stand.1 at))), λ block high. stand.1 block (omega arith))

  stand-on : (before : Prefix) (bodies : List (List ℕ)) (after : Prefix) → LeadTo IsRootOf before bodies after → Extents image before.gate bodies after.gate → 1 ≤ before.gate → StandTo before.gate before.pages → StandTo after.gate after.pages
  stand-on before [] after leads extents some stand = subst (λ (p : Prefix). StandTo p.gate p.pages) leads stand
  stand-on before (body ∷ bodies) after leads extents some stand = elim leads [
    | inl x ↦
        stand-on (with_extent before x.0 x.1 x.2 body) bodies after x.5 extents.1 (omega arith) (stand-extent before x.0 x.1 x.2 body extents.0.0 some stand x.3 extents.0.1)
    | inr x ↦
        stand-on (with_checkpoint before body) bodies after x.1 extents.1 (omega arith) (stand-passed before.gate (before.gate + need body) before.pages (omega arith) stand)
  ]

-- The pages of a history that a device holds stand rightly on it below the gate, and there is none from there on.
pub stand-held : (image : Image) (bodies : List (List ℕ)) (p : Prefix) → LeadTo IsRootOf no_extents bodies p → Extents image first_gate bodies p.gate → StandBelow image p.gate p.pages × ((block : ℕ) → p.gate ≤ block → IsNone (p.pages block))
stand-held image bodies p leads extents =
    let stand = stand-on image no_extents bodies p leads extents (omega arith) (λ block low. tt, λ block high. refl) in
    (stand.0, λ block high. ap (is_some {T = NodePage}) (stand.1 block high))
