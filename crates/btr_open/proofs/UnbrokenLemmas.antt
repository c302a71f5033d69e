-- The body of the next entry, or of a checkpoint, breaks the format nowhere, and neither does its extent. What is before its gate is known
-- but for pages below a limit, of which some are given that stand rightly there.
use Rattle.std.specs.Prelude.{◌≡◌, ◌⊎◌, ℕ, ◌+◌, ◌*◌, ◌<◌, ◌≤◌, ◌^◌, false, List, [], ◌∷◌, ◌++◌, length, take, drop}
use Rattle.std.specs.List.{flat_map, AllByRecursion}
use Rattle.std.proofs.Common.{refl, sym, ◌∙◌, ap, subst, arith, ⊎_elim, length-append}
use Rattle.std.proofs.lemmas.Bool.{false≢true}
use Rattle.std.proofs.Math.Seq.{take-append_seam, take-append-add, drop-append-add}
use Rattle.std.proofs.lemmas.List.Concat.{flat_map-cons}
use Rattle.btr_disk.specs.Bytes.{Image, Has}
use Rattle.btr_disk.specs.Gate.{IsOpen}
use Rattle.btr_disk.proofs.ByteLemmas.{Has-one, Has-take}
use Rattle.btr_log.specs.declared.head.Head.{Head}
use Rattle.btr_log.specs.Head.{head_bytes, Spells}
use Rattle.btr_log.proofs.HeadLemmas.{length-head_bytes, head_bytes-one, Spells-one}
use Rattle.btr_log.specs.Extents.{need, IsExtent}
use Rattle.btr_log.proofs.ExtentLemmas.{IsBody-one, IsBody-blocks}
use Rattle.btr_log.specs.Found.{SpellsAt, IsDamagedExtent}
use Rattle.btr_super.specs.declared.superblock.Super.{Super}
use Rattle.btr_super.specs.Super.{has_seal}
use Rattle.btr_node.specs.Page.{page_bytes, Fits}
use Rattle.btr_node.specs.declared.page.NodePage.{NodePage}
use Rattle.btr_node.proofs.PageLemmas.{page-once}
use Rattle.btr_tree.specs.PageNodes.{Pages}
use Rattle.btr_pages.specs.Pages.{with_pages, IsPageAt, ArePages}
use Rattle.btr_pages.specs.Blocks.{block_of_bytes, IsNoPage}
use Rattle.btr_pages.proofs.BlockLemmas.{parts-one, length-pages, each-places}
use Rattle.btr_pages.proofs.PagesLemmas.{right-next}
use Rattle.btr_hist.specs.declared.entry.Entry.{Entry}
use Rattle.btr_engine.specs.Body.{first_page, MayStandUnder}
use Rattle.btr_open.specs.Content.{HasContent, MayHeadStand}
use Rattle.btr_open.specs.Reached.{Reached, with_other_pages}
use Rattle.btr_open.specs.RootTest.{MayLeadIn}
use Rattle.btr_open.specs.Below.{StandBelow}
use Rattle.btr_open.specs.Walk.{FitsRoll, IsNextBody, IsCheckpointBody, IsNoNextBody, IsForbiddenBody, pages_from}
use Rattle.btr_open.specs.Walk.{HasWrongRoot, IsOutOfPlace, HasWrongNode, BreaksBody, IsOpenTail, IsDamagedGate, IsBrokenExtent, IsDamagedNext}
use Rattle.btr_open.proofs.Formats.{head-may}
use Rattle.btr_open.proofs.ContentLemmas.{content-one}
use Rattle.btr_open.proofs.RootLemmas.{may-lead-in, pages-keep}
use Rattle.btr_open.proofs.UniqueLemmas.{next-content, marks-apart}

-- The same, but for the pages below the limit, which are these.
abbrev pub with_below : ℕ → Pages → Reached → Reached
with_below limit below log = with_other_pages log (pages_from limit below log)

-- ---- pages of which some are known

-- A page fills a block.
pub page-length : (p : NodePage) → Fits p → length (page_bytes p) ≡ 4096
page-length p fits =
    omega (arith, length-pages (p ∷ []) (each-places (p ∷ []) (fits, tt)), ap (length {A = ℕ}) (flat_map-cons page_bytes p []), length-append (page_bytes p) [])

-- The bytes of pages begin with those of the first one.
module _ (p : NodePage) (ps : List NodePage) (fits : Fits p) where
  all : flat_map page_bytes (p ∷ ps) ≡ page_bytes p ++ flat_map page_bytes ps
  all = flat_map-cons page_bytes p ps

  first-block : block_of_bytes (flat_map page_bytes (p ∷ ps)) 0 ≡ page_bytes p
  first-block = ap (take 4096) all ∙ ap (λ k. take k (page_bytes p ++ flat_map page_bytes ps)) (sym (page-length p fits)) ∙ take-append_seam (page_bytes p) (flat_map page_bytes ps)

  further : (n : ℕ) → 4096 * (n + 1) ≡ length (page_bytes p) + 4096 * n
  further n = omega (arith, page-length p fits)

  take-further : (n : ℕ) → take (4096 * (n + 1)) (flat_map page_bytes (p ∷ ps)) ≡ page_bytes p ++ take (4096 * n) (flat_map page_bytes ps)
  take-further n = ap (take (4096 * (n + 1))) all ∙ ap (λ k. take k (page_bytes p ++ flat_map page_bytes ps)) (further n) ∙ take-append-add (page_bytes p) (flat_map page_bytes ps) (4096 * n)

  further-block : (n : ℕ) → block_of_bytes (flat_map page_bytes (p ∷ ps)) (n + 1) ≡ block_of_bytes (flat_map page_bytes ps) n
  further-block n = ap (λ xs. take 4096 (drop (4096 * (n + 1)) xs)) all ∙ ap (λ k. take 4096 (drop k (page_bytes p ++ flat_map page_bytes ps))) (further n) ∙ ap (take 4096) (drop-append-add (page_bytes p) (flat_map page_bytes ps) (4096 * n))

-- The pages are those before, then this one, whose bytes are those of the block, and then more.
pub record AreSplit (pages before : List NodePage) : Type 0 where
  pub page : NodePage
  pub more : List NodePage
  pub are : pages ≡ before ++ page ∷ more
  pub fits : Fits page
  pub block : block_of_bytes (flat_map page_bytes pages) (length before) ≡ page_bytes page

-- Pages whose first blocks are other pages begin with those.
pub split : (before pages : List NodePage) → AllByRecursion Fits before → AllByRecursion Fits pages → length before < length pages → take (4096 * length before) (flat_map page_bytes pages) ≡ flat_map page_bytes before → AreSplit pages before
split before [] fit fits within same = absurd (omega (arith, within))
split [] (p ∷ ps) fit fits within same =
    record { page = p; more = ps; are = refl; fits = fits.0; block = first-block p ps fits.0 }
split (b ∷ bs) (p ∷ ps) fit fits within same =
    let n = length bs in
    let count : length (b ∷ bs) ≡ n + 1 = omega arith in
    let both : page_bytes p ++ take (4096 * n) (flat_map page_bytes ps) ≡ page_bytes b ++ flat_map page_bytes bs =
    sym (take-further p ps fits.0 n) ∙ ap (λ k. take (4096 * k) (flat_map page_bytes (p ∷ ps))) (sym count) ∙ same ∙ flat_map-cons page_bytes b bs in
    let parts = parts-one (page_bytes p) (page_bytes b) (take (4096 * n) (flat_map page_bytes ps)) (flat_map page_bytes bs) (page-length p fits.0 ∙ sym (page-length b fit.0)) both in
    let head : p ≡ b = page-once p b fits.0 fit.0 parts.0 in
    let rest = split bs ps fit.1 fits.1 (omega (arith, within)) parts.1 in
    let tail = rest.are in
    record {
      page = rest.page;
      more = rest.more;
      are = λ i. head i ∷ tail i;
      fits = rest.fits;
      block = ap (block_of_bytes (flat_map page_bytes (p ∷ ps))) count ∙ further-block p ps fits.0 n ∙ rest.block;
    }

-- ---- a body

module _ (image : Image) (limit : ℕ) (below : Pages) (stand : StandBelow image limit below) (log : Reached) where
  -- The block of a page that stands rightly is not damaged.
  not-damaged : (first block : ℕ) (new : List NodePage) (bytes : List ℕ) (page : NodePage) → Fits page → bytes ≡ page_bytes page → IsPageAt (with_pages (pages_from limit below log) first new) block page → IsNoPage bytes ⊎ IsOutOfPlace image limit log first new block bytes → ⊥
  not-damaged first block new bytes page fits same stands damaged =
      ⊎_elim
      (λ none. none page fits (record { keeps = stands.keeps; bytes_are = same }))
      (λ (out : IsOutOfPlace image limit log first new block bytes).
      out.wrong below stand (subst (IsPageAt (with_pages (pages_from limit below log) first new) block) (page-once page out.page fits out.fits (sym same ∙ out.spells.bytes_are)) stands))
      damaged

  -- The body of the next entry. Its numbers fit eight bytes.
  module _ (e : Entry) (root : ℕ) (pages : List NodePage) (body : List ℕ) (block : ℕ) (few : log.entries + 1 < 2 ^ 64) (short : need body ≤ 2 ^ 64) (is : IsNextBody (with_below limit below log) e root pages body) where
    abbrev number : ℕ
    number = log.entries + 1

    abbrev nodes : List ℕ
    nodes = flat_map page_bytes pages

    abbrev known : Pages
    known = pages_from limit below log

    content : HasContent number e root nodes body
    content = next-content (with_below limit below log) e root pages body is short

    -- Whatever content the body has, it is this one.
    one-content : (f : Entry) (r : ℕ) (y : List ℕ) → HasContent number f r y body → (e ≡ f) × (root ≡ r) × (nodes ≡ y)
    one-content f r y other = content-one number e f root r nodes y body (omega arith) few content other

    has-entry : IsNoNextBody log body block → ⊥
    has-entry n = n.no_entry e root nodes content

    not-forbidden : IsForbiddenBody (λ e root. FitsRoll log.roll e) log body block → ⊥
    not-forbidden f =
        f.forbidden (subst (FitsRoll log.roll) (one-content f.entry f.root f.nodes f.content).0 is.allowed)

    right-root : HasWrongRoot (λ e root. FitsRoll log.roll e) image limit log body block → ⊥
    right-root w =
        let same = one-content w.entry w.root w.nodes w.content in
        let may = may-lead-in known log.roll e (first_page log.gate e) root pages nodes refl is.fits (pages-keep known (first_page log.gate e) pages is.rightly) is.may_lead in
        let there : MayLeadIn known log.roll w.entry (first_page log.gate w.entry) w.nodes w.root = subst {A = Entry × ℕ × List ℕ} (λ c. MayLeadIn known log.roll c.0 (first_page log.gate c.0) c.2 c.1) (λ i. (same.0 i, same.1 i, same.2 i)) may in
        w.wrong below stand there

    right-nodes : HasWrongNode (λ e root. FitsRoll log.roll e) image limit log body block → ⊥
    right-nodes w =
        let same = one-content w.entry w.root w.nodes w.content in
        let first = first_page log.gate e in
        let n = length w.before in
        let within : n < length pages = omega (arith, w.within, ap (length {A = ℕ}) same.2, length-pages pages (each-places pages is.fits)) in
        let start : take (4096 * n) nodes ≡ flat_map page_bytes w.before = ap (take (4096 * n)) same.2 ∙ w.bytes in
        let parts = split w.before pages w.fit is.fits within start in
        let here : block_of_bytes w.nodes n ≡ page_bytes parts.page = ap (λ xs. block_of_bytes xs n) (sym same.2) ∙ parts.block in
        let right : IsPageAt (with_pages known first w.before) (first + n) parts.page = right-next known first w.before parts.more parts.page (subst (ArePages known first) {y = w.before ++ parts.page ∷ parts.more} parts.are is.rightly) in
        let firsts : first ≡ first_page log.gate w.entry = ap (first_page log.gate) same.0 in
        let at : first + n ≡ block = ap (λ b. b + n) firsts ∙ sym w.next in
        let there = first_page log.gate w.entry in
        let stands : IsPageAt (with_pages known there w.before) block parts.page = subst {A = ℕ × ℕ} (λ c. IsPageAt (with_pages known c.0 w.before) c.1 parts.page) (λ i. (firsts i, at i)) right in
        not-damaged there block w.before (block_of_bytes w.nodes n) parts.page parts.fits here stands w.damaged

    body-unbroken : BreaksBody image limit log body block → ⊥
    body-unbroken breaks =
        ⊎_elim has-entry (λ f. ⊎_elim not-forbidden (λ w. ⊎_elim right-root right-nodes w) f) breaks

  -- A body that is that of a checkpoint of what is before it has no content of an entry.
  checkpoint-unbroken : (body : List ℕ) (block : ℕ) → IsCheckpointBody log body → BreaksBody image limit log body block → ⊥
  checkpoint-unbroken body block is breaks =
      let number = log.entries + 1 in
      ⊎_elim
      (λ (n : IsNoNextBody log body block). n.no_checkpoint is)
      (λ f. ⊎_elim (λ (x : IsForbiddenBody (λ e root. FitsRoll log.roll e) log body block). marks-apart log number x.entry x.root x.nodes body x.content is) (λ w. ⊎_elim (λ (x : HasWrongRoot (λ e root. FitsRoll log.roll e) image limit log body block). marks-apart log number x.entry x.root x.nodes body x.content is) (λ (x : HasWrongNode (λ e root. FitsRoll log.roll e) image limit log body block). marks-apart log number x.entry x.root x.nodes body x.content is) w) f)
      breaks

-- ---- an extent

module _ (image : Image) (gate : ℕ) (body : List ℕ) (head : Head) (extent : IsExtent image gate body head) where
  head-stands : Has image (4096 * (gate + 1)) (head_bytes head)
  head-stands =
      subst (Has image (4096 * (gate + 1))) extent.is_body.spells.spelling (Has-take image (4096 * (gate + 1)) 64 body extent.stored)

  -- The head in the image is the body's.
  one-head : (other : Head) → SpellsAt image (gate + 1) other → other ≡ head
  one-head other at =
      head_bytes-one other head at.is_head extent.is_body.spells.is_head
      (Has-one image (4096 * (gate + 1)) (head_bytes other) (head_bytes head) (length-head_bytes other ∙ sym (length-head_bytes head)) at.stored head-stands)

  has-room : (blocks : ℕ) (other : Head) → gate + need body < blocks → SpellsAt image (gate + 1) other → blocks ≤ gate + other.n + 1 → ⊥
  has-room blocks other inside at much =
      let n : other.n ≡ head.n = ap (λ (h : Head). h.n) (one-head other at) in
      omega (arith, n, much, inside, IsBody-blocks body head extent.is_body)

  -- The bytes in the image are one body.
  pub one-body : (other : List ℕ) (h : Head) → IsExtent image gate other h → other ≡ body
  one-body other h at =
      IsBody-one image (4096 * (gate + 1)) other body h head at.is_body extent.is_body at.stored extent.stored

  -- It has one head.
  pub head-of-body : (other : List ℕ) (h : Head) → IsExtent image gate other h → h ≡ head
  head-of-body other h at =
      Spells-one (take 64 body) h head (subst (λ b. Spells (take 64 b) h) (one-body other h at) at.is_body.spells) extent.is_body.spells

  -- The extent, inside these blocks, is not damaged itself.
  pub extent-unbroken : (blocks block : ℕ) → gate + need body < blocks → IsDamagedExtent image blocks gate block → ⊥
  extent-unbroken blocks block inside damaged =
      ⊎_elim
      (λ end. let at = end.0 in omega (arith, at, inside))
      (λ cause. ⊎_elim (λ none. none head (record { is_head = extent.is_body.spells.is_head; stored = head-stands })) (λ much. has-room blocks much.0 inside much.1 much.2) cause.2)
      damaged.damage

-- A gate that is damaged is open.
pub gate-open : (image : Image) (s : Super) (gate block : ℕ) → IsDamagedGate image s gate block → IsOpen image gate
gate-open image s gate block damage =
    ⊎_elim (λ (t : IsOpenTail image s gate block). t.is_open) (λ (d : (has_seal s ≡ false) × IsDamagedExtent image s.blocks gate block). d.1.is_open) damage

-- So is one at which a log is damaged.
pub next-open : (image : Image) (s : Super) (log : Reached) (block : ℕ) → IsDamagedNext image s log block → IsOpen image log.gate
next-open image s log block damage =
    ⊎_elim (gate-open image s log.gate block) (λ (b : IsBrokenExtent (λ e root. FitsRoll log.roll e) image s log block). b.extent.is_open) damage

-- In a store that is not sealed the gate of an extent inside the blocks of the store is not damaged.
gate-undamaged : (image : Image) (s : Super) (gate block : ℕ) (body : List ℕ) (head : Head) → has_seal s ≡ false → IsExtent image gate body head → gate + need body < s.blocks → IsDamagedGate image s gate block → ⊥
gate-undamaged image s gate block body head unsealed extent inside damage =
    ⊎_elim
    (λ (t : IsOpenTail image s gate block). false≢true (sym unsealed ∙ t.sealed))
    (λ (d : (has_seal s ≡ false) × IsDamagedExtent image s.blocks gate block). extent-unbroken image gate body head extent s.blocks block inside d.1)
    damage

-- In a store that is not sealed an extent of a log, inside the blocks of the store, that may stand under the superblock is damaged only if
-- its body breaks the format.
extent-undamaged : (image : Image) (s : Super) (block : ℕ) (log : Reached) (body : List ℕ) (head : Head) → has_seal s ≡ false → (BreaksBody image s.checkpoint log body block → ⊥) → IsExtent image log.gate body head → MayStandUnder s.format body → log.gate + need body < s.blocks → IsDamagedNext image s log block → ⊥
extent-undamaged image s block log body head unsealed unbroken extent under inside damage =
    ⊎_elim
    (gate-undamaged image s log.gate block body head unsealed extent inside)
    (λ (b : IsBrokenExtent (λ e root. FitsRoll log.roll e) image s log block).
    let same = one-body image log.gate body head extent b.body b.head b.extent in
    let heads = head-of-body image log.gate body head extent b.body b.head b.extent in
    ⊎_elim
    (λ above. above.0 (subst (MayHeadStand s.format) (sym heads) (head-may s.format body head extent.is_body under)))
    (λ breaks. unbroken (subst (λ c. BreaksBody image s.checkpoint log c block) same breaks.1))
    b.breaks)
    damage

module _ (image : Image) (s : Super) (block : ℕ) (below : Pages) (stand : StandBelow image s.checkpoint below) (log : Reached) (body : List ℕ) (head : Head) (extent : IsExtent image log.gate body head) (under : MayStandUnder s.format body) (inside : log.gate + need body < s.blocks) (unsealed : has_seal s ≡ false) where
  -- The extent of the next entry is not damaged.
  pub entry-undamaged : (e : Entry) (root : ℕ) (pages : List NodePage) → s.blocks ≤ 2 ^ 64 → log.entries + 1 < 2 ^ 64 → IsNextBody (with_below s.checkpoint below log) e root pages body → IsDamagedNext image s log block → ⊥
  entry-undamaged e root pages limit few is damage =
      extent-undamaged image s block log body head unsealed (body-unbroken image s.checkpoint below stand log e root pages body block few (omega (arith, limit, inside)) is) extent under inside damage

  -- The extent of a checkpoint of what is before it is not damaged.
  pub checkpoint-undamaged : IsCheckpointBody log body → IsDamagedNext image s log block → ⊥
  checkpoint-undamaged is damage =
      extent-undamaged image s block log body head unsealed (checkpoint-unbroken image s.checkpoint below stand log body block is) extent under inside damage
