-- A body of a log that is read from its first gate: if it may follow by a rule it breaks the format nowhere, and at most one block of it is the
-- first one that does. So is it with the extent at a gate.
use Rattle.std.specs.Prelude.{◌≡◌, ◌⊎◌, ℕ, ◌+◌, ◌-◌, ◌*◌, ◌<◌, ◌≤◌, ◌^◌, List, ◌∷◌, ◌++◌, length, take, drop}
use Rattle.std.specs.List.{flat_map}
use Rattle.std.proofs.Common.{refl, sym, ◌∙◌, ap, subst, inl, inr, arith, ⊎_elim}
use Rattle.std.proofs.Math.Seq.{take-add}
use Rattle.std.proofs.lemmas.Bool.{cases_lt, false≢true}
use Rattle.std.proofs.lemmas.List.{take_at, drop-take, length-take-le, length-drop}
use Rattle.btr_disk.specs.Bytes.{Image}
use Rattle.btr_disk.specs.Gate.{IsOpen}
use Rattle.btr_log.specs.declared.head.Head.{Head}
use Rattle.btr_log.specs.Extents.{need}
use Rattle.btr_log.specs.Found.{IsDamagedExtent}
use Rattle.btr_super.specs.declared.superblock.Super.{Super}
use Rattle.btr_node.specs.Page.{page_bytes, Fits}
use Rattle.btr_node.specs.declared.page.NodePage.{NodePage}
use Rattle.btr_node.proofs.PageLemmas.{page-once}
use Rattle.btr_tree.specs.PageNodes.{Pages}
use Rattle.btr_pages.specs.Pages.{with_pages, IsPageAt, ArePages}
use Rattle.btr_pages.specs.Blocks.{block_of_bytes, IsNoPage}
use Rattle.btr_pages.proofs.BlockLemmas.{length-pages, each-places}
use Rattle.btr_pages.proofs.PagesLemmas.{right-next}
use Rattle.btr_hist.specs.declared.entry.Entry.{Entry}
use Rattle.btr_hist.specs.declared.entry.Entry.TheVariants.{Create, Define, Commit, Distillate, Retire}
use Rattle.btr_engine.specs.Body.{first_page}
use Rattle.btr_open.specs.Content.{HasContent, MayHeadStand}
use Rattle.btr_open.specs.Reached.{Reached}
use Rattle.btr_open.specs.RootTest.{MayLeadIn, IsNamedBlock, IsNamedRoot}
use Rattle.btr_open.specs.Below.{StandBelow}
use Rattle.btr_open.specs.Walk.{IsNextBody, IsCheckpointBody, IsNoNextBody, IsOutOfPlace, pages_from}
use Rattle.btr_open.specs.Walk.{IsForbiddenBody, HasWrongRoot, HasWrongNode, BreaksBodyBy, IsDamagedGate, IsDamagedNextBy}
use Rattle.btr_open.proofs.FirstReading.{first-unsealed}
use Rattle.btr_open.proofs.BelowLemmas.{pages_joined-is}
use Rattle.btr_open.proofs.ContentLemmas.{content-one}
use Rattle.btr_open.proofs.RootLemmas.{may-lead-in, pages-keep}
use Rattle.btr_open.proofs.UniqueLemmas.{next-content, marks-apart}
use Rattle.btr_open.proofs.UnbrokenLemmas.{split, one-body, head-of-body, extent-unbroken}
use Rattle.btr_open.specs.Seen.{first_reading}

-- ---- the first bytes of the first bytes

first-of-first : (n m : ℕ) (xs : List ℕ) → n ≤ m → n ≤ length xs → take n (take m xs) ≡ take n xs
first-of-first n m xs le long =
    let e : m ≡ n + (m - n) = omega arith in
    ap (λ k. take n (take k xs)) e ∙ ap (take n) (take-add n (m - n) xs) ∙ take_at (take n xs) (take (m - n) (drop n xs)) n (length-take-le n xs long)

-- A block of the first blocks is that of all.
block-of-first : (n m : ℕ) (xs : List ℕ) → n < m → 4096 * m ≤ length xs → block_of_bytes (take (4096 * m) xs) n ≡ block_of_bytes xs n
block-of-first n m xs less long =
    let rest = 4096 * m - 4096 * n in
    let e : 4096 * m ≡ 4096 * n + rest = omega arith in
    ap (λ k. take 4096 (drop (4096 * n) (take k xs))) e
    ∙ ap (take 4096) (drop-take (4096 * n) rest xs)
    ∙ first-of-first 4096 rest (drop (4096 * n) xs) (omega (arith, less)) (omega (arith, less, long, length-drop (4096 * n) xs))

-- ---- a body

module _ (image : Image) (log : Reached) where
  -- Nothing is read below the first gate.
  pages-here : pages_from 0 log.pages log ≡ log.pages
  pages-here = pages_joined-is 0 log.pages log.pages (λ block le. refl)

  none-below : StandBelow image 0 log.pages
  none-below = λ block low. absurd (omega (arith, low))

  -- A block with a page that stands rightly is not damaged.
  not-damaged : (first block : ℕ) (new : List NodePage) (bytes : List ℕ) (page : NodePage) → Fits page → bytes ≡ page_bytes page → IsPageAt (with_pages log.pages first new) block page → IsNoPage bytes ⊎ IsOutOfPlace image 0 log first new block bytes → ⊥
  not-damaged first block new bytes page fits same stands damaged =
      ⊎_elim
      (λ none. none page fits (record { keeps = stands.keeps; bytes_are = same }))
      (λ (out : IsOutOfPlace image 0 log first new block bytes).
      let here = subst (IsPageAt (with_pages log.pages first new) block) (page-once page out.page fits out.fits (sym same ∙ out.spells.bytes_are)) stands in
      out.wrong log.pages none-below (subst (λ (ps : Pages). IsPageAt (with_pages ps first new) block out.page) (sym pages-here) here))
      damaged

module _ (May : Entry → ℕ → Type 0) (image : Image) (log : Reached) (body : List ℕ) (few : log.entries + 1 < 2 ^ 64) where
  abbrev number : ℕ
  number = log.entries + 1

  -- ---- a body that may follow

  module _ (e : Entry) (root : ℕ) (pages : List NodePage) (block : ℕ) (short : need body ≤ 2 ^ 64) (is : IsNextBody log e root pages body) (may : May e root) where
    abbrev nodes : List ℕ
    nodes = flat_map page_bytes pages

    content : HasContent number e root nodes body
    content = next-content log e root pages body is short

    one-content : (f : Entry) (r : ℕ) (y : List ℕ) → HasContent number f r y body → (e ≡ f) × (root ≡ r) × (nodes ≡ y)
    one-content f r y other = content-one number e f root r nodes y body (omega arith) few content other

    has-entry : IsNoNextBody log body block → ⊥
    has-entry n = n.no_entry e root nodes content

    not-forbidden : IsForbiddenBody May log body block → ⊥
    not-forbidden f =
        let same = one-content f.entry f.root f.nodes f.content in
        f.forbidden (subst {A = Entry × ℕ} (λ c. May c.0 c.1) (λ i. (same.0 i, same.1 i)) may)

    right-root : HasWrongRoot May image 0 log body block → ⊥
    right-root w =
        let same = one-content w.entry w.root w.nodes w.content in
        let lead = may-lead-in log.pages log.roll e (first_page log.gate e) root pages nodes refl is.fits (pages-keep log.pages (first_page log.gate e) pages is.rightly) is.may_lead in
        let there : MayLeadIn log.pages log.roll w.entry (first_page log.gate w.entry) w.nodes w.root = subst {A = Entry × ℕ × List ℕ} (λ c. MayLeadIn log.pages log.roll c.0 (first_page log.gate c.0) c.2 c.1) (λ i. (same.0 i, same.1 i, same.2 i)) lead in
        w.wrong log.pages (none-below image log) (subst (λ (ps : Pages). MayLeadIn ps log.roll w.entry (first_page log.gate w.entry) w.nodes w.root) (sym (pages-here image log)) there)

    right-nodes : HasWrongNode May image 0 log body block → ⊥
    right-nodes w =
        let same = one-content w.entry w.root w.nodes w.content in
        let first = first_page log.gate e in
        let there = first_page log.gate w.entry in
        let n = length w.before in
        let within : n < length pages = omega (arith, w.within, ap (length {A = ℕ}) same.2, length-pages pages (each-places pages is.fits)) in
        let start : take (4096 * n) nodes ≡ flat_map page_bytes w.before = ap (take (4096 * n)) same.2 ∙ w.bytes in
        let parts = split w.before pages w.fit is.fits within start in
        let here : block_of_bytes w.nodes n ≡ page_bytes parts.page = ap (λ xs. block_of_bytes xs n) (sym same.2) ∙ parts.block in
        let right : IsPageAt (with_pages log.pages first w.before) (first + n) parts.page = right-next log.pages first w.before parts.more parts.page (subst (ArePages log.pages first) {y = w.before ++ parts.page ∷ parts.more} parts.are is.rightly) in
        let firsts : first ≡ there = ap (first_page log.gate) same.0 in
        let at : first + n ≡ block = ap (λ b. b + n) firsts ∙ sym w.next in
        let stands : IsPageAt (with_pages log.pages there w.before) block parts.page = subst {A = ℕ × ℕ} (λ c. IsPageAt (with_pages log.pages c.0 w.before) c.1 parts.page) (λ i. (firsts i, at i)) right in
        not-damaged image log there block w.before (block_of_bytes w.nodes n) parts.page parts.fits here stands w.damaged

    -- The body of an entry that may follow breaks the format nowhere.
    pub entry-unbroken : BreaksBodyBy May image 0 log body block → ⊥
    entry-unbroken breaks =
        ⊎_elim has-entry (λ f. ⊎_elim not-forbidden (λ w. ⊎_elim right-root right-nodes w) f) breaks

  -- Neither does that of a checkpoint of what is before it.
  pub mark-unbroken : (block : ℕ) → IsCheckpointBody log body → BreaksBodyBy May image 0 log body block → ⊥
  mark-unbroken block is breaks =
      ⊎_elim
      (λ (n : IsNoNextBody log body block). n.no_checkpoint is)
      (λ f. ⊎_elim (λ (x : IsForbiddenBody May log body block). marks-apart log number x.entry x.root x.nodes body x.content is) (λ w. ⊎_elim (λ (x : HasWrongRoot May image 0 log body block). marks-apart log number x.entry x.root x.nodes body x.content is) (λ (x : HasWrongNode May image 0 log body block). marks-apart log number x.entry x.root x.nodes body x.content is) w) f)
      breaks

  -- ---- the first block that breaks the format

  -- A body has one content.
  one : (e f : Entry) (q r : ℕ) (x y : List ℕ) → HasContent number e q x body → HasContent number f r y body → (e ≡ f) × (q ≡ r) × (x ≡ y)
  one e f q r x y is is_too = content-one number e f q r x y body (omega arith) few is is_too

  one-named : (gate first : ℕ) (blocks : List ℕ) (root a b : ℕ) → IsNamedBlock gate first blocks root a → IsNamedBlock gate first blocks root b → a ≡ b
  one-named gate first blocks root a b (inl x) (inl y) = x.1 ∙ sym y.1
  one-named gate first blocks root a b (inl x) (inr y) = absurd (y.0 x.0)
  one-named gate first blocks root a b (inr x) (inl y) = absurd (x.0 y.0)
  one-named gate first blocks root a b (inr x) (inr y) = x.1 ∙ sym y.1

  one-root : (gate : ℕ) (e : Entry) (first : ℕ) (blocks : List ℕ) (root a b : ℕ) → IsNamedRoot gate e first blocks root a → IsNamedRoot gate e first blocks root b → a ≡ b
  one-root gate (Create id) first blocks root a b x y = x ∙ sym y
  one-root gate (Define id spec) first blocks root a b x y = x ∙ sym y
  one-root gate (Retire stream least) first blocks root a b x y = x ∙ sym y
  one-root gate (Commit stream cut added) first blocks root a b x y = one-named gate first blocks root a b x y
  one-root gate (Distillate stream cut added reads) first blocks root a b x y = one-named gate first blocks root a b x y

  two-roots : (a b : ℕ) → HasWrongRoot May image 0 log body a → HasWrongRoot May image 0 log body b → a ≡ b
  two-roots a b x y =
      let same = one x.entry y.entry x.root y.root x.nodes y.nodes x.content y.content in
      let here : IsNamedRoot log.gate y.entry (first_page log.gate y.entry) y.nodes y.root a = subst {A = Entry × ℕ × List ℕ} (λ c. IsNamedRoot log.gate c.0 (first_page log.gate c.0) c.2 c.1 a) (λ i. (same.0 i, same.1 i, same.2 i)) x.named in
      one-root log.gate y.entry (first_page log.gate y.entry) y.nodes y.root a b here y.named

  -- A body whose root is wrong has not its first wrong block among its nodes.
  root-and-node : (a b : ℕ) → HasWrongRoot May image 0 log body a → HasWrongNode May image 0 log body b → ⊥
  root-and-node a b x y =
      let same = one y.entry x.entry y.root x.root y.nodes x.nodes y.content x.content in
      let there : MayLeadIn log.pages log.roll x.entry (first_page log.gate x.entry) x.nodes x.root = subst {A = Entry × ℕ × List ℕ} (λ c. MayLeadIn log.pages log.roll c.0 (first_page log.gate c.0) c.2 c.1) (λ i. (same.0 i, same.1 i, same.2 i)) y.right in
      x.wrong log.pages (none-below image log) (subst (λ (ps : Pages). MayLeadIn ps log.roll x.entry (first_page log.gate x.entry) x.nodes x.root) (sym (pages-here image log)) there)

  -- A node block that is damaged has not after it more that stand rightly.
  no-further : (a b : ℕ) (x : HasWrongNode May image 0 log body a) (y : HasWrongNode May image 0 log body b) → length x.before < length y.before → ⊥
  no-further a b x y less =
      let same = one x.entry y.entry x.root y.root x.nodes y.nodes x.content y.content in
      let n = length x.before in
      let m = length y.before in
      let long : 4096 * m ≤ length y.nodes = omega (arith, y.within) in
      let start : take (4096 * n) (flat_map page_bytes y.before) ≡ flat_map page_bytes x.before =
      ap (take (4096 * n)) (sym y.bytes) ∙ first-of-first (4096 * n) (4096 * m) y.nodes (omega (arith, less)) (omega (arith, less, long)) ∙ ap (take (4096 * n)) (sym same.2) ∙ x.bytes in
      let parts = split x.before y.before x.fit y.fit less start in
      let here : block_of_bytes x.nodes n ≡ page_bytes parts.page =
      ap (λ xs. block_of_bytes xs n) same.2 ∙ sym (block-of-first n m y.nodes less long) ∙ ap (λ xs. block_of_bytes xs n) y.bytes ∙ parts.block in
      let first = first_page log.gate y.entry in
      let there = first_page log.gate x.entry in
      let right : IsPageAt (with_pages log.pages first x.before) (first + n) parts.page = right-next log.pages first x.before parts.more parts.page (subst (ArePages log.pages first) {y = x.before ++ parts.page ∷ parts.more} parts.are y.stand) in
      let firsts : first ≡ there = ap (first_page log.gate) (sym same.0) in
      let at : first + n ≡ a = ap (λ k. k + n) firsts ∙ sym x.next in
      let stands : IsPageAt (with_pages log.pages there x.before) a parts.page = subst {A = ℕ × ℕ} (λ c. IsPageAt (with_pages log.pages c.0 x.before) c.1 parts.page) (λ i. (firsts i, at i)) right in
      not-damaged image log there a x.before (block_of_bytes x.nodes n) parts.page parts.fits here stands x.damaged

  two-nodes : (a b : ℕ) → HasWrongNode May image 0 log body a → HasWrongNode May image 0 log body b → a ≡ b
  two-nodes a b x y =
      let same = one x.entry y.entry x.root y.root x.nodes y.nodes x.content y.content in
      elim (cases_lt (length x.before) (length y.before)) [
        | inl less ↦ absurd (no-further a b x y less)
        | inr le ↦ elim (cases_lt (length y.before) (length x.before)) [
          | inl less ↦ absurd (no-further b a y x less)
          | inr ge ↦
              let count : length x.before ≡ length y.before = omega arith in
              x.next ∙ (λ i. first_page log.gate (same.0 i) + count i) ∙ sym y.next
        ]
      ]

  -- An entry that may not follow is not one that may.
  forbids : (f : Entry) (r : ℕ) (nodes : List ℕ) (a : ℕ) → IsForbiddenBody May log body a → HasContent number f r nodes body → May f r → ⊥
  forbids f r nodes a x has may =
      let same = one f x.entry r x.root nodes x.nodes has x.content in
      x.forbidden (subst {A = Entry × ℕ} (λ c. May c.0 c.1) (λ i. (same.0 i, same.1 i)) may)

  two-entries : (a b : ℕ) → HasWrongRoot May image 0 log body a ⊎ HasWrongNode May image 0 log body a → HasWrongRoot May image 0 log body b ⊎ HasWrongNode May image 0 log body b → a ≡ b
  two-entries a b (inl x) (inl y) = two-roots a b x y
  two-entries a b (inl x) (inr y) = absurd (root-and-node a b x y)
  two-entries a b (inr x) (inl y) = absurd (root-and-node b a y x)
  two-entries a b (inr x) (inr y) = two-nodes a b x y

  forbidden-not : (a b : ℕ) → IsForbiddenBody May log body a → HasWrongRoot May image 0 log body b ⊎ HasWrongNode May image 0 log body b → ⊥
  forbidden-not a b x (inl y) = forbids y.entry y.root y.nodes a x y.content y.allowed
  forbidden-not a b x (inr y) = forbids y.entry y.root y.nodes a x y.content y.allowed

  two-contents : (a b : ℕ) → IsForbiddenBody May log body a ⊎ (HasWrongRoot May image 0 log body a ⊎ HasWrongNode May image 0 log body a) → IsForbiddenBody May log body b ⊎ (HasWrongRoot May image 0 log body b ⊎ HasWrongNode May image 0 log body b) → a ≡ b
  two-contents a b (inl x) (inl y) = x.first ∙ sym y.first
  two-contents a b (inl x) (inr y) = absurd (forbidden-not a b x y)
  two-contents a b (inr x) (inl y) = absurd (forbidden-not b a y x)
  two-contents a b (inr x) (inr y) = two-entries a b x y

  no-content : (a b : ℕ) → IsNoNextBody log body a → IsForbiddenBody May log body b ⊎ (HasWrongRoot May image 0 log body b ⊎ HasWrongNode May image 0 log body b) → ⊥
  no-content a b x (inl y) = x.no_entry y.entry y.root y.nodes y.content
  no-content a b x (inr (inl y)) = x.no_entry y.entry y.root y.nodes y.content
  no-content a b x (inr (inr y)) = x.no_entry y.entry y.root y.nodes y.content

  -- One block of a body is the first one that breaks the format.
  pub one-break : (a b : ℕ) → BreaksBodyBy May image 0 log body a → BreaksBodyBy May image 0 log body b → a ≡ b
  one-break a b (inl x) (inl y) = x.first ∙ sym y.first
  one-break a b (inl x) (inr y) = absurd (no-content a b x y)
  one-break a b (inr x) (inl y) = absurd (no-content b a y x)
  one-break a b (inr x) (inr y) = two-contents a b x y

-- ---- an extent

one-extent : (image : Image) (blocks gate a b : ℕ) → IsDamagedExtent image blocks gate a → IsDamagedExtent image blocks gate b → a ≡ b
one-extent image blocks gate a b x y =
    elim x.damage [
      | inl p ↦ elim y.damage [
        | inl q ↦ p.1 ∙ sym q.1
        | inr q ↦ absurd (omega (arith, p.0, q.0))
      ]
      | inr p ↦ elim y.damage [
        | inl q ↦ absurd (omega (arith, p.0, q.0))
        | inr q ↦ p.1 ∙ sym q.1
      ]
    ]

-- A whole log is read as that of a store that is not sealed. So a gate that is damaged has a damaged extent.
pub gate-extent : (image : Image) (s : Super) (gate block : ℕ) → IsDamagedGate image (first_reading s) gate block → IsDamagedExtent image s.blocks gate block
gate-extent image s gate block (inl t) = absurd (false≢true (sym (first-unsealed s) ∙ t.sealed))
gate-extent image s gate block (inr d) = d.1

module _ (May : Entry → ℕ → Type 0) (image : Image) (s : Super) (log : Reached) (few : log.entries + 1 < 2 ^ 64) where
  -- One block at a gate is the first one that breaks the format.
  pub one-next : (a b : ℕ) → IsDamagedNextBy May image (first_reading s) log a → IsDamagedNextBy May image (first_reading s) log b → a ≡ b
  one-next a b (inl x) (inl y) =
      one-extent image s.blocks log.gate a b (gate-extent image s log.gate a x) (gate-extent image s log.gate b y)
  one-next a b (inl x) (inr y) = absurd (extent-unbroken image log.gate y.body y.head y.extent s.blocks a y.inside (gate-extent image s log.gate a x))
  one-next a b (inr x) (inl y) = absurd (extent-unbroken image log.gate x.body x.head x.extent s.blocks b x.inside (gate-extent image s log.gate b y))
  one-next a b (inr x) (inr y) =
      let same = one-body image log.gate x.body x.head x.extent y.body y.head y.extent in
      let heads : y.head ≡ x.head = head-of-body image log.gate x.body x.head x.extent y.body y.head y.extent in
      let limit = (first_reading s).format in
      elim x.breaks [
        | inl p ↦ elim y.breaks [
          | inl q ↦ p.1 ∙ sym q.1
          | inr q ↦ absurd (p.0 (subst (MayHeadStand limit) heads q.0))
        ]
        | inr p ↦ elim y.breaks [
          | inl q ↦ absurd (q.0 (subst (MayHeadStand limit) (sym heads) p.0))
          | inr q ↦ one-break May image log x.body few a b p.1 (subst (λ c. BreaksBodyBy May image 0 log c b) same q.1)
        ]
      ]

-- The gate of an extent that breaks the format is open, and inside the store.
pub damaged-open : (May : Entry → ℕ → Type 0) (image : Image) (s : Super) (log : Reached) (block : ℕ) → IsDamagedNextBy May image (first_reading s) log block → IsOpen image log.gate × (log.gate < s.blocks)
damaged-open May image s log block (inl x) =
    let d = gate-extent image s log.gate block x in
    (d.is_open, elim d.damage [ inl p ↦ omega (arith, p.0) | inr p ↦ omega (arith, p.0) ])
damaged-open May image s log block (inr x) = (x.extent.is_open, omega (arith, x.inside))
