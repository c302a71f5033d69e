-- Lemmas on blocks that are read as pages: their bytes are those of one list of pages, and blocks are added one at a time.
use Rattle.std.specs.Prelude.{◌≡◌, ◌⊎◌, ℕ, ◌+◌, ◌*◌, ◌<◌, ◌≤◌, List, [], ◌∷◌, ◌++◌, length, take, codes, slice_get, Some, None, IfSome, IsSome}
use Rattle.std.specs.List.{flat_map, AllByRecursion}
use Rattle.std.proofs.Common.{refl, sym, ◌∙◌, ap, subst, arith, inl, inr, length-append}
use Rattle.std.proofs.Math.Seq.{take-add}
use Rattle.std.proofs.lemmas.Bool.{cases_lt}
use Rattle.std.proofs.lemmas.Grind.{flat_map-append}
use Rattle.std.proofs.lemmas.List.{append-nil, take_all}
use Rattle.std.proofs.lemmas.List.Concat.{flat_map-cons}
use Rattle.std.proofs.lemmas.Option.{slice_get_past}
use Rattle.btr_base.specs.declared.point.Point.{Point}
use Rattle.btr_base.proofs.ListLemmas.{each-append, each-weaker}
use Rattle.btr_node.specs.Page.{header, header_bytes, point_bytes, slot_bytes, page_bytes, number, zeros, Fits}
use Rattle.btr_node.specs.declared.page.PageHeader.{PageHeader}
use Rattle.btr_node.specs.declared.page.NodePage.{NodePage}
use Rattle.btr_node.specs.declared.page.NodePage.TheVariants.{Leaf, Inner}
use Rattle.btr_node.specs.declared.page.PageSlot.{PageSlot}
use Rattle.btr_node.proofs.PageLemmas.{page-once}
use Rattle.btr_tree.specs.PageNodes.{Pages}
use Rattle.btr_pages.specs.Pages.{with_pages, IsPageAt}
use Rattle.btr_pages.specs.Known.{TreesValue, AreKnown}
use Rattle.btr_pages.specs.Blocks.{block_of_bytes, AreAmong, AreAdded, AllWereAdded, IsNoPage, IsWrongPage, IsDamagedBlock}
use Rattle.btr_pages.specs.Made.{IsAddedPage, IsDamagedPage}
use Rattle.btr_pages.proofs.KnownLemmas.{IsAbove, pages-below, pages-from, knows-all}
use Rattle.btr_pages.proofs.PageOfLemmas.{HasPlaces, fits-places}
use Rattle.btr_pages.proofs.PagesLemmas.{get-before, get-after, known-same, pages-more, right-none, right-more}

-- If two lists are equal and their first parts have the same length, their parts are equal.
pub parts-one : (a b x y : List ℕ) → length a ≡ length b → a ++ x ≡ b ++ y → (a ≡ b) × (x ≡ y)
parts-one [] [] x y size same = (refl, same)
parts-one [] (d ∷ b) x y size same = absurd (omega arith)
parts-one (c ∷ a) [] x y size same = absurd (omega arith)
parts-one (c ∷ a) (d ∷ b) x y size same =
    let tails : a ++ x ≡ b ++ y = cc in
    let rest = parts-one a b x y (omega arith) tails in
    let heads : c ≡ d = cc in
    let prefixes : a ≡ b = rest.0 in
    (cc, rest.1)

-- ---- the length of a page

length-header : (f : PageHeader) → length (header_bytes f) ≡ 56
unfolding header_bytes number zeros
length-header f = refl

length-point : (p : Point) → length (point_bytes p) ≡ 16
unfolding point_bytes number
length-point p = refl

length-slot : (s : PageSlot) → length (slot_bytes s) ≡ 56
unfolding slot_bytes number
length-slot s = refl

length-points : (ps : List Point) → length (flat_map point_bytes ps) ≡ 16 * length ps
length-points [] = refl
length-points (p ∷ ps) =
    omega (arith, ap (length {A = ℕ}) (flat_map-cons point_bytes p ps), length-append (point_bytes p) (flat_map point_bytes ps), length-point p, length-points ps)

length-slots : (ss : List PageSlot) → length (flat_map slot_bytes ss) ≡ 56 * length ss
length-slots [] = refl
length-slots (s ∷ ss) =
    omega (arith, ap (length {A = ℕ}) (flat_map-cons slot_bytes s ss), length-append (slot_bytes s) (flat_map slot_bytes ss), length-slot s, length-slots ss)

length-rest : length (zeros 448) ≡ 448
unfolding zeros
length-rest = refl

pub length-page : (p : NodePage) → HasPlaces p → length (page_bytes p) ≡ 4096
unfolding page_bytes
length-page (Leaf start height stream version count points) fits =
    let f : PageHeader = header (Leaf start height stream version count points) in
    let all : length points ≡ 252 = fits in
    omega (arith, length-append (codes "BTR-LEAF" ++ header_bytes f) (flat_map point_bytes points), length-append (codes "BTR-LEAF") (header_bytes f), length-header f, length-points points)
length-page (Inner start height stream version count slots) fits =
    let f : PageHeader = header (Inner start height stream version count slots) in
    let all : length slots ≡ 64 = fits in
    omega (arith, length-append (codes "BTR-NODE" ++ header_bytes f ++ flat_map slot_bytes slots) (zeros 448), length-append (codes "BTR-NODE" ++ header_bytes f) (flat_map slot_bytes slots), length-append (codes "BTR-NODE") (header_bytes f), length-header f, length-slots slots, length-rest)

-- ---- pages

-- Pages whose numbers fit have all their places.
pub each-places : (pages : List NodePage) → AllByRecursion Fits pages → AllByRecursion HasPlaces pages
each-places pages fits = each-weaker Fits HasPlaces fits-places pages fits

pub length-pages : (pages : List NodePage) → AllByRecursion HasPlaces pages → length (flat_map page_bytes pages) ≡ 4096 * length pages
length-pages [] fits = refl
length-pages (p ∷ pages) fits =
    omega (arith, ap (length {A = ℕ}) (flat_map-cons page_bytes p pages), length-append (page_bytes p) (flat_map page_bytes pages), length-page p fits.0, length-pages pages fits.1)

-- The bytes of a page are a block.
pub one-block : (page : NodePage) → Fits page → length (page_bytes page) ≡ 4096
one-block page fits =
    ap (λ (xs : List ℕ). length xs) (sym (append-nil (page_bytes page)) ∙ sym (flat_map-cons page_bytes page []))
    ∙ length-pages (page ∷ []) (each-places (page ∷ []) (fits, tt))

-- No two lists of pages have the same bytes.
pub pages-one : (pages others : List NodePage) → AllByRecursion Fits pages → AllByRecursion Fits others → flat_map page_bytes pages ≡ flat_map page_bytes others → pages ≡ others
pages-one [] [] fits fit same = refl
pages-one [] (q ∷ others) fits fit same =
    absurd (omega (arith, ap (length {A = ℕ}) same, length-pages (q ∷ others) (each-places (q ∷ others) fit)))
pages-one (p ∷ pages) [] fits fit same =
    absurd (omega (arith, ap (length {A = ℕ}) same, length-pages (p ∷ pages) (each-places (p ∷ pages) fits)))
pages-one (p ∷ pages) (q ∷ others) fits fit same =
    let both : page_bytes p ++ flat_map page_bytes pages ≡ page_bytes q ++ flat_map page_bytes others = sym (flat_map-cons page_bytes p pages) ∙ same ∙ flat_map-cons page_bytes q others in
    let parts = parts-one (page_bytes p) (page_bytes q) (flat_map page_bytes pages) (flat_map page_bytes others) (length-page p (fits-places p fits.0) ∙ sym (length-page q (fits-places q fit.0))) both in
    let first = page-once p q fits.0 fit.0 parts.0 in
    let rest = pages-one pages others fits.1 fit.1 parts.1 in
    λ i. first i ∷ rest i

-- ---- blocks, one at a time

-- Where no tree is of a block or of one above, no page is there.
no-page : (pages : Pages) (nodes : TreesValue) (first b : ℕ) → AreKnown pages nodes → IsAbove first nodes → first ≤ b → pages b ≡ None
no-page pages nodes first b are above le =
    elim (pages b) as (λ o. pages b ≡ o → o ≡ None) [
      | None ↦ λ e. refl
      | Some page ↦ λ e. (let less = above b (are.all b (subst IsSome (sym e) refl)) in absurd (omega arith))
    ] refl

with-none : (pages : Pages) (nodes : TreesValue) (first b : ℕ) → AreKnown pages nodes → IsAbove first nodes → with_pages pages first [] b ≡ pages b
with-none pages nodes first b are above =
    elim (cases_lt b first) [
      | inl less ↦ pages-below pages first b [] less
      | inr from ↦ pages-from pages first b [] from ∙ sym (no-page pages nodes first b are above from)
    ]

pub added-none : (nodes : TreesValue) (first : ℕ) (bytes : List ℕ) → IsAbove first nodes → AreAdded nodes nodes first (take 0 bytes) []
added-none nodes first bytes above =
    record {
      bytes_are = refl;
      fit = tt;
      stand = λ pages are. right-none pages first;
      known = λ pages are. known-same pages (with_pages pages first []) nodes (λ b. with-none pages nodes first b are above) are;
      part = λ pages are among. are;
    }

-- The pages that were added are as many as the blocks.
pub added-length : (old new : TreesValue) (first n : ℕ) (bytes : List ℕ) (added : List NodePage) → AreAdded old new first bytes added → length bytes ≡ 4096 * n → length added ≡ n
added-length old new first n bytes added are size =
    let long = ap (λ (xs : List ℕ). length xs) are.bytes_are in
    omega (arith, long, size, length-pages added (each-places added are.fit))

-- The bytes of one page more.
bytes-more : (i : ℕ) (bytes : List ℕ) (added : List NodePage) (page : NodePage) → take (4096 * i) bytes ≡ flat_map page_bytes added → block_of_bytes bytes i ≡ page_bytes page → take (4096 * (i + 1)) bytes ≡ flat_map page_bytes (added ++ page ∷ [])
bytes-more i bytes added page is here =
    let n : 4096 * (i + 1) ≡ 4096 * i + 4096 = omega arith in
    ap (λ k. take k bytes) n
    ∙ take-add (4096 * i) 4096 bytes
    ∙ ap (λ xs. xs ++ block_of_bytes bytes i) is
    ∙ ap (λ xs. flat_map page_bytes added ++ xs) (here ∙ sym (append-nil (page_bytes page)) ∙ sym (flat_map-cons page_bytes page []))
    ∙ sym (flat_map-append page_bytes added (page ∷ []))

-- Of pages that are among others, those before the last are.
among-before : (pages : Pages) (first : ℕ) (added : List NodePage) (page : NodePage) → AreAmong pages first (added ++ page ∷ []) → AreAmong pages first added
among-before pages first added page among i =
    elim (cases_lt i (length added)) [
      | inl less ↦ subst (λ o. IfSome o (λ p. pages (first + i) ≡ Some p)) (get-before added (page ∷ []) i less) (among i)
      | inr le ↦ subst (λ o. IfSome o (λ p. pages (first + i) ≡ Some p)) (sym (slice_get_past added i (omega arith))) tt
    ]

-- The last of them is in its block.
among-last : (pages : Pages) (first i : ℕ) (added : List NodePage) (page : NodePage) → length added ≡ i → AreAmong pages first (added ++ page ∷ []) → pages (first + i) ≡ Some page
among-last pages first i added page n among =
    let at : slice_get (added ++ page ∷ []) i ≡ Some page = ap (slice_get (added ++ page ∷ [])) (let e : i ≡ length added + 0 = omega arith in e) ∙ get-after added (page ∷ []) 0 in
    subst (λ o. IfSome o (λ p. pages (first + i) ≡ Some p)) at (among i)

pub added-more : (old mid new : TreesValue) (first i : ℕ) (bytes : List ℕ) (added : List NodePage) → AreAdded old mid first (take (4096 * i) bytes) added → length added ≡ i → IsAbove (first + i) mid → (here : IsAddedPage mid new (first + i) (block_of_bytes bytes i)) → AreAdded old new first (take (4096 * (i + 1)) bytes) (added ++ here.page ∷ [])
added-more old mid new first i bytes added are n above here =
    let page = here.page in
    record {
      bytes_are = bytes-more i bytes added page are.bytes_are here.spells.bytes_are;
      fit = each-append Fits added (page ∷ []) are.fit (here.fits, tt);
      stand = λ pages known.
          right-more pages first added page (are.stand pages known) (subst (λ k. IsPageAt (with_pages pages first added) (first + k) page) (sym n) (here.added.rightly (with_pages pages first added) (are.known pages known).each));
      known = λ pages known.
          let with = with_pages pages first added in
          known-same (with_pages with (first + length added) (page ∷ [])) (with_pages pages first (added ++ page ∷ [])) new (λ b. sym (pages-more pages first added page b)) (subst (λ k. AreKnown (with_pages with (first + k) (page ∷ [])) new) (sym n) (here.added.known with (are.known pages known) above));
      part = λ pages old_are among.
          here.added.part pages (are.part pages old_are (among-before pages first added page among)) (among-last pages first i added page n among);
    }

-- ---- a damaged block

damaged-here : (old mid : TreesValue) (first i : ℕ) (bytes : List ℕ) (added : List NodePage) → AreAdded old mid first (take (4096 * i) bytes) added → IsDamagedPage mid (first + i) (block_of_bytes bytes i) → IsNoPage (block_of_bytes bytes i) ⊎ IsWrongPage old first added (first + i) (block_of_bytes bytes i)
damaged-here old mid first i bytes added are (inl none) = inl none
damaged-here old mid first i bytes added are (inr here) =
    inr (record {
      page = here.page;
      fits = here.fits;
      spells = here.spells;
      wrong = λ pages known.
          let with = with_pages pages first added in
          here.wrong with (are.known pages known).each (knows-all with mid here.page (are.known pages known));
    })

pub damaged-block : (old mid : TreesValue) (first i : ℕ) (bytes : List ℕ) (added : List NodePage) → AreAdded old mid first (take (4096 * i) bytes) added → length added ≡ i → 4096 * i < length bytes → IsDamagedPage mid (first + i) (block_of_bytes bytes i) → IsDamagedBlock old mid first bytes (first + i)
damaged-block old mid first i bytes added are n lt here =
    record {
      before = added;
      within = omega (arith, n, lt);
      is = ap (λ k. first + k) (sym n);
      added = subst (λ k. AreAdded old mid first (take (4096 * k) bytes) added) (sym n) are;
      damaged = subst (λ k. IsNoPage (block_of_bytes bytes k) ⊎ IsWrongPage old first added (first + i) (block_of_bytes bytes k)) (sym n) (damaged-here old mid first i bytes added are here);
    }

-- ---- the blocks so far

-- The first i blocks were added.
pub record AreAddedTo (i : ℕ) (old new : TreesValue) (first : ℕ) (bytes : List ℕ) : Type 0 where
  pub added : List NodePage
  pub number : length added ≡ i
  pub are : AreAdded old new first (take (4096 * i) bytes) added
  pub above : IsAbove (first + i) new

pub to-none : (nodes : TreesValue) (first : ℕ) (bytes : List ℕ) → IsAbove first nodes → AreAddedTo 0 nodes nodes first bytes
to-none nodes first bytes above =
    let same : first ≡ first + 0 = omega arith in
    record { added = []; number = refl; are = added-none nodes first bytes above; above = subst (λ b. IsAbove b nodes) same above }

length-last : (xs : List NodePage) (x : NodePage) → length (xs ++ x ∷ []) ≡ length xs + 1
length-last xs x = length-append xs (x ∷ [])

pub to-more : (old mid new : TreesValue) (first i : ℕ) (bytes : List ℕ) → AreAddedTo i old mid first bytes → IsAddedPage mid new (first + i) (block_of_bytes bytes i) → IsAbove (first + i + 1) new → AreAddedTo (i + 1) old new first bytes
to-more old mid new first i bytes to here above =
    let up : first + i + 1 ≡ first + (i + 1) = omega arith in
    record {
      added = to.added ++ here.page ∷ [];
      number = omega (arith, length-last to.added here.page, to.number);
      are = added-more old mid new first i bytes to.added to.are to.number to.above here;
      above = subst (λ b. IsAbove b new) up above;
    }

pub to-all : (old new : TreesValue) (first i : ℕ) (bytes : List ℕ) → AreAddedTo i old new first bytes → length bytes ≤ 4096 * i → AllWereAdded old new first bytes
to-all old new first i bytes to le =
    (to.added, subst (λ xs. AreAdded old new first xs to.added) (take_all (4096 * i) bytes le) to.are)
