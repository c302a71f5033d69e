-- Lemmas on pages in blocks: no pages have no trees, and pages are added one at a time or several at once.
use Rattle.std.specs.Prelude.{◌≡◌, ℕ, ◌+◌, ◌-◌, ◌<◌, List, [], ◌∷◌, ◌++◌, length, slice_get, Option, Some, None, IfSome, IsSome}
use Rattle.std.specs.Option.{option_and_then}
use Rattle.std.proofs.Common.{zero, suc, refl, sym, ap, ◌∙◌, subst, arith, inl, inr}
use Rattle.std.proofs.lemmas.Bool.{cases_lt}
use Rattle.btr_tree.proofs.ReadLemmas.{read-along}
use Rattle.btr_node.specs.declared.page.NodePage.{NodePage}
use Rattle.btr_node.specs.declared.page.PageSlot.{PageSlot}
use Rattle.btr_node.specs.Page.{slots_of_page}
use Rattle.btr_tree.specs.PageNodes.{Pages, node_of_stream, nodes_in}
use Rattle.btr_pages.specs.Pages.{no_pages, with_pages, HasChildPage, IsPageAt, ArePages}
use Rattle.btr_pages.specs.Known.{KnownValue, TreesValue, node_at, IsKnown, AreKnown}
use Rattle.btr_pages.proofs.KnownLemmas.{pages-below, pages-from}

-- ---- no pages

pub known-none : AreKnown no_pages []
known-none = record { each = λ block. tt; all = λ block some. some }

-- ---- the same pages in all blocks

same-known : (pages more : Pages) → ((b : ℕ) → more b ≡ pages b) → (k : KnownValue) → IsKnown pages k → IsKnown more k
same-known pages more same k is =
    record {
      page = is.page;
      is = same k.block ∙ is.is;
      made = record {
        keeps = is.made.keeps;
        stream = is.made.stream;
        span = is.made.span;
        version = is.made.version;
        count = is.made.count;
        opened = is.made.opened;
        its_block = is.made.its_block;
        read =
            read-along (nodes_in pages k.stream) (nodes_in more k.stream) (λ b n at. ap (option_and_then (node_of_stream k.stream)) (same b) ∙ at) k.tree.span.height k.tree.span.start k.tree.node is.made.read;
      };
    }

same-at : (pages more : Pages) → ((b : ℕ) → more b ≡ pages b) → (o : Option KnownValue) → IfSome o (IsKnown pages) → IfSome o (IsKnown more)
same-at pages more same None is = is
same-at pages more same (Some k) is = same-known pages more same k is

-- Trees of pages are trees of the same pages.
pub known-same : (pages more : Pages) (nodes : TreesValue) → ((b : ℕ) → more b ≡ pages b) → AreKnown pages nodes → AreKnown more nodes
known-same pages more nodes same are =
    record {
      each = λ b. same-at pages more same (node_at nodes b) (are.each b);
      all = λ b some. are.all b (subst IsSome (same b) some);
    }

along-slot : (pages more : Pages) (block : ℕ) (page : NodePage) (i : ℕ) → ((b : ℕ) → b < block → more b ≡ pages b) → (o : Option PageSlot) → IfSome o (λ slot. 0 < slot.agg.count → HasChildPage pages block page i slot) → IfSome o (λ slot. 0 < slot.agg.count → HasChildPage more block page i slot)
along-slot pages more block page i same None has = has
along-slot pages more block page i same (Some slot) has = λ some.
    let child = has some in
    record { lower = child.lower; child = child.child; is = same slot.child child.lower ∙ child.is; fits = child.fits }

-- A page that stands rightly among pages stands rightly among others that are the same in lower blocks.
pub right-along : (pages more : Pages) (block : ℕ) (page : NodePage) → ((b : ℕ) → b < block → more b ≡ pages b) → IsPageAt pages block page → IsPageAt more block page
right-along pages more block page same right =
    record {
      keeps = right.keeps;
      children = λ i. along-slot pages more block page i same (slice_get (slots_of_page page) i) (right.children i);
    }

-- ---- one page more

pub get-before : (new more : List NodePage) (n : ℕ) → n < length new → slice_get (new ++ more) n ≡ slice_get new n
get-before [] more n lt = absurd (omega arith)
get-before (p ∷ ps) more zero lt = refl
get-before (p ∷ ps) more (suc n) lt = get-before ps more n (omega arith)

pub get-after : (new more : List NodePage) (n : ℕ) → slice_get (new ++ more) (length new + n) ≡ slice_get more n
get-after [] more n = ap (slice_get more) (let e : 0 + n ≡ n = omega arith in e)
get-after (p ∷ ps) more n =
    ap (slice_get (p ∷ ps ++ more)) (let e : suc (length ps) + n ≡ suc (length ps + n) = omega arith in e) ∙ get-after ps more n

-- Pages from a block on, and then one more after them, are these pages with the one more.
pub pages-more : (pages : Pages) (first : ℕ) (new : List NodePage) (page : NodePage) (c : ℕ) → with_pages (with_pages pages first new) (first + length new) (page ∷ []) c ≡ with_pages pages first (new ++ page ∷ []) c
pages-more pages first new page c =
    elim (cases_lt c (first + length new)) [
      | inl less ↦ pages-below (with_pages pages first new) (first + length new) c (page ∷ []) less ∙ elim (cases_lt c first) [
        | inl before ↦ pages-below pages first c new before ∙ sym (pages-below pages first c (new ++ page ∷ []) before)
        | inr from ↦ pages-from pages first c new from ∙ sym (get-before new (page ∷ []) (c - first) (omega arith)) ∙ sym (pages-from pages first c (new ++ page ∷ []) from)
      ]
      | inr le ↦
          let at : length new + (c - (first + length new)) ≡ c - first = omega arith in
          pages-from (with_pages pages first new) (first + length new) c (page ∷ []) le
          ∙ sym (get-after new (page ∷ []) (c - (first + length new)))
          ∙ ap (slice_get (new ++ page ∷ [])) at
          ∙ sym (pages-from pages first c (new ++ page ∷ []) (omega arith))
    ]

-- Below the block after pages, those that follow change nothing.
pub pages-before : (pages : Pages) (first : ℕ) (new more : List NodePage) (c : ℕ) → c < first + length new → with_pages pages first (new ++ more) c ≡ with_pages pages first new c
pages-before pages first new more c lt =
    elim (cases_lt c first) [
      | inl before ↦ pages-below pages first c (new ++ more) before ∙ sym (pages-below pages first c new before)
      | inr from ↦ pages-from pages first c (new ++ more) from ∙ get-before new more (c - first) (omega arith) ∙ sym (pages-from pages first c new from)
    ]

-- ---- pages that stand rightly, one after another

pub right-none : (pages : Pages) (first : ℕ) → ArePages pages first []
right-none pages first i = tt

right-at : (pages more : Pages) (block : ℕ) → ((b : ℕ) → b < block → more b ≡ pages b) → (o : Option NodePage) → IfSome o (IsPageAt pages block) → IfSome o (IsPageAt more block)
right-at pages more block same None is = is
right-at pages more block same (Some page) is = right-along pages more block page same is

right-last : (pages : Pages) (block : ℕ) (page : NodePage) (n : ℕ) → IsPageAt pages block page → IfSome (slice_get (page ∷ []) n) (IsPageAt pages (block + n))
right-last pages block page zero is = subst (λ b. IsPageAt pages b page) (let e : block ≡ block + 0 = omega arith in e) is
right-last pages block page (suc n) is = tt

-- One page more, after the others.
pub right-more : (pages : Pages) (first : ℕ) (new : List NodePage) (page : NodePage) → ArePages pages first new → IsPageAt (with_pages pages first new) (first + length new) page → ArePages pages first (new ++ page ∷ [])
right-more pages first new page are is i =
    let more = with_pages pages first (new ++ page ∷ []) in
    elim (cases_lt i (length new)) [
      | inl less ↦ subst (λ o. IfSome o (IsPageAt more (first + i))) (sym (get-before new (page ∷ []) i less)) (right-at (with_pages pages first new) more (first + i) (λ b lt. pages-before pages first new (page ∷ []) b (omega arith)) (slice_get new i) (are i))
      | inr le ↦
          let n = i - length new in
          let at : length new + n ≡ i = omega arith in
          let here = right-along (with_pages pages first new) more (first + length new) page (λ b lt. pages-before pages first new (page ∷ []) b lt) is in
          let block : first + length new + n ≡ first + i = omega arith in
          subst (λ k. IfSome (slice_get (new ++ page ∷ []) k) (IsPageAt more (first + i))) at (subst (λ o. IfSome o (IsPageAt more (first + i))) (sym (get-after new (page ∷ []) n)) (subst (λ b. IfSome (slice_get (page ∷ []) n) (IsPageAt more b)) block (right-last more (first + length new) page n here)))
    ]

-- Of pages that stand rightly, each stands rightly after those before it.
pub right-next : (pages : Pages) (first : ℕ) (new more : List NodePage) (page : NodePage) → ArePages pages first (new ++ page ∷ more) → IsPageAt (with_pages pages first new) (first + length new) page
right-next pages first new more page are =
    let at : slice_get (new ++ page ∷ more) (length new) ≡ Some page = ap (slice_get (new ++ page ∷ more)) (let e : length new ≡ length new + 0 = omega arith in e) ∙ get-after new (page ∷ more) 0 in
    let all = with_pages pages first (new ++ page ∷ more) in
    right-along all (with_pages pages first new) (first + length new) page (λ b lt. sym (pages-before pages first new (page ∷ more) b lt)) (subst (λ o. IfSome o (IsPageAt all (first + length new))) at (are (length new)))
