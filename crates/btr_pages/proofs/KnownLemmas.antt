-- Lemmas on trees that were made of pages: the trees with one more are those of the pages with one more.
use Rattle.std.specs.Prelude.{◌≡◌, ◌⊎◌, ℕ, ◌-◌, ◌<◌, ◌≤◌, nat_eq, nat_lt, ℤ, List, [], ◌∷◌, ◌++◌, length, take, map, get_or, slice_get, Option, Some, None, IfSome, IsSome, IsNone, option_map, cond, true, false}
use Rattle.std.specs.Option.{option_and_then}
use Rattle.std.specs.List.{AllByRecursion, sum_by}
use Rattle.std.proofs.Common.{zero, suc, refl, sym, ap, ◌∙◌, subst, arith, inl, inr}
use Rattle.std.proofs.lemmas.Bool.{cases_lt}
use Rattle.std.proofs.lemmas.Bool.Decides.{nat_tests}
use Rattle.std.proofs.lemmas.List.{length-take-le}
use Rattle.std.proofs.lemmas.Option.{slice_get-map}
use Rattle.btr_base.specs.declared.point.Point.{Point}
use Rattle.btr_base.specs.Agg.{AggValue}
use Rattle.btr_base.specs.Span.{SpanValue, slot_of}
use Rattle.btr_base.proofs.AggLemmas.{agg-count}
use Rattle.btr_tree.specs.declared.node.Link.{Link}
use Rattle.btr_tree.specs.declared.node.NodeData.{NodeData, out-NodeData}
use Rattle.btr_tree.specs.declared.node.NodeData.TheOpen.{NodeData-F}
use Rattle.btr_tree.specs.declared.slots.Kept.{Kept}
use Rattle.btr_tree.specs.declared.slots.Slots.{Slots}
use Rattle.btr_tree.specs.Change.{IsLeafOf, IsInnerOf}
use Rattle.btr_tree.specs.Leads.{IsRead}
use Rattle.btr_tree.specs.NewNodes.{NewNodeValue}
use Rattle.btr_tree.specs.Opened.{part_at, part_node}
use Rattle.btr_tree.specs.Root.{TreeValue, version_of, version_of_kind}
use Rattle.btr_tree.specs.Shape.{ByKind, slot_start}
use Rattle.btr_tree.specs.Slots.{block_of, AreSameSlots}
use Rattle.btr_tree.specs.Stored.{Store, leaf_node}
use Rattle.btr_tree.proofs.NodeLemmas.{slot-part}
use Rattle.btr_tree.proofs.ReadLemmas.{read-along, leaf-read, inner-read, IsSlotOf}
use Rattle.btr_node.specs.Page.{header, Keeps, Fits, IsSlot, IsLeafPage, IsInnerPage, span_of_page, slots_of_page}
use Rattle.btr_node.specs.declared.page.PageHeader.{PageHeader}
use Rattle.btr_node.specs.declared.page.NodePage.{NodePage}
use Rattle.btr_node.specs.declared.page.NodePage.TheVariants.{Leaf, Inner}
use Rattle.btr_node.specs.declared.page.PageSlot.{PageSlot}
use Rattle.btr_tree.specs.PageNodes.{Pages, slot_of_page, node_of_page, node_of_stream, nodes_in, IsChildPage}
use Rattle.btr_pages.specs.Pages.{with_pages, HasChildPage, IsPageAt}
use Rattle.btr_pages.specs.Known.{KnownValue, TreesValue, node_at, CameFrom, IsKnown, AreKnown, ArePartOf, KnowsChildren, TakesPage}
use Rattle.btr_pages.specs.Made.{IsReadTree, IsKnownChild, HasKnownChild, MayHaveChild, IsBuildable, part_of, ArePartsTo, versions_of, AreLeafPoints, IsLeafMade, IsInnerMade, IsMadeAt}
use Rattle.btr_pages.proofs.LeafLemmas.{leaf-points}
use Rattle.btr_pages.proofs.NumberLemmas.{added-here, added-other, none-there}
use Rattle.btr_pages.proofs.PartLemmas.{parts-count, all-have, version-at, at-slot, no-slot}

-- No tree is of this block, nor of one above.
abbrev pub IsAbove : ℕ → TreesValue → Type 0
IsAbove block nodes = (k : ℕ) → IsSome (node_at nodes k) → k < block

-- The tree of a block is of that block.
pub block-at : (nodes : TreesValue) (b : ℕ) (k : KnownValue) → node_at nodes b ≡ Some k → k.block ≡ b
block-at [] b k e = absurd (cc)
block-at (n ∷ ns) b k at =
    elim (nat_eq n.block b) as (λ t. nat_eq n.block b ≡ t → cond t (Some n) (node_at ns b) ≡ Some k → k.block ≡ b) [
      | true ↦ λ t e.
          let same : n.block ≡ b = grind (arith, nat_tests) in
          let it : n ≡ k = cc in
          ap (λ (m : KnownValue). m.block) (sym it) ∙ same
      | false ↦ λ t e. block-at ns b k e
    ] refl at

-- What is known of a tree that was made.
pub known-at : (pages : Pages) (nodes : TreesValue) (b : ℕ) (k : KnownValue) → ArePartOf pages nodes → node_at nodes b ≡ Some k → IsKnown pages k
known-at pages nodes b k are at = subst (λ o. IfSome o (IsKnown pages)) at (are b)

-- If all pages have a tree, those of the children of a page have one.
pub knows-all : (pages : Pages) (nodes : TreesValue) (page : NodePage) → AreKnown pages nodes → KnowsChildren pages nodes page
knows-all pages nodes page are i =
    elim (slice_get (slots_of_page page) i) as (λ o. IfSome o (λ slot. 0 < slot.agg.count → IsSome (pages slot.child) → IsSome (node_at nodes slot.child))) [
      | None ↦ tt
      | Some slot ↦ λ some has. are.all slot.child has
    ]

-- ---- a page stands rightly exactly if the trees of its children were made

child-right : (pages : Pages) (nodes : TreesValue) (block : ℕ) (page : NodePage) (i : ℕ) (slot : PageSlot) → ArePartOf pages nodes → HasKnownChild nodes block (slot_of (span_of_page page) i) (header page).stream slot → HasChildPage pages block page i slot
child-right pages nodes block page i slot are has =
    let known = known-at pages nodes slot.child has.known are has.is in
    let at = block-at nodes slot.child has.known has.is in
    record {
      lower = has.fits.lower;
      child = known.page;
      is = ap pages (sym at) ∙ known.is;
      fits = record {
        stream = sym known.made.stream ∙ has.fits.stream;
        span = sym known.made.span ∙ has.fits.span;
        version = sym known.made.version ∙ has.fits.version;
        count = sym known.made.count ∙ has.fits.count;
      };
    }

slot-right : (pages : Pages) (nodes : TreesValue) (block : ℕ) (page : NodePage) (i : ℕ) (o : Option PageSlot) → ArePartOf pages nodes → IfSome o (MayHaveChild nodes block (slot_of (span_of_page page) i) (header page).stream) → IfSome o (λ slot. 0 < slot.agg.count → HasChildPage pages block page i slot)
slot-right pages nodes block page i None are may = may
slot-right pages nodes block page i (Some slot) are may = λ some. child-right pages nodes block page i slot are (may some)

pub page-right : (pages : Pages) (nodes : TreesValue) (block : ℕ) (page : NodePage) → ArePartOf pages nodes → Keeps page → IsBuildable nodes block page → IsPageAt pages block page
page-right pages nodes block page are keeps may =
    record {
      keeps = keeps;
      children = λ i. slot-right pages nodes block page i (slice_get (slots_of_page page) i) are (may i);
    }

-- A tree that was made, where there is one.
some-known : (nodes : TreesValue) (b : ℕ) → IsSome (node_at nodes b) → (k : KnownValue) × (node_at nodes b ≡ Some k)
some-known nodes b =
    elim (node_at nodes b) as (λ o. node_at nodes b ≡ o → IsSome o → (k : KnownValue) × (node_at nodes b ≡ Some k)) [
      | None ↦ λ e some. absurd (cc)
      | Some k ↦ λ e some. (k, e)
    ] refl

child-known : (pages : Pages) (nodes : TreesValue) (block : ℕ) (page : NodePage) (i : ℕ) (slot : PageSlot) → ArePartOf pages nodes → (IsSome (pages slot.child) → IsSome (node_at nodes slot.child)) → HasChildPage pages block page i slot → HasKnownChild nodes block (slot_of (span_of_page page) i) (header page).stream slot
child-known pages nodes block page i slot are knows has =
    let found = some-known nodes slot.child (knows (subst IsSome (sym has.is) refl)) in
    let known = known-at pages nodes slot.child found.0 are found.1 in
    let at = block-at nodes slot.child found.0 found.1 in
    let two : Some known.page ≡ Some has.child = sym known.is ∙ ap pages at ∙ has.is in
    let same : known.page ≡ has.child = cc in
    let fits = subst (λ p. IsChildPage page i slot p) (sym same) has.fits in
    record {
      known = found.0;
      is = found.1;
      fits = record {
        lower = has.lower;
        stream = known.made.stream ∙ fits.stream;
        span = known.made.span ∙ fits.span;
        version = known.made.version ∙ fits.version;
        count = known.made.count ∙ fits.count;
        opened = known.made.opened;
      };
    }

slot-known : (pages : Pages) (nodes : TreesValue) (block : ℕ) (page : NodePage) (i : ℕ) (o : Option PageSlot) → ArePartOf pages nodes → IfSome o (λ slot. 0 < slot.agg.count → IsSome (pages slot.child) → IsSome (node_at nodes slot.child)) → IfSome o (λ slot. 0 < slot.agg.count → HasChildPage pages block page i slot) → IfSome o (MayHaveChild nodes block (slot_of (span_of_page page) i) (header page).stream)
slot-known pages nodes block page i None are knows has = has
slot-known pages nodes block page i (Some slot) are knows has = λ some.
    child-known pages nodes block page i slot are (knows some) (has some)

pub page-known : (pages : Pages) (nodes : TreesValue) (block : ℕ) (page : NodePage) → ArePartOf pages nodes → KnowsChildren pages nodes page → IsPageAt pages block page → IsBuildable nodes block page
page-known pages nodes block page are knows right i =
    slot-known pages nodes block page i (slice_get (slots_of_page page) i) are (knows i) (right.children i)

-- ---- the node of a page

node-here : (pages : Pages) (block : ℕ) (page : NodePage) (s : ℕ) → pages block ≡ Some page → s ≡ (header page).stream → nodes_in pages s block ≡ Some (node_of_page page)
node-here pages block page s here e =
    let yes : nat_eq (header page).stream s ≡ true = grind (arith, nat_tests) in
    ap (option_and_then (node_of_stream s)) here ∙ ap (λ t. cond t (Some (node_of_page page)) None) yes

-- ---- the tree of a page

version-of_leaf_kind : (v : ℕ) (ps : List Point) (d : NodeData-F NodeData Link Kept Slots) → ByKind (λ w qs. (w ≡ v) × (qs ≡ ps)) (λ w x. ⊥) d → version_of_kind d ≡ v
version-of_leaf_kind v ps (NodeData-F.Leaf b w qs) is = is.0
version-of_leaf_kind v ps (NodeData-F.Inner b w x) is = absurd is

version-of_leaf : (v : ℕ) (ps : List Point) (o : Option NodeData) → IsLeafOf v ps o → version_of o ≡ v
version-of_leaf v ps None is = absurd is
version-of_leaf v ps (Some d) is = version-of_leaf_kind v ps (out-NodeData d) is

version-of_inner_kind : (v : ℕ) (x : Slots) (d : NodeData-F NodeData Link Kept Slots) → ByKind (λ w qs. ⊥) (λ w y. (w ≡ v) × AreSameSlots x y) d → version_of_kind d ≡ v
version-of_inner_kind v x (NodeData-F.Leaf b w qs) is = absurd is
version-of_inner_kind v x (NodeData-F.Inner b w y) is = is.0

version-of_inner : (v : ℕ) (x : Slots) (o : Option NodeData) → IsInnerOf v x o → version_of o ≡ v
version-of_inner v x None is = absurd is
version-of_inner v x (Some d) is = version-of_inner_kind v x (out-NodeData d) is

pub leaf-count : (block version : ℕ) (span : SpanValue) (points : List Point) (t : TreeValue) → IsLeafMade block span version points t → t.total.count ≡ length points
leaf-count block version span points t m = ap (λ (a : AggValue). a.count) m.is.total ∙ agg-count points

pub inner-count : (nodes : TreesValue) (block : ℕ) (span : SpanValue) (number version : ℕ) (slots : List PageSlot) (t : TreeValue) → IsInnerMade nodes block span number version slots t → length slots ≡ 64 → t.total.count ≡ sum_by (λ s. s.agg.count) slots
inner-count nodes block span number version slots t m full =
    ap (λ (a : AggValue). a.count) m.is.total ∙ parts-count nodes block span number slots m.parts full m.are

-- ---- the slots of a page, as they were read

slot-keeps : (slots : List PageSlot) (version i : ℕ) (slot : PageSlot) → AllByRecursion (IsSlot version) slots → slice_get slots i ≡ Some slot → IsSlot version slot
slot-keeps [] version i slot all at = absurd (cc)
slot-keeps (s ∷ ss) version zero slot all at = let same : s ≡ slot = cc in subst (IsSlot version) same all.0
slot-keeps (s ∷ ss) version (suc i) slot all at = slot-keeps ss version i slot all.1 at

-- What the slot's part has of the slot.
record IsPartRead (store : Store) (below : ℕ) (start : ℤ) (slot : PageSlot) (part : Option TreeValue) : Type 0 where
  child : slot.child ≡ block_of (part_node part)
  read : IfSome part (λ t. IsRead store below start t.node)

part-known : (pages : Pages) (nodes : TreesValue) (block : ℕ) (span : SpanValue) (below number s i : ℕ) (slot : PageSlot) (k : KnownValue) → ArePartOf pages nodes → span.height ≡ suc below → s ≡ number → node_at nodes slot.child ≡ Some k → IsKnownChild block (slot_of span i) number slot k → IsPartRead (nodes_in pages s) below (slot_start below span.start i) slot (Some k.tree)
part-known pages nodes block span below number s i slot k are high e at fits =
    let known = known-at pages nodes slot.child k are at in
    let place : k.tree.span ≡ record { start = slot_start below span.start i; height = below } = fits.span ∙ slot-part span below i high in
    record {
      child = sym (known.made.its_block ∙ block-at nodes slot.child k at);
      read =
          subst (λ (u : SpanValue). IsRead (nodes_in pages s) u.height u.start k.tree.node) place (subst (λ n. IsRead (nodes_in pages n) k.tree.span.height k.tree.span.start k.tree.node) (fits.stream ∙ sym e) known.made.read);
    }

part-read_of : (pages : Pages) (nodes : TreesValue) (block : ℕ) (span : SpanValue) (below number s i version : ℕ) (slot : PageSlot) → ArePartOf pages nodes → span.height ≡ suc below → s ≡ number → IsSlot version slot → MayHaveChild nodes block (slot_of span i) number slot → IsPartRead (nodes_in pages s) below (slot_start below span.start i) slot (part_of nodes (Some slot))
part-read_of pages nodes block span below number s i version slot are high e keeps may =
    elim (nat_eq slot.agg.count 0) as (λ b. nat_eq slot.agg.count 0 ≡ b → IsPartRead (nodes_in pages s) below (slot_start below span.start i) slot (cond b None (option_map (λ k. k.tree) (node_at nodes slot.child)))) [
      | true ↦ λ t. record { child = keeps.no_child (grind (arith, nat_tests)); read = tt }
      | false ↦ λ t.
          let some : 0 < slot.agg.count = grind (arith, nat_tests) in
          let has = may some in
          subst (λ o. IsPartRead (nodes_in pages s) below (slot_start below span.start i) slot (option_map (λ k. k.tree) o)) (sym has.is) (part-known pages nodes block span below number s i slot has.known are high e has.is has.fits)
    ] refl

part-read_at : (pages : Pages) (nodes : TreesValue) (block : ℕ) (span : SpanValue) (below number s version : ℕ) (slots : List PageSlot) (parts : List (ℕ × TreeValue)) → ArePartOf pages nodes → span.height ≡ suc below → s ≡ number → length slots ≡ 64 → AllByRecursion (IsSlot version) slots → ArePartsTo 64 nodes block span number slots parts → (i : ℕ) → i < 64 → IsPartRead (nodes_in pages s) below (slot_start below span.start i) (get_or slots i no-slot) (part_at parts i)
part-read_at pages nodes block span below number s version slots parts are high e full all a i lt =
    let at = at-slot slots i (omega arith) in
    let slot = get_or slots i no-slot in
    subst (IsPartRead (nodes_in pages s) below (slot_start below span.start i) slot) (sym (a.are i lt ∙ ap (part_of nodes) at)) (part-read_of pages nodes block span below number s i version slot are high e (slot-keeps slots version i slot all at) (subst (λ o. IfSome o (MayHaveChild nodes block (slot_of span i) number)) at (a.have i lt)))

-- ---- the tree of the page in a block was made of it

leaf-known : (pages : Pages) (block : ℕ) (page : NodePage) (s version : ℕ) (span : SpanValue) (points : List Point) (t : TreeValue) → pages block ≡ Some page → 1 ≤ block → AreLeafPoints span points → s ≡ (header page).stream → node_of_page page ≡ leaf_node span version points → IsLeafMade block span version points t → IsRead (nodes_in pages s) t.span.height t.span.start t.node
leaf-known pages block page s version span points t here some are e node m =
    let f = nodes_in pages s in
    subst (λ (u : SpanValue). IsRead f u.height u.start t.node) (sym m.is.its_span) (leaf-read f span version block points t m.is some are.some are.few (node-here pages block page s here e ∙ ap Some node))

slot-of_part : (slots : List PageSlot) (below i : ℕ) (start : ℤ) (store : Store) (part : Option TreeValue) → i < length slots → IsPartRead store below start (get_or slots i no-slot) part → IsSlotOf (slice_get (map slot_of_page slots) i) (get_or (versions_of slots) i 0) (part_node part)
slot-of_part slots below i start store part lt r =
    let at = at-slot slots i lt in
    subst (λ o. IsSlotOf o (get_or (versions_of slots) i 0) (part_node part)) (sym (slice_get-map slot_of_page slots i ∙ ap (option_map slot_of_page) at)) (sym (version-at slots i (get_or slots i no-slot) at), r.child)

inner-known : (pages : Pages) (nodes : TreesValue) (block : ℕ) (page : NodePage) (s number version : ℕ) (span : SpanValue) (slots : List PageSlot) (t : TreeValue) → ArePartOf pages nodes → pages block ≡ Some page → 1 ≤ block → 1 ≤ span.height → s ≡ (header page).stream → s ≡ number → length slots ≡ 64 → AllByRecursion (IsSlot version) slots → node_of_page page ≡ record { span = span; version = version; points = []; slots = map slot_of_page slots } → IsInnerMade nodes block span number version slots t → IsRead (nodes_in pages s) t.span.height t.span.start t.node
inner-known pages nodes block page s number version span slots t are here some high e f full all node m =
    let store = nodes_in pages s in
    let below = span.height - 1 in
    let up : span.height ≡ suc below = omega arith in
    let read = part-read_at pages nodes block span below number s version slots m.parts are up f full all m.are in
    subst (λ (u : SpanValue). IsRead store u.height u.start t.node) (sym m.is.its_span) (inner-read store span below version block m.parts (versions_of slots) (record { span = span; version = version; points = []; slots = map slot_of_page slots }) t m.fit m.is (record {
      height = up;
      some = some;
      is = node-here pages block page s here e ∙ ap Some node;
      its_span = refl;
      its_version = refl;
      its_points = refl;
      its_slots = λ i lt. slot-of_part slots below i (slot_start below span.start i) store (part_at m.parts i) (omega arith) (read i lt);
      each = λ i lt. (read i lt).read;
    }))

-- The tree that was made was made of the page, with all below it.
pub made-of_page : (pages : Pages) (nodes : TreesValue) (block : ℕ) (page : NodePage) (k : KnownValue) → ArePartOf pages nodes → pages block ≡ Some page → 1 ≤ block → Keeps page → Fits page → IsMadeAt nodes block page k → CameFrom pages page k
made-of_page pages nodes block (Leaf start height stream version count points) k are here some keeps fits m =
    let page = Leaf start height stream version count points in
    let span : SpanValue = record { start = start; height = height } in
    let points_are = leaf-points (header page) points keeps fits.1 in
    let to = keeps.count_to in
    let full = fits.1 in
    record {
      keeps = keeps;
      stream = m.stream;
      span = m.tree.is.its_span;
      version = version-of_leaf version (take count points) k.tree.node m.tree.is.node;
      count = leaf-count block version span (take count points) k.tree m.tree ∙ length-take-le count points (omega arith);
      opened = m.tree.opened;
      its_block = m.tree.is.its_block ∙ sym m.its_block;
      read = leaf-known pages block page k.stream version span (take count points) k.tree here some points_are m.stream refl m.tree;
    }
made-of_page pages nodes block (Inner start height stream version count slots) k are here some keeps fits m =
    let page = Inner start height stream version count slots in
    let span : SpanValue = record { start = start; height = height } in
    record {
      keeps = keeps;
      stream = m.stream;
      span = m.tree.is.its_span;
      version = version-of_inner version m.tree.is.slots k.tree.node m.tree.is.node;
      count = inner-count nodes block span stream version slots k.tree m.tree fits.1 ∙ keeps.total;
      opened = m.tree.opened;
      its_block = m.tree.is.its_block ∙ sym m.its_block;
      read = inner-known pages nodes block page k.stream stream version span slots k.tree are here some keeps.height_from m.stream m.stream fits.1 keeps.each refl m.tree;
    }

-- ---- one page more

pub pages-below : (pages : Pages) (block b : ℕ) (new : List NodePage) → b < block → with_pages pages block new b ≡ pages b
pages-below pages block b new less =
    let yes : nat_lt b block ≡ true = grind (arith, nat_tests) in ap (λ t. cond t (pages b) (slice_get new (b - block))) yes

pub pages-from : (pages : Pages) (block b : ℕ) (new : List NodePage) → block ≤ b → with_pages pages block new b ≡ slice_get new (b - block)
pages-from pages block b new le =
    let no : nat_lt b block ≡ false = grind (arith, nat_tests) in ap (λ t. cond t (pages b) (slice_get new (b - block))) no

page-here : (pages : Pages) (block : ℕ) (page : NodePage) → with_pages pages block (page ∷ []) block ≡ Some page
page-here pages block page =
    pages-from pages block block (page ∷ []) (omega arith) ∙ ap (slice_get (page ∷ [])) (let e : block - block ≡ 0 = omega arith in e)

-- Each block that has a page is below one that is above all trees.
page-below : (pages : Pages) (nodes : TreesValue) (block b : ℕ) (p : NodePage) → AreKnown pages nodes → IsAbove block nodes → pages b ≡ Some p → b < block
page-below pages nodes block b p are above at = above b (are.all b (subst IsSome (sym at) refl))

-- The nodes of a stream stay in their blocks.
store-along : (pages : Pages) (nodes : TreesValue) (block : ℕ) (new : List NodePage) → AreKnown pages nodes → IsAbove block nodes → (s b : ℕ) (n : NewNodeValue) → nodes_in pages s b ≡ Some n → nodes_in (with_pages pages block new) s b ≡ Some n
store-along pages nodes block new are above s b n at =
    elim (pages b) as (λ o. pages b ≡ o → option_and_then (node_of_stream s) o ≡ Some n → nodes_in (with_pages pages block new) s b ≡ Some n) [
      | None ↦ λ e none. absurd (cc)
      | Some p ↦ λ e is.
          ap (option_and_then (node_of_stream s)) (pages-below pages block b new (page-below pages nodes block b p are above e) ∙ e) ∙ is
    ] refl at

-- A tree that was made of one of the pages was made of one of those with more.
made-along : (pages : Pages) (nodes : TreesValue) (block : ℕ) (new : List NodePage) (page : NodePage) (k : KnownValue) → AreKnown pages nodes → IsAbove block nodes → CameFrom pages page k → CameFrom (with_pages pages block new) page k
made-along pages nodes block new page k are above m =
    record {
      keeps = m.keeps;
      stream = m.stream;
      span = m.span;
      version = m.version;
      count = m.count;
      opened = m.opened;
      its_block = m.its_block;
      read = read-along (nodes_in pages k.stream) (nodes_in (with_pages pages block new) k.stream) (store-along pages nodes block new are above k.stream) k.tree.span.height k.tree.span.start k.tree.node m.read;
    }

known-along : (pages : Pages) (nodes : TreesValue) (block : ℕ) (new : List NodePage) (k : KnownValue) → AreKnown pages nodes → IsAbove block nodes → IsKnown pages k → IsKnown (with_pages pages block new) k
known-along pages nodes block new k are above is =
    record {
      page = is.page;
      is = pages-below pages block k.block new (page-below pages nodes block k.block is.page are above is.is) ∙ is.is;
      made = made-along pages nodes block new is.page k are above is.made;
    }

-- The trees are those of the pages with more.
part-still : (pages : Pages) (nodes : TreesValue) (block : ℕ) (new : List NodePage) → AreKnown pages nodes → IsAbove block nodes → ArePartOf (with_pages pages block new) nodes
part-still pages nodes block new are above c =
    elim (node_at nodes c) as (λ o. node_at nodes c ≡ o → IfSome o (IsKnown (with_pages pages block new))) [
      | None ↦ λ e. tt
      | Some k ↦ λ e. known-along pages nodes block new k are above (known-at pages nodes c k are.each e)
    ] refl

-- ---- the trees with one more

some-none : (o : Option KnownValue) → IsSome o → IsNone o → ⊥
some-none None some none = absurd (cc)
some-none (Some k) some none = absurd (cc)

-- A tree is found as before.
pub added-kept : (nodes : TreesValue) (k : KnownValue) (c : ℕ) → IsNone (node_at nodes k.block) → IsSome (node_at nodes c) → node_at (nodes ++ k ∷ []) c ≡ node_at nodes c
added-kept nodes k c fresh some =
    added-other nodes k c (λ same. some-none (node_at nodes c) some (subst (λ b. IsNone (node_at nodes b)) same fresh))

pub added-itself : (nodes : TreesValue) (k : KnownValue) → IsNone (node_at nodes k.block) → node_at (nodes ++ k ∷ []) k.block ≡ Some k
added-itself nodes k fresh = added-here nodes k (none-there nodes k.block fresh)

-- No other block gets a tree.
pub added-only : (nodes : TreesValue) (k : KnownValue) (c : ℕ) → IsSome (node_at (nodes ++ k ∷ []) c) → (c ≡ k.block) ⊎ IsSome (node_at nodes c)
added-only nodes k c some =
    elim (nat_eq k.block c) as (λ u. nat_eq k.block c ≡ u → (c ≡ k.block) ⊎ IsSome (node_at nodes c)) [
      | true ↦ λ e. inl (let same : c ≡ k.block = grind (arith, nat_tests) in same)
      | false ↦ λ e.
          let ne : k.block ≡ c → ⊥ = grind (arith, nat_tests) in
          inr (subst IsSome (added-other nodes k c ne) some)
    ] refl

-- The trees with one that was made of one of the pages.
pub part-more : (pages : Pages) (nodes : TreesValue) (page : NodePage) (k : KnownValue) → ArePartOf pages nodes → IsNone (node_at nodes k.block) → pages k.block ≡ Some page → CameFrom pages page k → ArePartOf pages (nodes ++ k ∷ [])
part-more pages nodes page k are fresh here made c =
    elim (nat_eq k.block c) as (λ u. nat_eq k.block c ≡ u → IfSome (node_at (nodes ++ k ∷ []) c) (IsKnown pages)) [
      | true ↦ λ e.
          let same : k.block ≡ c = grind (arith, nat_tests) in
          subst (λ c. IfSome (node_at (nodes ++ k ∷ []) c) (IsKnown pages)) same (subst (λ o. IfSome o (IsKnown pages)) (sym (added-itself nodes k fresh)) (record { page = page; is = here; made = made }))
      | false ↦ λ e.
          let ne : k.block ≡ c → ⊥ = grind (arith, nat_tests) in
          subst (λ o. IfSome o (IsKnown pages)) (sym (added-other nodes k c ne)) (are c)
    ] refl

from-page : (page : NodePage) (n : ℕ) → IsSome (slice_get (page ∷ []) n) → n ≡ 0
from-page page zero some = refl
from-page page (suc n) some = absurd (cc)

-- Each block that has a page has a tree, also with one page and its tree more.
all-more : (pages : Pages) (nodes : TreesValue) (page : NodePage) (k : KnownValue) (c : ℕ) → AreKnown pages nodes → IsNone (node_at nodes k.block) → IsSome (with_pages pages k.block (page ∷ []) c) → IsSome (node_at (nodes ++ k ∷ []) c)
all-more pages nodes page k c are fresh some =
    let block = k.block in
    elim (cases_lt c block) [
      | inl less ↦
          let before = are.all c (subst IsSome (pages-below pages block c (page ∷ []) less) some) in
          subst IsSome (sym (added-kept nodes k c fresh before)) before
      | inr le ↦
          let last = from-page page (c - block) (subst IsSome (pages-from pages block c (page ∷ []) le) some) in
          let same : block ≡ c = omega arith in
          subst (λ c. IsSome (node_at (nodes ++ k ∷ []) c)) same (subst IsSome (sym (added-itself nodes k fresh)) refl)
    ]

-- The trees of a page's children were made, where its own was.
pub made-buildable : (nodes : TreesValue) (block : ℕ) (page : NodePage) (k : KnownValue) → Fits page → IsMadeAt nodes block page k → IsBuildable nodes block page
made-buildable nodes block (Leaf start height stream version count points) k fits m i = tt
made-buildable nodes block (Inner start height stream version count slots) k fits m i =
    all-have nodes block (record { start = start; height = height }) stream slots m.tree.parts fits.1 m.tree.are i

-- No other block than this one has a tree that it had not before.
abbrev pub HasOnly : TreesValue → TreesValue → ℕ → Type 0
HasOnly old new block = (k : ℕ) → IsSome (node_at new k) → (k ≡ block) ⊎ IsSome (node_at old k)

-- The tree of the page in its own block was added.
takes : (nodes : TreesValue) (page : NodePage) (k : KnownValue) → 1 ≤ k.block → IsNone (node_at nodes k.block) → Keeps page → Fits page → IsMadeAt nodes k.block page k → TakesPage nodes (nodes ++ k ∷ []) k.block page
takes nodes page k some fresh keeps fits m =
    let block = k.block in
    let part : (pages : Pages) → ArePartOf pages nodes → pages block ≡ Some page → ArePartOf pages (nodes ++ k ∷ []) = λ pages are here.
    part-more pages nodes page k are fresh here (made-of_page pages nodes block page k are here some keeps fits m) in
    record {
      known = λ pages are above. record {
        each = part (with_pages pages block (page ∷ [])) (part-still pages nodes block (page ∷ []) are above) (page-here pages block page);
        all = λ c has. all-more pages nodes page k c are fresh has;
      };
      part = part;
      rightly = λ pages are. page-right pages nodes block page are keeps (made-buildable nodes block page k fits m);
      stands = subst IsSome (sym (added-itself nodes k fresh)) refl;
      kept = λ c has. added-kept nodes k c fresh has;
    }

-- The tree that was made was added, and no other.
pub addition : (old new : TreesValue) (block : ℕ) (page : NodePage) (k : KnownValue) → 1 ≤ block → IsNone (node_at old block) → Keeps page → Fits page → IsMadeAt old block page k → new ≡ old ++ k ∷ [] → TakesPage old new block page × HasOnly old new block
addition old new block page k some fresh keeps fits m is =
    let at = m.its_block in
    let here : TakesPage old (old ++ k ∷ []) k.block page = takes old page k (subst (λ b. 1 ≤ b) (sym at) some) (subst (λ b. IsNone (node_at old b)) (sym at) fresh) keeps fits (subst (λ b. IsMadeAt old b page k) (sym at) m) in
    subst (λ xs. TakesPage old xs block page × HasOnly old xs block) (sym is) (subst (λ b. TakesPage old (old ++ k ∷ []) b page × HasOnly old (old ++ k ∷ []) b) at (here, λ c has. added-only old k c has))

-- The count of a page is that of the tree that was made of it.
pub leaf-counted : (block version : ℕ) (span : SpanValue) (f : PageHeader) (points : List Point) (t : TreeValue) → IsLeafPage f points → length points ≡ 252 → IsLeafMade block span version (take f.count points) t → IsReadTree f.count t
leaf-counted block version span f points t keeps full m =
    let to = keeps.count_to in
    record { opened = m.opened; is = sym (leaf-count block version span (take f.count points) t m ∙ length-take-le f.count points (omega arith)) }

pub inner-counted : (nodes : TreesValue) (block number version : ℕ) (span : SpanValue) (f : PageHeader) (slots : List PageSlot) (t : TreeValue) → IsInnerPage f slots → length slots ≡ 64 → IsInnerMade nodes block span number version slots t → IsReadTree f.count t
inner-counted nodes block number version span f slots t keeps full m =
    record { opened = m.opened; is = sym (inner-count nodes block span number version slots t m full ∙ keeps.total) }
