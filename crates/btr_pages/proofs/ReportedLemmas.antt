-- The pages of the nodes that a commit writes: they stand rightly, and the new tree is stored in them.
use Rattle.std.specs.Prelude.{◌≡◌, ◌⊎◌, ℕ, ◌+◌, ◌-◌, ◌^◌, ◌<◌, ◌≤◌, ℤ, pos, ◌+ℤ◌, Bool, true, false, not, cond, nat_lt, nat_eq, List, [], ◌∷◌, ◌++◌, length, slice_get, Option, Some, None, IfSome, option_map}
use Rattle.std.specs.Int.{w64}
use Rattle.std.specs.Int.RustNames.{FitsSigned}
use Rattle.std.specs.List.{AllByRecursion}
use Rattle.std.specs.Option.{option_and_then}
use Rattle.std.proofs.Common.{zero, suc, refl, sym, ap, ◌∙◌, arith, subst, inl, inr}
use Rattle.std.proofs.lemmas.Bool.{cases_lt}
use Rattle.std.proofs.lemmas.Bool.Decides.{nat_tests}
use Rattle.std.proofs.lemmas.Int.{ints}
use Rattle.std.proofs.lemmas.Option.{slice_get-map, slice_get_past, slice_get_within}
use Rattle.btr_base.specs.declared.limits.TheConstants.{FIRST, END, LEAF_POINTS, MAX_POINTS}
use Rattle.btr_base.specs.declared.point.Point.{Point}
use Rattle.btr_base.specs.Agg.{IsValue}
use Rattle.btr_base.specs.Bag.{within, outside, is_within}
use Rattle.btr_base.specs.Range.{covered}
use Rattle.btr_base.specs.Span.{width, SpanValue, IsSpan, slot_of}
use Rattle.btr_base.proofs.AggLemmas.{agg-count}
use Rattle.btr_base.proofs.ListLemmas.{each-append, each-filter, each-weaker, length-filter}
use Rattle.btr_base.proofs.PointLemmas.{each-sort}
use Rattle.btr_tree.specs.declared.node.NodeData.{NodeData}
use Rattle.btr_tree.specs.Crowd.{HasNoCrowdedSpan}
use Rattle.btr_tree.specs.History.{Commit, Past, ◌▷◌, bag, IsBefore}
use Rattle.btr_tree.specs.Leads.{slot_to, slots_to, node_to, Leads}
use Rattle.btr_tree.specs.NewNodes.{NewNodeValue}
use Rattle.btr_tree.specs.Nodes.{points_of, is_inner, above_root, node_version, slot_version}
use Rattle.btr_tree.specs.Root.{TreeValue, IsTree}
use Rattle.btr_tree.specs.Shape.{slot_start, slot_of_points}
use Rattle.btr_tree.specs.Slots.{block_of}
use Rattle.btr_tree.specs.Stored.{Store, laid, IsStored, IsBelow}
use Rattle.btr_tree.proofs.LeadsLemmas.{stored-leads}
use Rattle.btr_tree.proofs.NodeLemmas.{slot-part, prefix-next, prefix-none, prefix-all}
use Rattle.btr_tree.proofs.RootLemmas.{root-aligned, root-points, tree-room}
use Rattle.btr_tree.proofs.StoredLemmas.{stored-below}
use Rattle.btr_node.specs.Page.{header, IsSlot, Keeps, FitsPoint, FitsSlot, Fits, span_of_page, slots_of_page}
use Rattle.btr_node.specs.declared.page.NodePage.{NodePage}
use Rattle.btr_node.specs.declared.page.PageSlot.{PageSlot}
use Rattle.btr_tree.specs.PageNodes.{Pages, node_of_page, node_of_stream, nodes_in}
use Rattle.btr_pages.specs.Pages.{with_pages, page_slot, page_of, pages_of, HasChildPage, IsPageAt, ArePages}
use Rattle.btr_pages.specs.Reported.{AreKept, IsReportedOf, IsReportedBy, AreReported}
use Rattle.btr_pages.proofs.PageOfLemmas.{each-map, inner-page_of, leaf-again, inner-again, page_of-stream, HasPlaces, fits-places, page_of-places, page-span, page-version, page-versioned, leaf-count, inner-count, leaf-values, leaf-keeps, inner-keeps, slot-fits, leaf-fits, inner-fits}
use Rattle.btr_pages.proofs.ReportedNodeLemmas.{each-get, each-first, version-same, version-at_most, older, older-is, stored-older, In, LeadsTo, leads-to, leads-nowhere, part-aligned, IsReported, laid-at, reported-node, IsLeafNode, IsInnerNode, node-kind, node_to-span, node_to-version, slots-get, slots-length, slots-count}

-- ---- pages in blocks

below-test : (b n : ℕ) → b < n → nat_lt b n ≡ true
below-test b n lt = grind (arith, nat_tests)

-- The pages below a block are as before.
pub with-old : (pages : Pages) (first : ℕ) (new : List NodePage) (b : ℕ) → b < first → with_pages pages first new b ≡ pages b
with-old pages first new b lt =
    ap (λ t. cond t (pages b) (slice_get new (b - first))) (below-test b first lt)

-- A page that is there is an old one, or one of the new.
pub with-either : (pages : Pages) (first : ℕ) (new : List NodePage) (b : ℕ) (page : NodePage) → with_pages pages first new b ≡ Some page → ((b < first) × (pages b ≡ Some page)) ⊎ ((first ≤ b) × (slice_get new (b - first) ≡ Some page))
with-either pages first new b page at =
    elim (nat_lt b first) as (λ t. nat_lt b first ≡ t → cond t (pages b) (slice_get new (b - first)) ≡ Some page → ((b < first) × (pages b ≡ Some page)) ⊎ ((first ≤ b) × (slice_get new (b - first) ≡ Some page))) [
      | true ↦ λ e here. inl (grind (arith, nat_tests), here)
      | false ↦ λ e here. inr (grind (arith, nat_tests), here)
    ] refl at

-- A new page is in its block.
pub with-new : (pages : Pages) (first : ℕ) (new : List NodePage) (b : ℕ) → first ≤ b → with_pages pages first new b ≡ slice_get new (b - first)
with-new pages first new b le =
    let no : nat_lt b first ≡ false = grind (arith, nat_tests) in
    ap (λ t. cond t (pages b) (slice_get new (b - first))) no

-- What is stored in pages below a block stays so, whatever pages are added from there on.
pub stored-along : (pages : Pages) (first : ℕ) (new : List NodePage) (stream k : ℕ) (s : ℤ) (child : Option NodeData) → IsBelow (nodes_in pages stream) first k s child → IsBelow (nodes_in (with_pages pages first new) stream) first k s child
stored-along pages first new stream k s child h =
    record {
      stored = stored-below (nodes_in pages stream) (nodes_in (with_pages pages first new) stream) first (λ b lt. ap (option_and_then (node_of_stream stream)) (with-old pages first new b lt)) k s child h.below h.stored;
      below = h.below;
    }

-- The page in a block is of the stream, and says this node.
pub record IsPageOf (pages : Pages) (stream b : ℕ) (n : NewNodeValue) : Type 0 where
  pub page : NodePage
  pub is : pages b ≡ Some page
  pub its_stream : (header page).stream ≡ stream
  pub says : node_of_page page ≡ n

equal-test : (a b : ℕ) → nat_eq a b ≡ true → a ≡ b
equal-test a b e = grind (arith, nat_tests)

stream-of : (stream : ℕ) (page : NodePage) (n : NewNodeValue) → node_of_stream stream page ≡ Some n → ((header page).stream ≡ stream) × (node_of_page page ≡ n)
stream-of stream page n at =
    elim (nat_eq (header page).stream stream) as (λ t. nat_eq (header page).stream stream ≡ t → cond t (Some (node_of_page page)) None ≡ Some n → ((header page).stream ≡ stream) × (node_of_page page ≡ n)) [
      | true ↦ λ e here. (equal-test (header page).stream stream e, cc)
      | false ↦ λ e here. absurd (cc)
    ] refl at

some-page : (pages : Pages) (stream b : ℕ) (n : NewNodeValue) (o : Option NodePage) → pages b ≡ o → option_and_then (node_of_stream stream) o ≡ Some n → IsPageOf pages stream b n
some-page pages stream b n None e at = absurd (cc)
some-page pages stream b n (Some page) e at =
    let of = stream-of stream page n at in record { page = page; is = e; its_stream = of.0; says = of.1 }

-- A node of a stream is that of a page.
pub page-in : (pages : Pages) (stream b : ℕ) (n : NewNodeValue) → nodes_in pages stream b ≡ Some n → IsPageOf pages stream b n
page-in pages stream b n at = some-page pages stream b n (pages b) refl at

says-node : (stream : ℕ) (n : NewNodeValue) → node_of_page (page_of stream n) ≡ n → node_of_stream stream (page_of stream n) ≡ Some n
says-node stream n says =
    let same : nat_eq (header (page_of stream n)).stream stream ≡ true = grind (arith, nat_tests, page_of-stream stream n) in
    ap (λ t. cond t (Some (node_of_page (page_of stream n))) None) same ∙ ap Some says

map-nodes : (stream : ℕ) (o : Option NewNodeValue) → ((n : NewNodeValue) → o ≡ Some n → node_of_page (page_of stream n) ≡ n) → option_and_then (node_of_stream stream) (option_map (page_of stream) o) ≡ o
map-nodes stream None says = refl
map-nodes stream (Some n) says = says-node stream n (says n refl)

-- The pages of nodes are the nodes, laid from a block on.
nodes-laid : (pages : Pages) (stream first : ℕ) (reported : List NewNodeValue) → ((i : ℕ) (n : NewNodeValue) → slice_get reported i ≡ Some n → node_of_page (page_of stream n) ≡ n) → (b : ℕ) → nodes_in (with_pages pages first (pages_of stream reported)) stream b ≡ laid (nodes_in pages stream) first reported b
nodes-laid pages stream first reported says b =
    elim (nat_lt b first) as (λ t. option_and_then (node_of_stream stream) (cond t (pages b) (slice_get (pages_of stream reported) (b - first))) ≡ cond t (nodes_in pages stream b) (slice_get reported (b - first))) [
      | true ↦ refl
      | false ↦ ap (option_and_then (node_of_stream stream)) (slice_get-map (page_of stream) reported (b - first)) ∙ map-nodes stream (slice_get reported (b - first)) (says (b - first))
    ]

reported-page : (pages : Pages) (stream first : ℕ) (reported : List NewNodeValue) (b : ℕ) (n : NewNodeValue) → first ≤ b → slice_get reported (b - first) ≡ Some n → with_pages pages first (pages_of stream reported) b ≡ Some (page_of stream n)
reported-page pages stream first reported b n le at =
    with-new pages first (pages_of stream reported) b le ∙ slice_get-map (page_of stream) reported (b - first) ∙ ap (option_map (page_of stream)) at

-- ---- the values of points that are stored

abbrev Values : List Point → Type 0
Values ps = AllByRecursion (λ p. IsValue p.value) ps

fits-value : (p : Point) → FitsSigned w64 p.value → IsValue p.value
fits-value p fits = (omega (arith, ints), omega (arith, ints))

no-points : (b : List Point) → length b ≡ 0 → Values b
no-points [] e = tt
no-points (p ∷ b) e = absurd (omega arith)

prefix-values : (k : ℕ) (s : ℤ) (h : Past) → ((i : ℕ) → i < 64 → Values (points_of k (slot_start k s i) (bag h))) → (n : ℕ) → n ≤ 64 → Values (within s (slot_start k s n) (bag h))
prefix-values k s h each zero le = subst Values (sym (prefix-none k s h)) tt
prefix-values k s h each (suc n) le =
    let e : n + 1 ≡ suc n = omega arith in
    let parts : within s (slot_start k s (suc n)) (bag h) ≡ within s (slot_start k s n) (bag h) ++ points_of k (slot_start k s n) (bag h) = ap (λ j. within s (slot_start k s j) (bag h)) (sym e) ∙ prefix-next k s n h in
    subst Values (sym parts) (each-append (λ p. IsValue p.value) (within s (slot_start k s n) (bag h)) (points_of k (slot_start k s n) (bag h)) (prefix-values k s h each n (omega arith)) (each n (omega arith)))

-- A page that is there keeps the table, and its numbers fit.
pub kept-at : (pages : Pages) → AreKept pages → (b : ℕ) (page : NodePage) → pages b ≡ Some page → Keeps page × Fits page
kept-at pages kept b page at = subst (λ o. IfSome o (λ q. Keeps q × Fits q)) at (kept b)

leaf-points : (pages : Pages) (stream : ℕ) (h : Past) (k : ℕ) (s : ℤ) (v b : ℕ) (n : NewNodeValue) → AreKept pages → 0 < length (points_of k s (bag h)) → nodes_in pages stream b ≡ Some n → IsLeafNode h k s v n → Values (points_of k s (bag h))
leaf-points pages stream h k s v b n kept some at leaf =
    let of = page-in pages stream b n at in
    let fits = kept-at pages kept b of.page of.is in
    each-weaker FitsPoint (λ p. IsValue p.value) (λ p fit. fits-value p fit.value) (points_of k s (bag h)) (leaf-values of.page (record { start = s; height = k }) v (points_of k s (bag h)) fits.1 (of.says ∙ leaf.is) some)

stored-values : (pages : Pages) (stream : ℕ) (h : Past) (k : ℕ) (s : ℤ) (above : List Point → Bool) (block : ℕ) → AreKept pages → HasNoCrowdedSpan FIRST END (bag h) → IsSpan (record { start = s; height = k }) → Leads (In (nodes_in pages stream)) k s above h block → Values (points_of k s (bag h))
stored-values pages stream h zero s above block kept room aligned leads =
    let G = In (nodes_in pages stream) in
    elim (cases_lt 0 (length (points_of zero s (bag h)))) [
      | inl some ↦
          let to = leads-to G zero s above h block some leads in
          elim (node-kind G h zero s above block to.links (node_version above zero s h) room aligned refl to.on) [
            | inl leaf ↦ leaf-points pages stream h zero s (node_version above zero s h) block (node_to to.links zero s above h) kept some to.is leaf
            | inr inner ↦ absurd (grind (arith, inner.height))
          ]
      | inr none ↦ no-points (points_of zero s (bag h)) (omega arith)
    ]
stored-values pages stream h (suc k) s above block kept room aligned leads =
    let G = In (nodes_in pages stream) in
    elim (cases_lt 0 (length (points_of (suc k) s (bag h)))) [
      | inl some ↦
          let to = leads-to G (suc k) s above h block some leads in
          elim (node-kind G h (suc k) s above block to.links (node_version above (suc k) s h) room aligned refl to.on) [
            | inl leaf ↦ leaf-points pages stream h (suc k) s (node_version above (suc k) s h) block (node_to to.links (suc k) s above h) kept some to.is leaf
            | inr inner ↦
                let same : inner.below ≡ k = omega (arith, inner.height) in
                let many = subst (λ j. LEAF_POINTS < length (points_of (suc j) s (bag h))) same inner.many in
                subst Values (prefix-all k s h) (prefix-values k s h (λ i lt. stored-values pages stream h k (slot_start k s i) (is_inner (suc k) s) (to.links i) kept room (part-aligned k s i lt aligned) (to.on many i lt).1) 64 (omega arith))
          ]
      | inr none ↦ no-points (points_of (suc k) s (bag h)) (omega arith)
    ]

-- The values of a tree that is stored in pages, and after a commit.
tree-values : (pages : Pages) (stream : ℕ) (h : Past) (old : TreeValue) → AreKept pages → IsTree h old → IsStored (nodes_in pages stream) 10 FIRST old.node → Values (bag h)
tree-values pages stream h old kept tree stored =
    let f = nodes_in pages stream in
    subst Values (root-points (bag h) tree.times) (stored-values pages stream h 10 FIRST above_root (block_of old.node) kept (tree-room h old.node tree.times tree.node) root-aligned (stored-leads f (In f) (λ b n at. at) 10 FIRST above_root h old.node tree.node stored))

values-after : (h : Past) (c : Commit) → Values (bag h) → Values c.added → Values (bag (c ▷ h))
values-after h c old added =
    each-sort (λ p. IsValue p.value) (outside (bag h) c.cut ++ c.added) (each-append (λ p. IsValue p.value) (outside (bag h) c.cut) c.added (each-filter (λ p. IsValue p.value) (λ p. not (covered c.cut p.time)) (bag h) old) added)

-- ---- the node in a block, when the pages of a commit are there

-- The older nodes of a stream, and the reported ones from a block on.
abbrev pub Reported : Pages → ℕ → ℕ → ℕ → List NewNodeValue → ℕ → NewNodeValue → Type 0
Reported pages stream first v reported = In (laid (older v (nodes_in pages stream)) first reported)

-- What is known of a commit and of the nodes that it wrote.
pub record IsWritten (pages : Pages) (stream first : ℕ) (h : Past) (c : Commit) (reported : List NewNodeValue) : Type 0 where
  pub some : 0 < c.version
  pub before : IsBefore c.version h
  pub room : HasNoCrowdedSpan FIRST END (bag (c ▷ h))
  pub few : length (bag (c ▷ h)) ≤ MAX_POINTS
  pub top : c.version ≤ 4294967295
  pub kept : AreKept pages
  pub each : (i : ℕ) (n : NewNodeValue) → slice_get reported i ≡ Some n → IsReported (Reported pages stream first c.version reported) (c ▷ h) c.version (first + i) n

-- A node that was reported is a leaf or an inner node.
pub record IsReportedNode (pages : Pages) (stream first : ℕ) (h : Past) (c : Commit) (reported : List NewNodeValue) (block : ℕ) (n : NewNodeValue) : Type 0 where
  pub height : ℕ
  pub start : ℤ
  pub aligned : IsSpan (record { start = start; height = height })
  pub points : 0 < length (points_of height start (bag (c ▷ h)))
  pub kind : IsLeafNode (c ▷ h) height start c.version n ⊎ IsInnerNode (Reported pages stream first c.version reported) (c ▷ h) height start c.version block n

known : (pages : Pages) (stream first : ℕ) (h : Past) (c : Commit) (reported : List NewNodeValue) → IsWritten pages stream first h c reported → (i : ℕ) (n : NewNodeValue) → slice_get reported i ≡ Some n → IsReportedNode pages stream first h c reported (first + i) n
known pages stream first h c reported w i n at =
    let t = w.each i n at in
    let G = Reported pages stream first c.version reported in
    let kind = node-kind G (c ▷ h) t.height t.start t.above (first + i) t.links c.version w.room t.aligned t.version t.on in
    record {
      height = t.height;
      start = t.start;
      aligned = t.aligned;
      points = t.points;
      kind = subst (λ (m : NewNodeValue). IsLeafNode (c ▷ h) t.height t.start c.version m ⊎ IsInnerNode G (c ▷ h) t.height t.start c.version (first + i) m) (sym t.is) kind;
    }

-- The page of a reported node says it.
reported-says : (pages : Pages) (stream first : ℕ) (h : Past) (c : Commit) (reported : List NewNodeValue) → IsWritten pages stream first h c reported → (i : ℕ) (n : NewNodeValue) → slice_get reported i ≡ Some n → node_of_page (page_of stream n) ≡ n
reported-says pages stream first h c reported w i n at =
    let k = known pages stream first h c reported w i n at in
    let Says = λ (m : NewNodeValue). node_of_page (page_of stream m) ≡ m in
    elim k.kind [
      | inl leaf ↦ subst Says (sym leaf.is) (leaf-again stream k.start k.height c.version (points_of k.height k.start (bag (c ▷ h))) leaf.few)
      | inr inner ↦ subst Says (sym inner.is) (inner-again stream k.start (suc inner.below) c.version (slots_to inner.links inner.below k.start (c ▷ h)) (slots-length inner.links inner.below k.start (c ▷ h)))
    ]

-- A node that is there has a version from 1 on.
reported-versioned : (pages : Pages) (stream first : ℕ) (h : Past) (c : Commit) (reported : List NewNodeValue) → IsWritten pages stream first h c reported → (b : ℕ) (n : NewNodeValue) → Reported pages stream first c.version reported b n → 1 ≤ n.version
reported-versioned pages stream first h c reported w b n at =
    elim (laid-at (older c.version (nodes_in pages stream)) first reported b n at) [
      | inl old ↦
          let is = older-is c.version (nodes_in pages stream b) n old.1 in
          let of = page-in pages stream b n is.0 in
          let keeps = kept-at pages w.kept b of.page of.is in
          subst (λ v. 1 ≤ v) (page-version of.page ∙ ap (λ (m : NewNodeValue). m.version) of.says) (page-versioned of.page keeps.0)
      | inr new ↦
          let t = w.each (b - first) n new.1 in
          let is : n.version ≡ c.version = ap (λ (m : NewNodeValue). m.version) t.is ∙ node_to-version t.links t.height t.start t.above (c ▷ h) ∙ t.version in
          let some = w.some in
          omega arith
    ]

points-few : (k : ℕ) (s : ℤ) (b : List Point) → length (points_of k s b) ≤ length b
points-few k s b = length-filter (is_within s (s +ℤ pos (width k))) b

-- Each slot of a reported inner node keeps the table.
slot-keeps : (pages : Pages) (stream first : ℕ) (h : Past) (c : Commit) (reported : List NewNodeValue) (block : ℕ) (links : ℕ → ℕ) (below : ℕ) (s : ℤ) → IsWritten pages stream first h c reported → (i : ℕ) → Leads (Reported pages stream first c.version reported) below (slot_start below s i) (is_inner (suc below) s) (c ▷ h) (links i) → IsSlot c.version (page_slot (slot_to (links i) (slot_of_points (suc below) s below (slot_start below s i) (c ▷ h))))
slot-keeps pages stream first h c reported block links below s w i leads =
    let G = Reported pages stream first c.version reported in
    let t = slot_start below s i in
    let above = is_inner (suc below) s in
    let count = agg-count (points_of below t (bag (c ▷ h))) in
    record {
      version_to = version-at_most above below t h c w.some w.before;
      no_child = λ none. leads-nowhere G below t above (c ▷ h) (links i) (omega arith) leads;
      has_version = λ some.
          let points : 0 < length (points_of below t (bag (c ▷ h))) = omega arith in
          let to = leads-to G below t above (c ▷ h) (links i) points leads in
          let from = reported-versioned pages stream first h c reported w (links i) (node_to to.links below t above (c ▷ h)) to.is in
          subst (λ v. 1 ≤ v) (node_to-version to.links below t above (c ▷ h) ∙ sym (version-same above below t (c ▷ h) points)) from;
      has_child = λ some.
          let points : 0 < length (points_of below t (bag (c ▷ h))) = omega arith in
          (leads-to G below t above (c ▷ h) (links i) points leads).some;
    }

-- The page of a reported node keeps the table.
reported-keeps : (pages : Pages) (stream first : ℕ) (h : Past) (c : Commit) (reported : List NewNodeValue) → IsWritten pages stream first h c reported → (i : ℕ) (n : NewNodeValue) → slice_get reported i ≡ Some n → Keeps (page_of stream n)
reported-keeps pages stream first h c reported w i n at =
    let k = known pages stream first h c reported w i n at in
    let H = c ▷ h in
    elim k.kind [
      | inl leaf ↦ subst (λ (m : NewNodeValue). Keeps (page_of stream m)) (sym leaf.is) (leaf-keeps stream k.start k.height c.version H k.aligned w.some w.top k.points leaf.few)
      | inr inner ↦
          let ss = slots_to inner.links inner.below k.start H in
          let few = w.few in
          let many = inner.many in
          let part = points-few (suc inner.below) k.start (bag H) in
          let aligned : IsSpan (record { start = k.start; height = suc inner.below }) = subst (λ j. IsSpan (record { start = k.start; height = j })) inner.height k.aligned in
          let each = each-first (λ x. IsSlot c.version (page_slot x)) 64 (λ j. slot_to (inner.links j) (slot_of_points (suc inner.below) k.start inner.below (slot_start inner.below k.start j) H) ∷ []) (λ j lt. (slot-keeps pages stream first h c reported (first + i) inner.links inner.below k.start w j (inner.on j lt).1, tt)) in
          subst (λ (m : NewNodeValue). Keeps (page_of stream m)) (sym inner.is) (inner-keeps stream k.start inner.below c.version (length (points_of (suc inner.below) k.start (bag H))) ss aligned w.some w.top (slots-length inner.links inner.below k.start H) (slots-count inner.links inner.below k.start H) (omega arith) (omega arith) each)
    ]

-- ---- the page of a slot's child

-- The page in the block of a node that is there, when the pages of a commit are.
record HasPage (pages : Pages) (stream b : ℕ) (n : NewNodeValue) : Type 0 where
  pub page : NodePage
  pub is : pages b ≡ Some page
  pub its_stream : (header page).stream ≡ stream
  pub says : node_of_page page ≡ n
  pub keeps : Keeps page
  pub places : HasPlaces page

has-page : (pages : Pages) (stream first : ℕ) (h : Past) (c : Commit) (reported : List NewNodeValue) → IsWritten pages stream first h c reported → (b : ℕ) (n : NewNodeValue) → Reported pages stream first c.version reported b n → HasPage (with_pages pages first (pages_of stream reported)) stream b n
has-page pages stream first h c reported w b n at =
    elim (laid-at (older c.version (nodes_in pages stream)) first reported b n at) [
      | inl old ↦
          let is = older-is c.version (nodes_in pages stream b) n old.1 in
          let of = page-in pages stream b n is.0 in
          let kept = kept-at pages w.kept b of.page of.is in
          record {
            page = of.page;
            is = with-old pages first (pages_of stream reported) b old.0 ∙ of.is;
            its_stream = of.its_stream;
            says = of.says;
            keeps = kept.0;
            places = fits-places of.page kept.1;
          }
      | inr new ↦
          record {
            page = page_of stream n;
            is = reported-page pages stream first reported b n new.0 new.1;
            its_stream = page_of-stream stream n;
            says = reported-says pages stream first h c reported w (b - first) n new.1;
            keeps = reported-keeps pages stream first h c reported w (b - first) n new.1;
            places = page_of-places stream n;
          }
    ]

-- The count of a page of a span.
page-count : (pages : Pages) (stream first : ℕ) (h : Past) (c : Commit) (reported : List NewNodeValue) → IsWritten pages stream first h c reported → (k : ℕ) (s : ℤ) (above : List Point → Bool) (block : ℕ) (page : NodePage) → IsSpan (record { start = s; height = k }) → 0 < length (points_of k s (bag (c ▷ h))) → (to : LeadsTo (Reported pages stream first c.version reported) k s above (c ▷ h) block) → node_of_page page ≡ node_to to.links k s above (c ▷ h) → Keeps page → HasPlaces page → (header page).count ≡ length (points_of k s (bag (c ▷ h)))
page-count pages stream first h c reported w k s above block page aligned some to says keeps places =
    let H = c ▷ h in
    let v = node_version above k s H in
    elim (node-kind (Reported pages stream first c.version reported) H k s above block to.links v w.room aligned refl to.on) [
      | inl leaf ↦ leaf-count page (record { start = s; height = k }) v (points_of k s (bag H)) keeps places (says ∙ leaf.is) some
      | inr inner ↦
          let long = slots-length inner.links inner.below s H in
          inner-count page (record { start = s; height = suc inner.below }) v (slots_to inner.links inner.below s H) keeps (says ∙ inner.is) (omega arith)
          ∙ slots-count inner.links inner.below s H
          ∙ ap (λ j. length (points_of j s (bag H))) (sym inner.height)
    ]

-- The child of a slot that has a point.
child-page : (pages : Pages) (stream first : ℕ) (h : Past) (c : Commit) (reported : List NewNodeValue) → IsWritten pages stream first h c reported → (block : ℕ) (parent : NodePage) (below : ℕ) (s : ℤ) (link i : ℕ) → (header parent).stream ≡ stream → span_of_page parent ≡ record { start = s; height = suc below } → IsSpan (record { start = s; height = suc below }) → i < 64 → (link < block) × Leads (Reported pages stream first c.version reported) below (slot_start below s i) (is_inner (suc below) s) (c ▷ h) link → 0 < length (points_of below (slot_start below s i) (bag (c ▷ h))) → HasChildPage (with_pages pages first (pages_of stream reported)) block parent i (page_slot (slot_to link (slot_of_points (suc below) s below (slot_start below s i) (c ▷ h))))
child-page pages stream first h c reported w block parent below s link i of_stream of_span aligned lt next some =
    let H = c ▷ h in
    let t = slot_start below s i in
    let above = is_inner (suc below) s in
    let to = leads-to (Reported pages stream first c.version reported) below t above H link some next.1 in
    let n = node_to to.links below t above H in
    let has = has-page pages stream first h c reported w link n to.is in
    record {
      lower = next.0;
      child = has.page;
      is = has.is;
      fits = record {
        stream = has.its_stream ∙ sym of_stream;
        span = page-span has.page ∙ ap (λ (m : NewNodeValue). m.span) has.says ∙ node_to-span to.links below t above H
            ∙ sym (slot-part (record { start = s; height = suc below }) below i refl)
            ∙ ap (λ (u : SpanValue). slot_of u i) (sym of_span);
        version = page-version has.page ∙ ap (λ (m : NewNodeValue). m.version) has.says ∙ node_to-version to.links below t above H ∙ sym (version-same above below t H some);
        count = page-count pages stream first h c reported w below t above link has.page (part-aligned below s i lt aligned) some to has.says has.keeps has.places ∙ sym (agg-count (points_of below t (bag H)));
      };
    }

-- The page of a reported inner node: each slot that has a point has its child's page.
inner-children : (pages : Pages) (stream first : ℕ) (h : Past) (c : Commit) (reported : List NewNodeValue) → IsWritten pages stream first h c reported → (block k : ℕ) (s : ℤ) (n : NewNodeValue) → IsSpan (record { start = s; height = k }) → (inner : IsInnerNode (Reported pages stream first c.version reported) (c ▷ h) k s c.version block n) → (i : ℕ) → IfSome (slice_get (slots_of_page (page_of stream n)) i) (λ slot. 0 < slot.agg.count → HasChildPage (with_pages pages first (pages_of stream reported)) block (page_of stream n) i slot)
inner-children pages stream first h c reported w block k s n aligned inner i =
    let H = c ▷ h in
    let below = inner.below in
    let ss = slots_to inner.links below s H in
    let long = slots-length inner.links below s H in
    let P = with_pages pages first (pages_of stream reported) in
    let m : NewNodeValue = record { span = record { start = s; height = suc below }; version = c.version; points = []; slots = ss } in
    let page = inner-page_of stream (record { start = s; height = suc below }) c.version [] ss long in
    let Children = λ (p : NodePage). IfSome (slice_get (slots_of_page p) i) (λ slot. 0 < slot.agg.count → HasChildPage P block p i slot) in
    let high : IsSpan (record { start = s; height = suc below }) = subst (λ j. IsSpan (record { start = s; height = j })) inner.height aligned in
    let parent = page_of stream m in
    let At = λ (o : Option PageSlot). IfSome o (λ slot. 0 < slot.agg.count → HasChildPage P block parent i slot) in
    let get : slice_get (slots_of_page parent) i ≡ option_map page_slot (slice_get ss i) = ap (λ (p : NodePage). slice_get (slots_of_page p) i) page ∙ slice_get-map page_slot ss i in
    subst (λ (x : NewNodeValue). Children (page_of stream x)) (sym inner.is) (elim (cases_lt i 64) [
      | inl lt ↦
          let t = slot_start below s i in
          let at : slice_get (slots_of_page parent) i ≡ Some (page_slot (slot_to (inner.links i) (slot_of_points (suc below) s below t H))) = get ∙ ap (option_map page_slot) (slots-get inner.links below s H i lt) in
          subst At (sym at) (λ some.
          let count = agg-count (points_of below t (bag H)) in
          child-page pages stream first h c reported w block parent below s (inner.links i) i (page_of-stream stream m) (ap span_of_page page) high lt (inner.on i lt) (omega arith))
      | inr le ↦ subst At (sym (get ∙ ap (option_map page_slot) (slice_get_past ss i (omega arith)))) tt
    ])

-- A page of a reported node stands rightly.
reported-stands : (pages : Pages) (stream first : ℕ) (h : Past) (c : Commit) (reported : List NewNodeValue) → IsWritten pages stream first h c reported → (i : ℕ) (n : NewNodeValue) → slice_get reported i ≡ Some n → IsPageAt (with_pages pages first (pages_of stream reported)) (first + i) (page_of stream n)
reported-stands pages stream first h c reported w i n at =
    let k = known pages stream first h c reported w i n at in
    let P = with_pages pages first (pages_of stream reported) in
    record {
      keeps = reported-keeps pages stream first h c reported w i n at;
      children = λ j. elim k.kind [
        | inl leaf ↦ subst (λ (m : NewNodeValue). IfSome (slice_get (slots_of_page (page_of stream m)) j) (λ slot. 0 < slot.agg.count → HasChildPage P (first + i) (page_of stream m) j slot)) (sym leaf.is) tt
        | inr inner ↦ inner-children pages stream first h c reported w (first + i) k.height k.start n k.aligned inner j
      ];
    }

reported-stand : (pages : Pages) (stream first : ℕ) (h : Past) (c : Commit) (reported : List NewNodeValue) → IsWritten pages stream first h c reported → ArePages pages first (pages_of stream reported)
reported-stand pages stream first h c reported w i =
    let P = with_pages pages first (pages_of stream reported) in
    let At = λ (o : Option NodePage). IfSome o (λ page. IsPageAt P (first + i) page) in
    subst At (sym (slice_get-map (page_of stream) reported i)) (elim (slice_get reported i) as (λ o. slice_get reported i ≡ o → At (option_map (page_of stream) o)) [
      | None ↦ λ e. tt
      | Some n ↦ λ e. reported-stands pages stream first h c reported w i n e
    ] refl)

-- ---- the numbers of the new pages fit

each-at : {X : Type 0} (P : X → Type 0) (xs : List X) → ((i : ℕ) (x : X) → slice_get xs i ≡ Some x → P x) → AllByRecursion P xs
each-at P [] h = tt
each-at P (x ∷ xs) h = (h 0 x refl, each-at P xs (λ i y at. h (suc i) y at))

reported-fits : (pages : Pages) (stream first : ℕ) (h : Past) (c : Commit) (reported : List NewNodeValue) → IsWritten pages stream first h c reported → Values (bag (c ▷ h)) → stream < 2 ^ 32 → first + length reported < 2 ^ 64 → (i : ℕ) (n : NewNodeValue) → slice_get reported i ≡ Some n → Fits (page_of stream n)
reported-fits pages stream first h c reported w values low blocks i n at =
    let k = known pages stream first h c reported w i n at in
    let H = c ▷ h in
    let place = slice_get_within reported i n at in
    elim k.kind [
      | inl leaf ↦ subst (λ (m : NewNodeValue). Fits (page_of stream m)) (sym leaf.is) (leaf-fits stream k.start k.height c.version (bag H) k.aligned low w.top leaf.few values)
      | inr inner ↦
          let below = inner.below in
          let few = w.few in
          let top = w.top in
          let aligned : IsSpan (record { start = k.start; height = suc below }) = subst (λ j. IsSpan (record { start = k.start; height = j })) inner.height k.aligned in
          let slot = λ (j : ℕ) (lt : j < 64).
          let t = slot_start below k.start j in
          let part = points_of below t (bag H) in
          let short = points-few below t (bag H) in
          let fine = each-filter (λ p. IsValue p.value) (is_within t (t +ℤ pos (width below))) (bag H) values in
          let version = version-at_most (is_inner (suc below) k.start) below t h c w.some w.before in
          let link = (inner.on j lt).0 in
          slot-fits part (slot_version (suc below) k.start below t H) (inner.links j) fine (omega arith) (omega arith) (omega arith)
          in
          let each = each-first (λ x. FitsSlot (page_slot x)) 64 (λ j. slot_to (inner.links j) (slot_of_points (suc below) k.start below (slot_start below k.start j) H) ∷ []) (λ j lt. (slot j lt, tt)) in
          subst (λ (m : NewNodeValue). Fits (page_of stream m)) (sym inner.is) (inner-fits stream k.start (suc below) c.version (slots_to inner.links below k.start H) aligned low w.top (slots-length inner.links below k.start H) each)
    ]

-- ---- all together

written : (pages : Pages) (stream first : ℕ) (h : Past) (c : Commit) (old new : TreeValue) (reported : List NewNodeValue) → IsReportedOf pages stream first h c old → IsReportedBy first h c old new reported → IsWritten pages stream first h c reported
written pages stream first h c old new reported of by =
    let f = older c.version (nodes_in pages stream) in
    let g = laid f first reported in
    let before : IsBelow f first 10 FIRST old.node = record {
      stored = stored-older (nodes_in pages stream) c.version 10 FIRST above_root h old.node of.some of.before of.tree.node of.stored.stored;
      below = of.stored.below;
    }
    in
    let after = by.laid f before in
    let leads = stored-leads g (In g) (λ b n at. at) 10 FIRST above_root (c ▷ h) new.node by.tree.node after.stored in
    record {
      some = of.some;
      before = of.before;
      room = tree-room (c ▷ h) new.node by.tree.times by.tree.node;
      few = by.tree.few;
      top = of.version_to;
      kept = of.kept;
      each = reported-node f first reported (c ▷ h) c.version (block_of new.node) (λ b n at. (older-is c.version (nodes_in pages stream b) n at).1) by.nodes leads;
    }

-- The pages of the nodes that a commit wrote stand rightly, and the new tree is stored in them.
pub reported-pages : (pages : Pages) (stream first : ℕ) (h : Past) (c : Commit) (old new : TreeValue) (reported : List NewNodeValue) → IsReportedOf pages stream first h c old → IsReportedBy first h c old new reported → AreReported pages stream first reported new
reported-pages pages stream first h c old new reported of by =
    let w = written pages stream first h c old new reported of by in
    let values = values-after h c (tree-values pages stream h old of.kept of.tree of.stored.stored) (each-weaker (λ p. FitsSigned w64 p.value) (λ p. IsValue p.value) fits-value c.added of.values) in
    let f = nodes_in pages stream in
    let after = by.laid f of.stored in
    let same = nodes-laid pages stream first reported (reported-says pages stream first h c reported w) in
    record {
      stand = reported-stand pages stream first h c reported w;
      fit = each-map (page_of stream) Fits reported (each-at (λ n. Fits (page_of stream n)) reported (reported-fits pages stream first h c reported w values of.stream_to by.blocks));
      stored = record {
        stored = stored-below (laid f first reported) (nodes_in (with_pages pages first (pages_of stream reported)) stream) (first + length reported) (λ b lt. same b) 10 FIRST new.node after.below after.stored;
        below = after.below;
      };
    }

-- Pages that keep the table, and some more that stand rightly and fit, keep it.
pub kept-more : (pages : Pages) (first : ℕ) (new : List NodePage) → AreKept pages → ArePages pages first new → AllByRecursion Fits new → AreKept (with_pages pages first new)
kept-more pages first new kept stand fit b =
    let P = with_pages pages first new in
    elim (P b) as (λ o. P b ≡ o → IfSome o (λ page. Keeps page × Fits page)) [
      | None ↦ λ e. tt
      | Some page ↦ λ e. elim (with-either pages first new b page e) [
        | inl old ↦ kept-at pages kept b page old.1
        | inr fresh ↦
            let stands = subst (λ o. IfSome o (λ q. IsPageAt P (first + (b - first)) q)) fresh.1 (stand (b - first)) in
            (stands.keeps, each-get Fits new (b - first) page fit fresh.1)
      ]
    ] refl

-- A tree that is stored below a block is stored below each higher one.
pub below-more : (store : Store) (first later k : ℕ) (s : ℤ) (child : Option NodeData) → first ≤ later → IsBelow store first k s child → IsBelow store later k s child
below-more store first later k s child le h =
    let low = h.below in record { stored = h.stored; below = omega arith }
