-- Lemmas on roots: when a root leads to the tree of its version.
use Rattle.std.specs.Prelude.{◌≡◌, ◌↔◌, ℕ, suc, zero, ◌<◌, ◌≤◌, ℤ, nat_eq, Bool, true, false, IsTrue, List, [], ◌∷◌, length, slice_get, Option, Some, None, IfSome, IsSome}
use Rattle.std.proofs.Common.{refl, sym, ap, ◌∙◌, subst, arith, inl, inr}
use Rattle.std.proofs.lemmas.Bool.{cases_lt}
use Rattle.std.proofs.lemmas.Bool.Decides.{nat_tests}
use Rattle.std.proofs.lemmas.Option.{same_Some}
use Rattle.btr_base.specs.declared.limits.TheConstants.{FIRST}
use Rattle.btr_base.specs.declared.point.Point.{Point}
use Rattle.btr_base.specs.Span.{SpanValue}
use Rattle.btr_tree.specs.declared.node.Link.{Link}
use Rattle.btr_tree.specs.declared.node.NodeData.{NodeData, out-NodeData}
use Rattle.btr_tree.specs.declared.node.NodeData.TheOpen.{NodeData-F}
use Rattle.btr_tree.specs.declared.slots.Kept.{Kept}
use Rattle.btr_tree.specs.declared.slots.Slots.{Slots}
use Rattle.btr_tree.specs.History.{Past, bag}
use Rattle.btr_tree.specs.Leads.{Leads}
use Rattle.btr_tree.specs.NewNodes.{NewNodeValue}
use Rattle.btr_tree.specs.Nodes.{points_of, is_node, above_root, node_version, up_to}
use Rattle.btr_tree.specs.Root.{TreeValue, IsTree, root_part, version_of, version_of_kind}
use Rattle.btr_tree.specs.Shape.{ByKind, IsLeaf, IsInner, IsChild}
use Rattle.btr_tree.specs.Stored.{Store}
use Rattle.btr_tree.proofs.RootLemmas.{root-points, span-whole}
use Rattle.btr_tree.proofs.UntouchedNodeLemmas.{some-has}
use Rattle.btr_node.specs.Page.{header, Keeps, span_of_page}
use Rattle.btr_node.specs.declared.page.NodePage.{NodePage}
use Rattle.btr_node.specs.declared.page.NodePage.TheVariants.{Leaf, Inner}
use Rattle.btr_tree.specs.PageNodes.{Pages, nodes_in, node_of_page}
use Rattle.btr_pages.specs.Pages.{HasRootPage}
use Rattle.btr_pages.specs.Known.{KnownValue, TreesValue, AreKnown, node_at}
use Rattle.btr_pages.proofs.KnownLemmas.{known-at, block-at}
use Rattle.btr_pages.proofs.ReportedLemmas.{page-in}
use Rattle.btr_hist.specs.declared.entry.Entry.{Entry}
use Rattle.btr_streams.specs.declared.snapshot.Snapshot.{Snapshot}
use Rattle.btr_streams.specs.Past.{commits_to}
use Rattle.btr_streams.specs.Board.{HasVersion, IsTreeOf}
use Rattle.btr_verify.specs.Judged.{version_in, IsIn, IsRight, HasRight}
use Rattle.btr_verify.specs.FirstWrong.{IsFirstWrong, IsFirstWrongIn, IsRootOfNone, IsWrongRoot}
use Rattle.btr_verify.proofs.AboveLemmas.{root-above}
use Rattle.btr_verify.proofs.OwnLemmas.{right-from, leads-from}
use Rattle.btr_verify.specs.declared.verifying.Made.{Made}
use Rattle.btr_verify.specs.declared.judging.Mark.{Mark}
use Rattle.btr_verify.specs.declared.judging.Mark.TheVariants.{Right}
use Rattle.btr_verify.specs.Trees.{past_of, version_points, IsCommitOf, AreCommitsOf, LeadsToTree, IsFirstThatFails, IsFirstWrongNode}
use Rattle.btr_verify.specs.Judging.{HasPageVersion, WereJudged, HasTreeVersion, IsFirstWrongFrom, IsPageNotRight}
use Rattle.btr_verify.proofs.StreamPastLemmas.{past-rising, past-to}
use Rattle.btr_verify.proofs.JudgeLemmas.{page-aligned, node-version, stored-page, node-here, one-in, page-right, right-marked}

-- ---- the version of a tree's root

zero-version : (s : ℤ) (above : List Point → Bool) (h : Past) (n : NodeData-F NodeData Link Kept Slots) → ByKind (λ v ps. IsLeaf zero s above h v ps) (λ v x. ⊥) n → version_of_kind n ≡ node_version above zero s h
zero-version s above h (NodeData-F.Leaf block v ps) l = l.version
zero-version s above h (NodeData-F.Inner block v x) l = absurd l

kind-version : (k : ℕ) (s : ℤ) (above : List Point → Bool) (h : Past) (More : Slots → Type 0) (n : NodeData-F NodeData Link Kept Slots) → ByKind (λ v ps. IsLeaf (suc k) s above h v ps) (λ v x. IsInner k s above h v x × More x) n → version_of_kind n ≡ node_version above (suc k) s h
kind-version k s above h More (NodeData-F.Leaf block v ps) l = l.version
kind-version k s above h More (NodeData-F.Inner block v x) n = n.0.version

child-version : (k : ℕ) (s : ℤ) (above : List Point → Bool) (h : Past) (child : Option NodeData) → IsChild k s above h child → 0 < length (points_of k s (bag h)) → version_of child ≡ node_version above k s h
child-version k s above h None is some = let none = ap (length {A = Point}) is in absurd (omega arith)
child-version zero s above h (Some n) is some = zero-version s above h (out-NodeData n) is
child-version (suc k) s above h (Some n) is some = kind-version k s above h _ (out-NodeData n) is

zero-points : (s : ℤ) (above : List Point → Bool) (h : Past) (n : NodeData-F NodeData Link Kept Slots) → ByKind (λ v ps. IsLeaf zero s above h v ps) (λ v x. ⊥) n → 0 < length (points_of zero s (bag h))
zero-points s above h (NodeData-F.Leaf block v ps) l = subst (λ (xs : List Point). 0 < length xs) l.same l.some
zero-points s above h (NodeData-F.Inner block v x) l = absurd l

kind-points : (k : ℕ) (s : ℤ) (above : List Point → Bool) (h : Past) (More : Slots → Type 0) (n : NodeData-F NodeData Link Kept Slots) → ByKind (λ v ps. IsLeaf (suc k) s above h v ps) (λ v x. IsInner k s above h v x × More x) n → 0 < length (points_of (suc k) s (bag h))
kind-points k s above h More (NodeData-F.Leaf block v ps) l = subst (λ (xs : List Point). 0 < length xs) l.same l.some
kind-points k s above h More (NodeData-F.Inner block v x) n = let many = n.0.many in omega arith

child-points : (k : ℕ) (s : ℤ) (above : List Point → Bool) (h : Past) (child : Option NodeData) → IsChild k s above h child → 0 < version_of child → 0 < length (points_of k s (bag h))
child-points k s above h None is some = absurd (omega arith)
child-points zero s above h (Some n) is some = zero-points s above h (out-NodeData n) is
child-points (suc k) s above h (Some n) is some = kind-points k s above h _ (out-NodeData n) is

page-from : (page : NodePage) → Keeps page → 1 ≤ (header page).version
page-from (Leaf start height stream version count points) keeps = keeps.fields.version_from
page-from (Inner start height stream version count slots) keeps = keeps.fields.version_from

no-length : (ps : List Point) → length ps ≡ 0 → ps ≡ []
no-length [] e = refl
no-length (p ∷ ps) e = absurd (omega arith)

-- The number of points of a tree is 0 exactly if the version has none.
pub no-points : (h : List Entry) (stream version count : ℕ) (t : TreeValue) → IsTreeOf h stream version t → (IsTree (commits_to h stream version) t → count ≡ length (bag (commits_to h stream version))) → IsTrue (nat_eq count 0) ↔ (version_points h stream version ≡ [])
no-points h stream version count t of counted =
    let b = bag (commits_to h stream version) in
    let whole : version_points h stream version ≡ b = root-points b of.tree.times in
    let long = counted of.tree in (
      λ yes. let zero_count : count ≡ 0 = grind (arith, nat_tests) in whole ∙ no-length b (sym long ∙ zero_count),
      λ none. is-zero count (long ∙ ap (length {A = Point}) (sym whole ∙ none)),
    )
  where
    is-zero : (n : ℕ) → n ≡ 0 → IsTrue (nat_eq n 0)
    is-zero n e = grind (arith, nat_tests)

-- ---- the root of a commit

module _ (pages : Pages) (h : List Entry) (made : Made) (is : IsCommitOf pages h made) where
  abbrev G : Past
  G = commits_to h made.stream made.version

  abbrev P : Past
  P = past_of h made.stream

  abbrev S : Store
  S = nodes_in pages made.stream

  abbrev ps : List Point
  ps = version_points h made.stream made.version

  past-up : up_to made.version P ≡ G
  past-up = past-to h made.stream made.version is.has.1

  -- A root of 0 leads to the tree of no points, and to no other.
  pub zero-leads : made.root ≡ 0 → LeadsToTree pages h made ↔ (ps ≡ [])
  zero-leads e = (
    λ leads. elim leads [
      | inl nowhere ↦ nowhere.none
      | inr to ↦ let some = to.some in absurd (omega arith)
    ],
    λ none. inl (record { none = none; is = e }),
  )

  leads-points : 0 < made.root → LeadsToTree pages h made → 0 < length ps
  leads-points some leads = elim leads [
    | inl nowhere ↦ let zero_root = nowhere.is in absurd (omega arith)
    | inr to ↦ to.points
  ]

  root-node : 0 < length ps → is_node above_root 10 FIRST (bag (up_to made.version P)) ≡ true
  root-node any = subst (λ p. is_node above_root 10 FIRST (bag p) ≡ true) (sym past-up) (some-has ps any)

  -- A root leads to its tree exactly if its node is right and has the version of the tree's root.
  root-right : 0 < length ps → LeadsToTree pages h made ↔ HasRight S P root_part (version_in root_part G) made.root
  root-right any =
      let v = made.version in
      let rising = past-rising h made.stream in
      let node = root-node any in (
        λ leads. subst (λ p. HasRight S P root_part (version_in root_part p) made.root) past-up (subst (λ a. HasRight S P root_part (node_version a 10 FIRST (up_to v P)) made.root) (sym root-above) (right-from S P rising v 10 FIRST above_root root-above node made.root (subst (λ p. Leads (IsIn S) 10 FIRST above_root p made.root) (sym past-up) leads))),
        λ has. subst (λ p. Leads (IsIn S) 10 FIRST above_root p made.root) past-up (leads-from S P rising v 10 FIRST above_root root-above node made.root (subst (λ a. HasRight S P root_part (node_version a 10 FIRST (up_to v P)) made.root) root-above (subst (λ p. HasRight S P root_part (version_in root_part p) made.root) (sym past-up) has))),
      )

  -- The tree of the version.
  tree-version : 0 < length ps → (t : TreeValue) → IsTree G t → version_of t.node ≡ version_in root_part G
  tree-version any t tree =
      child-version 10 FIRST above_root G t.node tree.node any ∙ ap (λ a. node_version a 10 FIRST G) (sym root-above)

  -- The page of a root has the version of the tree's root exactly if the trees that were made have one version.
  pub same-version : (nodes : TreesValue) (k : KnownValue) (t : TreeValue) → AreKnown pages nodes → node_at nodes made.root ≡ Some k → IsTreeOf h made.stream made.version t → IsTrue (nat_eq (version_of k.tree.node) (version_of t.node)) ↔ HasTreeVersion pages h made
  same-version nodes k t known at of =
      let its = known-at pages nodes made.root k known.each at in
      let there : pages made.root ≡ Some its.page = ap pages (sym (block-at nodes made.root k at)) ∙ its.is in
      let version = its.made.version in
      let from = page-from its.page its.made.keeps in (
        λ yes.
            let same : version_of k.tree.node ≡ version_of t.node = grind (arith, nat_tests) in
            let any = child-points 10 FIRST above_root G t.node of.tree.node (omega (arith, same, version, from)) in
            record { some = any; page = its.page; is = there; same = sym version ∙ same ∙ tree-version any t of.tree },
        λ has.
            let page = same_Some has.page its.page (sym has.is ∙ there) in
            let same : version_of k.tree.node ≡ version_of t.node = version ∙ sym (ap (λ q. (header q).version) page) ∙ has.same ∙ sym (tree-version has.some t of.tree) in
            is-same (version_of k.tree.node) (version_of t.node) same,
      )
    where
      is-same : (m n : ℕ) → m ≡ n → IsTrue (nat_eq m n)
      is-same m n e = grind (arith, nat_tests)

  -- ---- its page

  module _ (p : HasRootPage pages made.stream made.version made.root) where
    pub page-version : HasPageVersion h p.page
    page-version = subst (λ s. HasVersion h s (header p.page).version) (sym p.fits.its_stream) (is.has.0, omega (arith, p.fits.not_newer, is.has.1))

    root-span : Keeps p.page → span_of_page p.page ≡ root_part
    root-span keeps =
        span-whole (span_of_page p.page) (page-aligned p.page keeps) (subst (λ n. 10 ≤ n) (sym p.fits.height) (omega arith))

    tree-page : HasTreeVersion pages h made → (header p.page).version ≡ version_in root_part G
    tree-page has = subst (λ q. (header q).version ≡ version_in root_part G) (same_Some has.page p.page (sym has.is ∙ p.is)) has.same

  -- ---- its mark

  module _ (nodes : TreesValue) (snapshot : Snapshot) (marks : List Mark) (judged : WereJudged pages h nodes snapshot marks) where
    module _ (some : 0 < made.root) where
      abbrev p : HasRootPage pages made.stream made.version made.root
      p = is.page some

      root-low : made.root < judged.tail
      root-low = judged.below made.root (judged.trees.known.all made.root (subst IsSome (sym p.is) refl))

      root-keeps : Keeps p.page
      root-keeps = (stored-page judged.image pages made.root p.page judged.trees.stored p.is).stands.keeps

      root-in : IsIn S made.root (node_of_page p.page)
      root-in = node-here pages made.root p.page made.stream p.is (sym p.fits.its_stream)

      root-marked : IsRight S P made.root (node_of_page p.page) ↔ (slice_get marks made.root ≡ Some Right)
      root-marked =
          subst (λ s. IsRight (nodes_in pages s) (past_of h s) made.root (node_of_page p.page) ↔ (slice_get marks made.root ≡ Some Right)) p.fits.its_stream (right-marked judged.image pages h judged.tail marks made.root p.page judged.marked root-low (stored-page judged.image pages made.root p.page judged.trees.stored p.is) p.is (page-version p))

      -- A root leads to its tree exactly if its page has the version of the tree's root, and its mark says that it is right.
      root-by : LeadsToTree pages h made ↔ HasTreeVersion pages h made × (slice_get marks made.root ≡ Some Right)
      root-by =
          let v = version_in root_part G in
          let span = root-span p root-keeps in (
            λ leads.
                let any = leads-points some leads in
                let has = (root-right any).0 leads in
                let same = one-in S made.root has.node (node_of_page p.page) has.right.stored root-in in
                let version : (header p.page).version ≡ v = sym (node-version p.page) ∙ sym (ap (λ (n : NewNodeValue). n.version) same) ∙ has.its_version in (
                  record { some = any; page = p.page; is = p.is; same = version },
                  root-marked.0 ((page-right S P made.root p.page root_part v root-in span version).0 has),
                ),
            λ both.
                let version = tree-page p both.0 in
                (root-right both.0.some).1 ((page-right S P made.root p.page root_part v root-in span version).1 (root-marked.1 both.1)),
          )

      -- By the two tests.
      pub leads-same : (same : Bool) → slice_get marks made.root ≡ Some Right → IsTrue same ↔ HasTreeVersion pages h made → IsTrue same ↔ LeadsToTree pages h made
      leads-same same right decides = (λ yes. root-by.1 (decides.0 yes, right), λ leads. decides.1 (root-by.0 leads).0)

      pub leads-not : (right : Bool) → right ≡ false → IsTrue right ↔ (slice_get marks made.root ≡ Some Right) → IsTrue right ↔ LeadsToTree pages h made
      leads-not right not_right decides = (λ yes. absurd (let e = sym not_right ∙ yes in cc), λ leads. decides.1 (root-by.0 leads).1)

      -- From a root's page that has the version of the tree's root, the first wrong node is that of the version.
      pub wrong-below : HasTreeVersion pages h made → (named : ℕ) → IsFirstWrongFrom pages h p.page made.root named → IsFirstWrongIn S P made.version made.root named
      wrong-below has named way =
          let here = subst (λ s. IsFirstWrong (nodes_in pages s) (past_of h s) (span_of_page p.page) (header p.page).version made.root named) p.fits.its_stream way in
          let span = subst (λ (s : SpanValue). IsFirstWrong S P s (header p.page).version made.root named) (root-span p root-keeps) here in
          inr (record {
            points = subst (λ a. is_node a 10 FIRST (bag (up_to made.version P)) ≡ true) (sym root-above) (root-node has.some);
            first = subst (λ g. IsFirstWrong S P root_part (version_in root_part g) made.root named) (sym past-up) (subst (λ v. IsFirstWrong S P root_part v made.root named) (tree-page p has) span);
          })

      -- The root's page is not right, if the root does not lead to its tree but has the version of the tree's root.
      pub not-marked : HasTreeVersion pages h made → (LeadsToTree pages h made → ⊥) → slice_get marks made.root ≡ Some Right → ⊥
      not-marked has fails right = fails (root-by.1 (has, right))

    -- A root with a page is not 0.
    pub root-some : HasTreeVersion pages h made → 0 < made.root
    root-some has = (stored-page judged.image pages made.root has.page judged.trees.stored has.is).some

    -- ---- the root itself is the first wrong node

    wrong-node : 0 < length ps → (HasTreeVersion pages h made → ⊥) → IsWrongRoot S P made.version made.root made.root
    wrong-node any other = record {
      points = subst (λ a. is_node a 10 FIRST (bag (up_to made.version P)) ≡ true) (sym root-above) (root-node any);
      first = (
        [],
        (
          refl,
          λ node own.
              let of = page-in pages made.stream made.root node own.stored in
              let version : (header of.page).version ≡ version_in root_part G = sym (node-version of.page) ∙ ap (λ (n : NewNodeValue). n.version) of.says ∙ own.its_version ∙ ap (version_in root_part) past-up in
              other (record { some = any; page = of.page; is = of.is; same = version }),
        ),
      );
    }

    wrong-none : ps ≡ [] → (LeadsToTree pages h made → ⊥) → IsRootOfNone P made.version made.root made.root
    wrong-none none fails = elim (cases_lt 0 made.root) [
      | inl some ↦ record { none = subst (λ g. points_of 10 FIRST (bag g) ≡ []) (sym past-up) none; some = some; is = refl }
      | inr le ↦ let e : made.root ≡ 0 = omega arith in absurd (fails ((zero-leads e).1 none))
    ]

    wrong-by : (xs : List Point) → ps ≡ xs → (LeadsToTree pages h made → ⊥) → (HasTreeVersion pages h made → ⊥) → IsFirstWrongIn S P made.version made.root made.root
    wrong-by [] e fails other = inl (wrong-none e fails)
    wrong-by (x ∷ xs) e fails other =
        let any : 0 < length ps = subst (λ (l : List Point). 0 < length l) (sym e) (omega arith) in
        inr (wrong-node any other)

    -- The root is the first wrong node, if it does not lead to its tree and its page does not have the version of the tree's root.
    pub wrong-root : (LeadsToTree pages h made → ⊥) → (HasTreeVersion pages h made → ⊥) → IsFirstWrongIn S P made.version made.root made.root
    wrong-root fails other = wrong-by ps refl fails other

-- ---- the first root that fails

module _ (pages : Pages) (h : List Entry) (nodes : TreesValue) (snapshot : Snapshot) (marks : List Mark) (judged : WereJudged pages h nodes snapshot marks) (mades : List Made) (each : AreCommitsOf pages h mades) (first : Made) (fails : IsFirstThatFails pages h mades first) where
  pub its-made : IsCommitOf pages h first
  its-made = subst (λ o. IfSome o (IsCommitOf pages h)) fails.is (each fails.at)

  -- Its page has another version than the tree's root, or the version has no point.
  pub found-root : (HasTreeVersion pages h first → ⊥) → IsFirstWrongNode pages h mades first.root
  found-root other = record {
    first = first;
    fails = fails;
    wrong = wrong-root pages h first its-made nodes snapshot marks judged fails.fails other;
  }

  module _ (has : HasTreeVersion pages h first) where
    its-root : 0 < first.root
    its-root = root-some pages h first its-made nodes snapshot marks judged has

    -- The page of its root, from which the first wrong node is found.
    pub its-page : NodePage
    its-page = (its-made.page its-root).page

    pub its-wrong : IsPageNotRight pages h judged.image judged.tail marks first.root its-page
    unfolding its-page
    its-wrong = record {
      stored = judged.trees.stored;
      marked = judged.marked;
      is = (its-made.page its-root).is;
      has = page-version pages h first its-made (its-made.page its-root);
      not_right = not-marked pages h first its-made nodes snapshot marks judged its-root has fails.fails;
    }

    pub found-below : (named : ℕ) → IsFirstWrongFrom pages h its-page first.root named → IsFirstWrongNode pages h mades named
    unfolding its-page
    found-below named way = record {
      first = first;
      fails = fails;
      wrong = wrong-below pages h first its-made nodes snapshot marks judged its-root has named way;
    }
