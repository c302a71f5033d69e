-- What an entry writes: as many pages as it needs, which stand rightly after those before it, a root that leads to the new tree, and
-- pages in which the trees of the next board are stored.
use Rattle.std.specs.Prelude.{◌≡◌, ◌⊎◌, ℕ, ◌+◌, ◌-◌, ◌^◌, ◌<◌, ◌≤◌, ℤ, Bool, List, [], ◌∷◌, ◌++◌, length, slice_get, slice_set, Option, Some, None, IfSome, IsSome}
use Rattle.std.specs.List.{AllByRecursion}
use Rattle.std.specs.Option.{option_and_then}
use Rattle.std.proofs.Common.{zero, suc, refl, sym, ap, ◌∙◌, arith, subst, inl, inr}
use Rattle.std.proofs.lemmas.List.{take_all, length-map}
use Rattle.std.proofs.lemmas.Option.{slice_get_within}
use Rattle.std.proofs.lemmas.Bool.{cases_eq}
use Rattle.btr_base.specs.declared.limits.TheConstants.{FIRST, MAX_VERSIONS}
use Rattle.btr_base.specs.declared.point.Point.{Point}
use Rattle.btr_base.specs.Commit.{Change}
use Rattle.btr_board.proofs.ListLemmas.{set-same, set-other}
use Rattle.btr_tree.specs.declared.node.Link.{Link}
use Rattle.btr_tree.specs.declared.node.NodeData.{NodeData, out-NodeData}
use Rattle.btr_tree.specs.declared.node.NodeData.TheOpen.{NodeData-F}
use Rattle.btr_tree.specs.declared.slots.Kept as slot
use Rattle.btr_tree.specs.declared.slots.Slots.{Slots}
use Rattle.btr_tree.specs.History.{Commit, Past, nothing, ◌▷◌, bag, IsBefore}
use Rattle.btr_tree.specs.NewNodes.{NewNodeValue, bare, bare_all, new_nodes}
use Rattle.btr_tree.specs.Leads.{Leads}
use Rattle.btr_tree.specs.Nodes.{points_of, above_root}
use Rattle.btr_tree.specs.Slots.{block_of}
use Rattle.btr_tree.specs.Root.{TreeValue, IsTree}
use Rattle.btr_tree.specs.Shape.{IsLeaf, ByKind, IsChild}
use Rattle.btr_tree.specs.Stored.{IsBelow}
use Rattle.btr_tree.proofs.LeadsLemmas.{stored-leads}
use Rattle.btr_node.specs.declared.page.NodePage.{NodePage}
use Rattle.btr_tree.specs.PageNodes.{Pages, nodes_in, Stand}
use Rattle.btr_pages.specs.Pages.{with_pages, page_of, pages_of}
use Rattle.btr_pages.specs.Reported.{AreKept, AreReported}
use Rattle.btr_pages.proofs.PageOfLemmas.{HasPlaces, page_of-places, each-map}
use Rattle.btr_pages.proofs.ReportedLemmas.{with-either, stored-along, kept-more, below-more, reported-pages}
use Rattle.btr_pages.proofs.PagesLemmas.{right-none}
use Rattle.btr_hist.specs.declared.entry.Entry.{Entry}
use Rattle.btr_hist.specs.declared.kernel.Reads.{Reads}
use Rattle.btr_hist.specs.declared.kernel.Spec.{Spec}
use Rattle.btr_hist.specs.History.{ids, commits, latest}
use Rattle.btr_entry.specs.Grammar.{ValuesFit}
use Rattle.btr_streams.specs.Past.{with_commits, commits_to}
use Rattle.btr_engine.specs.Body.{node_blocks}
use Rattle.btr_streams.specs.Board.{Versions, Kept, IsStreamOf, IsBoardOf}
use Rattle.btr_engine.specs.Roots.{LeadsToLatest}
use Rattle.btr_engine.specs.Stored.{AreStored}
use Rattle.btr_streams.specs.Board.{tree_at}
use Rattle.btr_streams.specs.Stage.{MakesVersion, WritesCommit, AddsStream, SetsEarliest, with_version, with_earliest, new_stream}
use Rattle.btr_streams.proofs.BoardTrees.{made_by, with_commits-push, before-commits_to}
use Rattle.btr_streams.proofs.BoardStreamLemmas.{commits-more}
use Rattle.btr_streams.proofs.BoardCommits.{last-tree}
use Rattle.btr_streams.proofs.BoardNext.{kept-stream}

-- ---- the trees of a board

-- An item of a list with one more is one of the list, or the last.
pub or-last : {X : Type 0} (xs : List X) (x : X) (n : ℕ) (y : X) → slice_get (xs ++ x ∷ []) n ≡ Some y → (slice_get xs n ≡ Some y) ⊎ ((y ≡ x) × (n ≡ length xs))
or-last [] x zero y at =
    let same : y ≡ x = cc in
    inr (same, refl)
or-last [] x (suc n) y at = absurd (cc)
or-last (z ∷ xs) x zero y at = inl at
or-last (z ∷ xs) x (suc n) y at = elim (or-last xs x n y at) [
  | inl old ↦ inl old
  | inr last ↦ inr (last.0, ap (λ (k : ℕ). suc k) last.1)
]

-- The stream of a tree that a board has.
record IsTreeAt (streams : List Versions) (stream version : ℕ) (t : TreeValue) : Type 0 where
  versions : Versions
  there : slice_get streams stream ≡ Some versions
  is : slice_get versions.trees version ≡ Some t

tree-from : (streams : List Versions) (stream version : ℕ) (t : TreeValue) (o : Option Versions) → slice_get streams stream ≡ o → option_and_then (λ (s : Versions). slice_get s.trees version) o ≡ Some t → IsTreeAt streams stream version t
tree-from streams stream version t None e at = absurd (cc)
tree-from streams stream version t (Some s) e at = record { versions = s; there = e; is = at }

its-tree : (streams : List Versions) (stream version : ℕ) (t : TreeValue) → tree_at streams stream version ≡ Some t → IsTreeAt streams stream version t
its-tree streams stream version t at = tree-from streams stream version t (slice_get streams stream) refl at

tree-is : (streams : List Versions) (stream version : ℕ) (s : Versions) (t : TreeValue) → slice_get streams stream ≡ Some s → slice_get s.trees version ≡ Some t → tree_at streams stream version ≡ Some t
tree-is streams stream version s t there at =
    ap (option_and_then (λ (v : Versions). slice_get v.trees version)) there ∙ at

-- A tree of the streams with one more is one of them, or one of the new stream.
pub tree-pushed : (streams : List Versions) (new : Versions) (stream version : ℕ) (t : TreeValue) → tree_at (streams ++ new ∷ []) stream version ≡ Some t → (tree_at streams stream version ≡ Some t) ⊎ (slice_get new.trees version ≡ Some t)
tree-pushed streams new stream version t at =
    let of = its-tree (streams ++ new ∷ []) stream version t at in
    elim (or-last streams new stream of.versions of.there) [
      | inl old ↦ inl (tree-is streams stream version of.versions t old of.is)
      | inr last ↦ inr (subst (λ (v : Versions). slice_get v.trees version ≡ Some t) last.0 of.is)
    ]

-- A tree of the streams with one version more of one of them is one of theirs, or the new one.
pub tree-grown : (streams : List Versions) (s : ℕ) (was : Versions) (new : TreeValue) (read : Option Reads) (number : ℕ) (stream version : ℕ) (t : TreeValue) → slice_get streams s ≡ Some was → tree_at (slice_set streams s (with_version was new read number)) stream version ≡ Some t → (tree_at streams stream version ≡ Some t) ⊎ ((stream ≡ s) × (t ≡ new))
tree-grown streams s was new read number stream version t there at =
    let grown : Versions = with_version was new read number in
    let of = its-tree (slice_set streams s grown) stream version t at in
    elim (cases_eq stream s) [
      | inl same ↦
          let place : slice_get (slice_set streams s grown) stream ≡ Some grown = ap (slice_get (slice_set streams s grown)) same ∙ set-same streams s grown (slice_get_within streams s was there) in
          let is : of.versions ≡ grown =
          let both : Some of.versions ≡ Some grown = sym of.there ∙ place in
          cc in
          elim (or-last was.trees new version t (subst (λ (v : Versions). slice_get v.trees version ≡ Some t) is of.is)) [
            | inl old ↦ inl (tree-is streams stream version was t (ap (slice_get streams) same ∙ there) old)
            | inr last ↦ inr (same, last.0)
          ]
      | inr other ↦ inl (tree-is streams stream version of.versions t (sym (set-other streams s grown stream other) ∙ of.there) of.is)
    ]

-- The streams whose versions were retired have the trees that they had.
pub tree-kept : (streams : List Versions) (s : ℕ) (was : Versions) (first : ℕ) (stream version : ℕ) (t : TreeValue) → slice_get streams s ≡ Some was → tree_at (slice_set streams s (with_earliest was first)) stream version ≡ Some t → tree_at streams stream version ≡ Some t
tree-kept streams s was first stream version t there at =
    let now : Versions = with_earliest was first in
    let of = its-tree (slice_set streams s now) stream version t at in
    elim (cases_eq stream s) [
      | inl same ↦
          let place : slice_get (slice_set streams s now) stream ≡ Some now = ap (slice_get (slice_set streams s now)) same ∙ set-same streams s now (slice_get_within streams s was there) in
          let is : of.versions ≡ now =
          let both : Some of.versions ≡ Some now = sym of.there ∙ place in
          cc in
          tree-is streams stream version was t (ap (slice_get streams) same ∙ there) (subst (λ (v : Versions). slice_get v.trees version ≡ Some t) is of.is)
      | inr other ↦ tree-is streams stream version of.versions t (sym (set-other streams s now stream other) ∙ of.there) of.is
    ]

-- ---- more pages, and more trees

-- The trees of the next board are stored in the pages with some more, if those keep the table and each new tree is stored.
pub stored-with : (pages : Pages) (gate first later : ℕ) (new : List NodePage) (streams next : List Versions) → AreStored pages gate streams → AreKept (with_pages pages first new) → gate ≤ first → first + length new ≤ later → ((stream version : ℕ) (t : TreeValue) → tree_at next stream version ≡ Some t → (tree_at streams stream version ≡ Some t) ⊎ IsBelow (nodes_in (with_pages pages first new) stream) later 10 FIRST t.node) → AreStored (with_pages pages first new) later next
stored-with pages gate first later new streams next stored kept behind all each =
    let P = with_pages pages first new in
    record {
      kept = kept;
      below = λ block. elim (P block) as (λ o. P block ≡ o → IsSome o → block < later) [
        | None ↦ λ e some. absurd (cc)
        | Some page ↦ λ e some. elim (with-either pages first new block page e) [
          | inl old ↦ let low = old.0 in omega arith
          | inr fresh ↦
              let place = slice_get_within new (block - first) page fresh.1 in
              let from = fresh.0 in
              omega arith
        ]
      ] refl;
      each = λ stream version. elim (tree_at next stream version) as (λ o. tree_at next stream version ≡ o → IfSome o (λ t. IsBelow (nodes_in P stream) later 10 FIRST t.node)) [
        | None ↦ λ e. tt
        | Some t ↦ λ e. elim (each stream version t e) [
          | inl old ↦
              let low = subst (λ o. IfSome o (λ (u : TreeValue). IsBelow (nodes_in pages stream) gate 10 FIRST u.node)) old (stored.each stream version) in
              below-more (nodes_in P stream) first later 10 FIRST t.node (omega arith) (stored-along pages first new stream 10 FIRST t.node (below-more (nodes_in pages stream) gate first 10 FIRST t.node behind low))
          | inr fresh ↦ fresh
        ]
      ] refl;
    }

-- ---- an entry that makes a stream

no-leaf : (d : NodeData-F NodeData Link slot.Kept Slots) (k : ℕ) (s : ℤ) (above : List Point → Bool) (h : Past) (Q : ℕ → Slots → Type 0) → points_of k s (bag h) ≡ [] → ((v : ℕ) (x : Slots) → Q v x → ⊥) → ByKind (λ v ps. IsLeaf k s above h v ps) Q d → ⊥
no-leaf (NodeData-F.Leaf b v ps) k s above h Q none never is =
    let same = ap (length {A = Point}) (is.same ∙ none) in
    let some = is.some in
    omega arith
no-leaf (NodeData-F.Inner b v x) k s above h Q none never is = never v x is

-- A span without a point has no node.
no-node : (k : ℕ) (s : ℤ) (above : List Point → Bool) (h : Past) (child : Option NodeData) → points_of k s (bag h) ≡ [] → IsChild k s above h child → child ≡ None
no-node k s above h None none is = refl
no-node zero s above h (Some n) none is =
    absurd (no-leaf (out-NodeData n) zero s above h _ none (λ v x none_such. none_such) is)
no-node (suc k) s above h (Some n) none is =
    absurd (no-leaf (out-NodeData n) (suc k) s above h _ none (λ v x inner. let many = inner.0.many in let same = ap (length {A = Point}) none in omega arith) is)

-- The trees of a board with one stream more are stored in the pages with some more: the tree of version 0 has no node.
pub stored-stream : (pages : Pages) (gate first later : ℕ) (new : List NodePage) (b next : Kept) (id : ℕ) (spec : Option Spec) → AreStored pages gate b.streams → AddsStream b id spec next → AreKept (with_pages pages first new) → gate ≤ first → first + length new ≤ later → 1 ≤ later → AreStored (with_pages pages first new) later next.streams
stored-stream pages gate first later new b next id spec stored adds kept behind all some =
    let P = with_pages pages first new in
    let one : Versions = new_stream id spec adds.tree (b.entries + 1) in
    let bare_tree : adds.tree.node ≡ None = no-node 10 FIRST above_root nothing adds.tree.node refl adds.empty.node in
    stored-with pages gate first later new b.streams next.streams stored kept behind all (λ stream version t at.
    elim (tree-pushed b.streams one stream version t (ap (λ l. tree_at l stream version) (sym adds.streams) ∙ at)) [
      | inl old ↦ inl old
      | inr fresh ↦ elim (or-last [] adds.tree version t fresh) [
        | inl none_such ↦ absurd (cc)
        | inr last ↦
            let none : t.node ≡ None = ap (λ (u : TreeValue). u.node) last.0 ∙ bare_tree in
            inr (subst (IsBelow (nodes_in P stream) later 10 FIRST) (sym none) (record { stored = tt; below = omega arith }))
      ]
    ])

-- The trees of a board with one stream more are stored in the pages that stood before it.
pub stored-new : (pages : Pages) (gate first later : ℕ) (b next : Kept) (id : ℕ) (spec : Option Spec) → AreStored pages gate b.streams → AddsStream b id spec next → gate ≤ first → first ≤ later → 1 ≤ gate → AreStored (with_pages pages first []) later next.streams
stored-new pages gate first later b next id spec stored adds behind all some =
    stored-stream pages gate first later [] b next id spec stored adds (kept-more pages first [] stored.kept (right-none pages first) tt) behind (omega arith) (omega arith)

-- ---- an entry that retires versions

-- The trees of a board of which versions were retired are stored in the pages with some more.
pub stored-retired : (pages : Pages) (gate first later : ℕ) (new : List NodePage) (b next : Kept) (stream least : ℕ) → AreStored pages gate b.streams → SetsEarliest b stream least next → AreKept (with_pages pages first new) → gate ≤ first → first + length new ≤ later → AreStored (with_pages pages first new) later next.streams
stored-retired pages gate first later new b next stream least stored sets kept behind all =
    stored-with pages gate first later new b.streams next.streams stored kept behind all (λ other version t at.
    inl (tree-kept b.streams stream sets.kept least other version t sets.there (ap (λ l. tree_at l other version) (sym sets.streams) ∙ at)))

-- They are stored in the pages that stood before it.
pub stored-retired-here : (pages : Pages) (gate first later : ℕ) (b next : Kept) (stream least : ℕ) → AreStored pages gate b.streams → SetsEarliest b stream least next → gate ≤ first → first ≤ later → AreStored (with_pages pages first []) later next.streams
stored-retired-here pages gate first later b next stream least stored sets behind all =
    stored-retired pages gate first later [] b next stream least stored sets (kept-more pages first [] stored.kept (right-none pages first) tt) behind (omega arith)

-- ---- an entry that makes a version

-- The trees of a board with one version more of a stream are stored in the pages with some more, if the new tree is.
pub stored-version : (pages : Pages) (gate first later : ℕ) (new : List NodePage) (b next : Kept) (s : ℕ) (was : Versions) (t : TreeValue) (read : Option Reads) → AreStored pages gate b.streams → slice_get b.streams s ≡ Some was → next.streams ≡ slice_set b.streams s (with_version was t read (b.entries + 1)) → AreKept (with_pages pages first new) → gate ≤ first → first + length new ≤ later → IsBelow (nodes_in (with_pages pages first new) s) later 10 FIRST t.node → AreStored (with_pages pages first new) later next.streams
stored-version pages gate first later new b next s was t read stored there grown kept behind all low =
    let P = with_pages pages first new in
    stored-with pages gate first later new b.streams next.streams stored kept behind all (λ stream version u at.
    elim (tree-grown b.streams s was t read (b.entries + 1) stream version u there (ap (λ l. tree_at l stream version) (sym grown) ∙ at)) [
      | inl old ↦ inl old
      | inr fresh ↦
          inr (subst (λ n. IsBelow (nodes_in P n) later 10 FIRST u.node) (sym fresh.0) (subst (λ (v : TreeValue). IsBelow (nodes_in P s) later 10 FIRST v.node) (sym fresh.1) low))
    ])

-- All commits of a stream make its latest version.
pub commits-all : (h : List Entry) (stream : ℕ) → commits_to h stream (latest h stream) ≡ with_commits 0 nothing (commits h stream)
commits-all h stream =
    ap (with_commits 0 nothing) (take_all (latest h stream) (commits h stream) (omega arith))

module _ (h : List Entry) (b next : Kept) (of : IsBoardOf h b) (e : Entry) (first s : ℕ) (c : Change) (read : Option Reads) (makes : MakesVersion e s c read) (nodes : List NewNodeValue) (root : ℕ) (w : WritesCommit b first s c read next nodes root) where
  its-stream : (s < length (ids h)) × IsStreamOf h s w.kept
  its-stream = kept-stream h b s w.kept of w.there

  -- The past of the last tree, and the commit after it.
  abbrev past : Past
  past = commits_to h s (latest h s)

  abbrev commit : Commit
  commit = record { version = length w.kept.trees; cut = c.cut; added = c.added }

  version-is : length w.kept.trees ≡ latest h s + 1
  version-is = its-stream.1.kept.counted

  before : IsBefore (length w.kept.trees) past
  before = subst (λ n. IsBefore n past) (sym version-is) (before-commits_to h s (latest h s))

  old-tree : IsTree past w.last
  old-tree = last-tree h s w.kept.trees its-stream.1.kept (length w.kept.trees - 1) w.last (omega (arith, version-is)) w.last_is

  new-tree : IsTree (commit ▷ past) w.new
  new-tree = w.writes.tree past old-tree

  new-ones : bare_all nodes ≡ new_nodes 10 FIRST above_root (commit ▷ past) (length w.kept.trees)
  new-ones = w.writes.new_ones past old-tree (omega (arith, version-is)) before

  -- They are the commits of the stream, and this one.
  with-commit : commit ▷ past ≡ with_commits 0 nothing (commits h s ++ c ∷ [])
  with-commit =
      let at : length w.kept.trees ≡ 0 + length (commits h s) + 1 = omega (arith, version-is) in
      ap (λ (v : ℕ). made_by v c ▷ past) at
      ∙ ap (λ (p : Past). made_by (0 + length (commits h s) + 1) c ▷ p) (commits-all h s)
      ∙ sym (with_commits-push 0 nothing (commits h s) c)

  latest-past : commit ▷ past ≡ commits_to (h ++ e ∷ []) s (latest (h ++ e ∷ []) s)
  latest-past =
      with-commit
      ∙ ap (with_commits 0 nothing) (sym (commits-more h e s c read makes))
      ∙ sym (commits-all (h ++ e ∷ []) s)

  -- There are as many nodes as the commit has node blocks.
  pub nodes-counted : length nodes ≡ node_blocks (commits h s) c
  unfolding node_blocks
  nodes-counted =
      let bare_too : length (bare_all nodes) ≡ length nodes = length-map nodes bare in
      let version : length w.kept.trees ≡ length (commits h s) + 1 = version-is in
      sym bare_too
      ∙ ap (length {A = NewNodeValue}) new-ones
      ∙ ap (λ v. length (new_nodes 10 FIRST above_root (commit ▷ past) v)) version
      ∙ ap (λ p. length (new_nodes 10 FIRST above_root p (length (commits h s) + 1))) with-commit

  module _ (pages : Pages) (gate : ℕ) (stored : AreStored pages gate b.streams) (behind : gate ≤ first) (values : ValuesFit c.added) (low : s < 2 ^ 32) (few : latest h s < MAX_VERSIONS) (blocks : first + length nodes < 2 ^ 64) where
    last-stored : IsBelow (nodes_in pages s) first 10 FIRST w.last.node
    last-stored =
        let at : tree_at b.streams s (length w.kept.trees - 1) ≡ Some w.last = tree-is b.streams s (length w.kept.trees - 1) w.kept w.last w.there w.last_is in
        below-more (nodes_in pages s) gate first 10 FIRST w.last.node behind (subst (λ o. IfSome o (λ (u : TreeValue). IsBelow (nodes_in pages s) gate 10 FIRST u.node)) at (stored.each s (length w.kept.trees - 1)))

    -- The pages stand rightly, their numbers fit, and the new tree is stored.
    pub reported : AreReported pages s first nodes w.new
    reported = reported-pages pages s first past commit w.last w.new nodes
        (record { some = omega (arith, version-is); before = before; tree = old-tree; stored = last-stored; kept = stored.kept; values = values; stream_to = low; version_to = omega (arith, version-is) })
        (record { tree = new-tree; nodes = new-ones; laid = w.writes.laid; blocks = blocks })

    -- The root leads to the new tree.
    pub root-leads : LeadsToLatest (with_pages pages first (pages_of s nodes)) (h ++ e ∷ []) s root
    root-leads =
        let P = with_pages pages first (pages_of s nodes) in
        let leads = stored-leads (nodes_in P s) (Stand P s) (λ block n at. at) 10 FIRST above_root (commit ▷ past) w.new.node new-tree.node reported.stored.stored in
        subst (λ r. LeadsToLatest P (h ++ e ∷ []) s r) (sym w.writes.root_is) (subst (λ p. Leads (Stand P s) 10 FIRST above_root p (block_of w.new.node)) latest-past leads)

    -- The trees of the next board are stored.
    pub stored-next : (later : ℕ) → first + length nodes ≤ later → AreStored (with_pages pages first (pages_of s nodes)) later next.streams
    stored-next later all =
        let ps = pages_of s nodes in
        let many : length ps ≡ length nodes = length-map nodes (page_of s) in
        let here = below-more (nodes_in (with_pages pages first ps) s) (first + length nodes) later 10 FIRST w.new.node all reported.stored in
        stored-version pages gate first later ps b next s w.kept w.new read stored w.there w.streams (kept-more pages first ps stored.kept reported.stand reported.fit) behind (omega arith) here

each-page : (stream : ℕ) (nodes : List NewNodeValue) → AllByRecursion (λ n. HasPlaces (page_of stream n)) nodes
each-page stream [] = tt
each-page stream (n ∷ nodes) = (page_of-places stream n, each-page stream nodes)

-- The pages of nodes have all their places.
pub pages-places : (stream : ℕ) (nodes : List NewNodeValue) → AllByRecursion HasPlaces (pages_of stream nodes)
pages-places stream nodes = each-map (page_of stream) HasPlaces nodes (each-page stream nodes)
