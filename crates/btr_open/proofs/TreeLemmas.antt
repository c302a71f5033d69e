-- The tree of a root is that of the version that the entry makes, and it is stored, so the board with the entry is that of its entries.
-- The root of the tree is that of the entry.
use Rattle.std.specs.Prelude.{◌≡◌, ◌⊎◌, ℕ, ◌+◌, ◌<◌, ◌≤◌, ℤ, ◌-◌, Bool, List, [], ◌∷◌, ◌++◌, length, Option, Some, None, IfSome, IsSome}
use Rattle.std.specs.Option.{option_and_then}
use Rattle.std.proofs.Common.{zero, suc, refl, sym, ap, ◌∙◌, arith, subst, inl, inr}
use Rattle.std.proofs.lemmas.Option.{slice_get_within}
use Rattle.std.proofs.Math.Nat.{eq-or-lt_of_le}
use Rattle.btr_base.specs.Agg.{agg}
use Rattle.btr_base.specs.Commit.{Change}
use Rattle.btr_base.specs.Point.{AreInDomain}
use Rattle.btr_base.specs.declared.limits.TheConstants.{FIRST, MAX_POINTS}
use Rattle.btr_base.specs.declared.point.Point.{Point}
use Rattle.btr_tree.specs.declared.node.Link.{Link}
use Rattle.btr_tree.specs.declared.node.NodeData.{NodeData, out-NodeData}
use Rattle.btr_tree.specs.declared.node.NodeData.TheOpen.{NodeData-F}
use Rattle.btr_tree.specs.declared.slots.Kept as slot
use Rattle.btr_tree.specs.declared.slots.Slots.{Slots}
use Rattle.btr_tree.specs.History.{Past, Opened, nothing, ◌▷◌, bag}
use Rattle.btr_tree.specs.Leads.{Leads}
use Rattle.btr_tree.specs.NewNodes.{NewNodeValue}
use Rattle.btr_tree.specs.Nodes.{points_of, above_root}
use Rattle.btr_tree.specs.Root.{TreeValue, IsTree}
use Rattle.btr_tree.specs.Shape.{IsLeaf, IsInner, HasChildren, ByKind, IsChild}
use Rattle.btr_tree.specs.Slots.{block_of}
use Rattle.btr_tree.specs.Stored.{IsBelow}
use Rattle.btr_tree.proofs.LeadsLemmas.{read-stored}
use Rattle.btr_tree.proofs.ReadLemmas.{opened-is_tree, read-along}
use Rattle.btr_tree.proofs.RootLemmas.{root-points, opened-whole}
use Rattle.btr_node.specs.declared.page.NodePage.{NodePage}
use Rattle.btr_tree.specs.PageNodes.{Pages, node_of_stream, nodes_in, Stand}
use Rattle.btr_pages.specs.Pages.{with_pages, HasRootPage, MayBeRoot}
use Rattle.btr_pages.specs.Known.{TreesValue, AreKnown, ArePartOf, IsKnown, IsReadRoot, node_at}
use Rattle.btr_pages.proofs.KnownLemmas.{known-at}
use Rattle.btr_pages.proofs.BlockLemmas.{each-places}
use Rattle.btr_pages.proofs.ReportedLemmas.{with-either}
use Rattle.btr_hist.specs.declared.entry.Entry.{Entry}
use Rattle.btr_hist.specs.declared.entry.Entry.TheVariants.{Create, Define, Commit, Distillate, Retire}
use Rattle.btr_hist.specs.History.{change_of, commits, latest}
use Rattle.btr_hist.specs.Legal.{rejection, Follows}
use Rattle.btr_hist.proofs.HistoryLemmas.{follows-last}
use Rattle.btr_hist.proofs.OutputLemmas.{follows-sound}
use Rattle.btr_hist.proofs.VersionLemmas.{commits-push}
use Rattle.btr_log.specs.Extents.{need}
use Rattle.btr_log.specs.Head.{content_blocks}
use Rattle.btr_entry.specs.Grammar.{spelling}
use Rattle.btr_streams.specs.declared.board.Staged.{Staged}
use Rattle.btr_streams.specs.Past.{with_commits, commits_to}
use Rattle.btr_streams.specs.Board.{Kept, HasPast, IsBoardOf}
use Rattle.btr_engine.specs.Body.{Prefix, first_page, pages_after, IsBodyOf}
use Rattle.btr_engine.specs.Roots.{LeadsToLatest, IsRootOf}
use Rattle.btr_streams.specs.Stage.{change, IsNextTree, ReadsEntry, IsTreeAfter}
use Rattle.btr_streams.proofs.BoardTrees.{made_by, bag-commits_to, with_commits-push}
use Rattle.btr_engine.proofs.BodyLemmas.{need-body_of}
use Rattle.btr_engine.proofs.StoredLemmas.{IsTreeStored, stored-read, kept-with}
use Rattle.btr_engine.proofs.Written.{commits-all}
use Rattle.btr_engine.specs.Stored.{AreStored}
use Rattle.btr_roll.specs.Roll.{RollStreamValue}
use Rattle.btr_open.specs.Reached.{next_version}
use Rattle.btr_open.specs.RootTest.{adds, MayLead}
use Rattle.btr_open.specs.Loading.{IsTreeOfRoot}
use Rattle.btr_open.proofs.RootLemmas.{MayLeadAfter, its-change, root-may}

-- ---- no node

-- If a block that leads on is 0, the span has no point.
leads-nowhere : (R : ℕ → NewNodeValue → Type 0) (k : ℕ) (s : ℤ) (above : List Point → Bool) (h : Past) (block : ℕ) → block ≡ 0 → Leads R k s above h block → points_of k s (bag h) ≡ []
leads-nowhere R zero s above h block none leads =
    elim leads [ inl nowhere ↦ nowhere.none | inr to ↦ let some = to.some in absurd (omega arith) ]
leads-nowhere R (suc k) s above h block none leads =
    elim leads [ inl nowhere ↦ nowhere.none | inr to ↦ let some = to.some in absurd (omega arith) ]

no-kind : (d : NodeData-F NodeData Link slot.Kept Slots) → ByKind (λ v ps. IsLeaf 10 FIRST above_root nothing v ps) (λ v x. IsInner 9 FIRST above_root nothing v x × HasChildren 9 FIRST nothing x) d → ⊥
no-kind (NodeData-F.Leaf b v ps) is =
    let same = ap (length {A = Point}) is.same in
    let some = is.some in
    omega arith
no-kind (NodeData-F.Inner b v x) is = let many = is.0.many in omega arith

-- The tree of no commit has no node.
pub bare-node : (child : Option NodeData) → IsChild 10 FIRST above_root nothing child → child ≡ None
bare-node None is = refl
bare-node (Some n) is = absurd (no-kind (out-NodeData n) is)

-- ---- the tree of a root

-- The tree of a root is that of no commit, or it was read from the page of the root.
abbrev pub HeldBy : Pages → ℕ → ℕ → ℕ → TreeValue → Type 0
HeldBy known stream version root t = ((root ≡ 0) × IsTree nothing t) ⊎ IsReadRoot known stream version root t

-- The tree of a root that is 0 or that of a version, whose page's tree was made.
pub held : (known : Pages) (nodes : TreesValue) (stream version root : ℕ) (t : TreeValue) → ArePartOf known nodes → (0 < root → IsSome (node_at nodes root)) → (root ≡ 0) ⊎ HasRootPage known stream version root → IsTreeOfRoot nodes root t → HeldBy known stream version root t
held known nodes stream version root t part made may of =
    let low : 0 ≤ root = omega arith in
    elim (eq-or-lt_of_le low) [
      | inl none ↦ inl (sym none, of.empty (sym none))
      | inr above ↦ elim may [
        | inl none ↦ absurd (omega arith)
        | inr page ↦ inr (of.read above known stream version part (made above) page)
      ]
    ]

-- The tree of a root that may be that of a version.
held-may : (known : Pages) (nodes : TreesValue) (stream version root : ℕ) (some : Bool) (t : TreeValue) → ArePartOf known nodes → (0 < root → IsSome (node_at nodes root)) → MayBeRoot known stream version some root → IsTreeOfRoot nodes root t → HeldBy known stream version root t
held-may known nodes stream version root some t part made may of =
    held known nodes stream version root t part made (elim may [ inl none ↦ inl none.0 | inr page ↦ inr page ]) of

one-node : (known : Pages) (stream block : ℕ) (p q : NewNodeValue) → Stand known stream block p → Stand known stream block q → p ≡ q
one-node known stream block p q a b = let both : Some p ≡ Some q = sym a ∙ b in cc

module _ (known : Pages) (stream version root : ℕ) (h : Past) (t : TreeValue) (leads : Leads (Stand known stream) 10 FIRST above_root h root) where
  abbrev store : ℕ → Option NewNodeValue
  store = nodes_in known stream

  none-there : root ≡ 0 → points_of 10 FIRST (bag h) ≡ []
  none-there none = leads-nowhere (Stand known stream) 10 FIRST above_root h root none leads

  node-leads : block_of t.node ≡ root → Leads (Stand known stream) 10 FIRST above_root h (block_of t.node)
  node-leads is = subst (Leads (Stand known stream) 10 FIRST above_root h) (sym is) leads

  -- It is the tree of the past to whose nodes the root leads.
  pub held-tree : HeldBy known stream version root t → AreInDomain (bag h) → length (bag h) ≤ MAX_POINTS → IsTree h t
  held-tree by times few =
      elim by [
        | inl bare ↦
            let none = none-there bare.0 in
            let empty : bag h ≡ [] = sym (root-points (bag h) times) ∙ none in
            record {
              whole = bare.1.whole;
              node = subst (IsChild 10 FIRST above_root h) (sym (bare-node t.node bare.1.node)) none;
              total = bare.1.total ∙ ap agg (sym empty);
              times = times;
              few = few;
            }
        | inr read ↦ opened-is_tree store (Stand known stream) (one-node known stream) (λ block n at. at) h t read.opened read.its_span read.read (node-leads read.its_block) times few
      ]

  -- It is stored below each block above the root.
  pub held-below : (later : ℕ) → HeldBy known stream version root t → root < later → IsBelow store later 10 FIRST t.node
  held-below later by low =
      elim by [
        | inl bare ↦ subst (IsBelow store later 10 FIRST) (sym (bare-node t.node bare.1.node)) (record { stored = tt; below = omega arith })
        | inr read ↦ record {
          stored = read-stored store (Stand known stream) (one-node known stream) (λ block n at. at) 10 FIRST above_root h t.node read.read (node-leads read.its_block);
          below = subst (λ b. b < later) (sym read.its_block) low;
        }
      ]

-- The root of the tree is this one.
pub held-root : (known : Pages) (stream version root : ℕ) (t : TreeValue) → HeldBy known stream version root t → root ≡ block_of t.node
held-root known stream version root t by =
    elim by [ inl bare ↦ bare.0 ∙ sym (ap block_of (bare-node t.node bare.1.node)) | inr read ↦ sym read.its_block ]

-- It is the tree of some past.
held-past : (known : Pages) (stream version root : ℕ) (t : TreeValue) → HeldBy known stream version root t → HasPast t
held-past known stream version root t by =
    elim by [
      | inl bare ↦ (nothing, bare.1)
      | inr read ↦
          let base = read.opened in
          let high = ap (λ s. s.height) read.its_span in
          (Opened base.0 base.1, opened-whole base.0 base.1 t base.2 (omega arith))
    ]

-- ---- the version that a commit makes

-- The commits of a stream with the one of the next entry.
next-past : (h : List Entry) (e : Entry) (stream : ℕ) (c : Change) → change_of stream e ≡ Some c → made_by (latest h stream + 1) c ▷ commits_to h stream (latest h stream) ≡ commits_to (h ++ e ∷ []) stream (latest (h ++ e ∷ []) stream)
next-past h e stream c makes =
    let made : latest h stream + 1 ≡ 0 + length (commits h stream) + 1 = omega arith in
    ap (λ (p : Past). made_by (latest h stream + 1) c ▷ p) (commits-all h stream)
    ∙ ap (λ (v : ℕ). made_by v c ▷ with_commits 0 nothing (commits h stream)) made
    ∙ sym (with_commits-push 0 nothing (commits h stream) c)
    ∙ ap (with_commits 0 nothing) (sym (commits-push h e stream (Some c) makes))
    ∙ sym (commits-all (h ++ e ∷ []) stream)

module _ (before : List Entry) (known : Pages) (nodes : TreesValue) (e : Entry) (stream : ℕ) (c : Change) (some : Bool) (root : ℕ) (t : TreeValue) (makes : change_of stream e ≡ Some c) (are : ArePartOf known nodes) (made : 0 < root → IsSome (node_at nodes root)) (may : MayBeRoot known stream (latest before stream + 1) some root) (of : IsTreeOfRoot nodes root t) (leads : LeadsToLatest known (before ++ e ∷ []) stream root) where
  abbrev all : List Entry
  all = before ++ e ∷ []

  abbrev past : Past
  past = commits_to all stream (latest all stream)

  by : HeldBy known stream (latest before stream + 1) root t
  by = held-may known nodes stream (latest before stream + 1) root some t are made may of

  version-tree : Follows all → IsNextTree before stream c t
  version-tree follows =
      let sound = follows-sound all follows in
      let points = bag-commits_to all stream (latest all stream) in
      let times = subst AreInDomain (sym points) (sound.in_domain stream (latest all stream)) in
      let few = subst (λ b. length b ≤ MAX_POINTS) (sym points) (sound.bounded stream (latest all stream)) in
      subst (λ p. IsTree p t) (sym (next-past before e stream c makes)) (held-tree known stream (latest before stream + 1) root past t leads by times few)

  version-below : (later : ℕ) → root < later → IsBelow (nodes_in known stream) later 10 FIRST t.node
  version-below later low = held-below known stream (latest before stream + 1) root past t leads later by low

-- The tree of the page of a root was made.
page-made : (known : Pages) (nodes : TreesValue) (stream version root : ℕ) (some : Bool) → AreKnown known nodes → MayBeRoot known stream version some root → 0 < root → IsSome (node_at nodes root)
page-made known nodes stream version root some are (inl none) above = let zero_root = none.0 in absurd (omega arith)
page-made known nodes stream version root some are (inr has) above = are.all root (subst IsSome (sym has.is) refl)

-- ---- an entry

-- The trees are those of some of these pages, and that of the root was made, if there is a root.
pub record HasMade (known : Pages) (nodes : TreesValue) (root : ℕ) : Type 0 where
  pub part : ArePartOf known nodes
  pub made : 0 < root → IsSome (node_at nodes root)

-- The tree of a root is that of the version that the entry makes.
pub tree-after : (before : List Entry) (known : Pages) (nodes : TreesValue) (e : Entry) (root : ℕ) (pages : List NodePage) (t : TreeValue) → HasMade known nodes root → IsTreeOfRoot nodes root t → Follows (before ++ e ∷ []) → IsRootOf known before e root pages → IsTreeAfter before e t
tree-after before known nodes (Create id) root pages t has of follows leads = tt
tree-after before known nodes (Define id spec) root pages t has of follows leads = tt
tree-after before known nodes (Retire stream first) root pages t has of follows leads = tt
tree-after before known nodes (Commit stream cut added) root pages t has of follows leads =
    version-tree before known nodes (Commit stream cut added) stream (change cut added) (adds added) root t (its-change stream (change cut added)) has.part has.made (root-may known before (Commit stream cut added) root pages follows leads) of leads follows
tree-after before known nodes (Distillate stream cut added reads) root pages t has of follows leads =
    version-tree before known nodes (Distillate stream cut added reads) stream (change cut added) (adds added) root t (its-change stream (change cut added)) has.part has.made (root-may known before (Distillate stream cut added reads) root pages follows leads) of leads follows

-- It is stored in the pages, below each block that is above the root.
pub tree-stored : (before : List Entry) (known : Pages) (nodes : TreesValue) (e : Entry) (root later : ℕ) (pages : List NodePage) (t : TreeValue) → HasMade known nodes root → IsTreeOfRoot nodes root t → Follows (before ++ e ∷ []) → IsRootOf known before e root pages → root < later → IsTreeStored known later e t
tree-stored before known nodes (Create id) root later pages t has of follows leads low = tt
tree-stored before known nodes (Define id spec) root later pages t has of follows leads low = tt
tree-stored before known nodes (Retire stream first) root later pages t has of follows leads low = tt
tree-stored before known nodes (Commit stream cut added) root later pages t has of follows leads low =
    version-below before known nodes (Commit stream cut added) stream (change cut added) (adds added) root t (its-change stream (change cut added)) has.part has.made (root-may known before (Commit stream cut added) root pages follows leads) of leads later low
tree-stored before known nodes (Distillate stream cut added reads) root later pages t has of follows leads low =
    version-below before known nodes (Distillate stream cut added reads) stream (change cut added) (adds added) root t (its-change stream (change cut added)) has.part has.made (root-may known before (Distillate stream cut added reads) root pages follows leads) of leads later low

-- If the trees are those of all pages, and the root may be the entry's, the tree of the root was made.
pub root-made : (known : Pages) (nodes : TreesValue) (roll : List RollStreamValue) (e : Entry) (root : ℕ) → AreKnown known nodes → MayLead known roll e root → 0 < root → IsSome (node_at nodes root)
root-made known nodes roll (Create id) root are may above = let none : root ≡ 0 = may in absurd (omega arith)
root-made known nodes roll (Define id spec) root are may above = let none : root ≡ 0 = may in absurd (omega arith)
root-made known nodes roll (Retire stream first) root are may above = let none : root ≡ 0 = may in absurd (omega arith)
root-made known nodes roll (Commit stream cut added) root are may above = page-made known nodes stream (next_version roll stream) root (adds added) are may above
root-made known nodes roll (Distillate stream cut added reads) root are may above =
    page-made known nodes stream (next_version roll stream) root (adds added) are may above

-- The tree of a root that may be the entry's is that of some past.
pub has-past : (known : Pages) (nodes : TreesValue) (roll : List RollStreamValue) (e : Entry) (root : ℕ) (t : TreeValue) → AreKnown known nodes → MayLead known roll e root → IsTreeOfRoot nodes root t → HasPast t
has-past known nodes roll (Create id) root t are may of = (nothing, of.empty may)
has-past known nodes roll (Define id spec) root t are may of = (nothing, of.empty may)
has-past known nodes roll (Retire stream first) root t are may of = (nothing, of.empty may)
has-past known nodes roll (Commit stream cut added) root t are may of =
    let version = next_version roll stream in
    held-past known stream version root t (held-may known nodes stream version root (adds added) t are.each (page-made known nodes stream version root (adds added) are may) may of)
has-past known nodes roll (Distillate stream cut added reads) root t are may of =
    let version = next_version roll stream in
    held-past known stream version root t (held-may known nodes stream version root (adds added) t are.each (page-made known nodes stream version root (adds added) are may) may of)

-- What is staged with the tree of an entry's root has this root.
pub staged-root : (known : Pages) (nodes : TreesValue) (roll : List RollStreamValue) (e : Entry) (root : ℕ) (b : Kept) (t : TreeValue) (s : Staged) → AreKnown known nodes → MayLead known roll e root → IsTreeOfRoot nodes root t → ReadsEntry b e t s → root ≡ s.root
staged-root known nodes roll (Create id) root b t s are may of reads = may ∙ sym reads.no_root
staged-root known nodes roll (Define id spec) root b t s are may of reads = may ∙ sym reads.no_root
staged-root known nodes roll (Retire stream first) root b t s are may of reads = may ∙ sym reads.no_root
staged-root known nodes roll (Commit stream cut added) root b t s are may of reads =
    let version = next_version roll stream in
    held-root known stream version root t (held-may known nodes stream version root (adds added) t are.each (page-made known nodes stream version root (adds added) are may) may of) ∙ sym reads.root_is
staged-root known nodes roll (Distillate stream cut added r) root b t s are may of reads =
    let version = next_version roll stream in
    held-root known stream version root t (held-may known nodes stream version root (adds added) t are.each (page-made known nodes stream version root (adds added) are may) may of) ∙ sym reads.root_is

-- ---- the board with the entry

-- A root that may be that of a version is below the block after the pages.
page-low : (known : Pages) (first later : ℕ) (new : List NodePage) (stream version root : ℕ) (some : Bool) → first + length new ≤ later → 1 ≤ later → MayBeRoot (with_pages known first new) stream version some root → root < later
page-low known first later new stream version root some behind least may =
    elim may [
      | inl no_root ↦ let none = no_root.0 in omega arith
      | inr at ↦ elim (with-either known first new root at.page at.is) [
        | inl old ↦ let low = old.0 in omega arith
        | inr fresh ↦
            let from = fresh.0 in
            let place = slice_get_within new (root - first) at.page fresh.1 in
            omega arith
      ]
    ]

root-low : (known : Pages) (first later : ℕ) (new : List NodePage) (before : List Entry) (e : Entry) (root : ℕ) → first + length new ≤ later → 1 ≤ later → MayLeadAfter (with_pages known first new) before e root → root < later
root-low known first later new before (Create id) root behind least may = let none : root ≡ 0 = may in omega arith
root-low known first later new before (Define id spec) root behind least may = let none : root ≡ 0 = may in omega arith
root-low known first later new before (Retire stream least_version) root behind least may = let none : root ≡ 0 = may in omega arith
root-low known first later new before (Commit stream cut added) root behind least may =
    page-low known first later new stream (latest before stream + 1) root (adds added) behind least may
root-low known first later new before (Distillate stream cut added reads) root behind least may =
    page-low known first later new stream (latest before stream + 1) root (adds added) behind least may

-- The board with the entry is that of the entries, and its trees are stored.
module _ (before : Prefix) (board : Kept) (nodes : TreesValue) (e : Entry) (root : ℕ) (pages : List NodePage) (body : List ℕ) (t : TreeValue) (s : Staged) (is : IsBodyOf before e root pages body) (has : HasMade (pages_after before e pages) nodes root) (of : IsTreeOfRoot nodes root t) (follows : Follows (before.entries ++ e ∷ [])) (leads : IsRootOf (pages_after before e pages) before.entries e root pages) where
  pub board-of : (rejection before.entries e ≡ None → IsTreeAfter before.entries e t → IsBoardOf (before.entries ++ e ∷ []) s.next) → IsBoardOf (before.entries ++ e ∷ []) s.next
  board-of staged =
      staged (follows-last before.entries e follows) (tree-after before.entries (pages_after before e pages) nodes e root pages t has of follows leads)

  pub board-stored : ReadsEntry board e t s → AreStored before.pages before.gate board.streams → AreStored (pages_after before e pages) (before.gate + need body) s.next.streams
  board-stored reads old =
      let first = first_page before.gate e in
      let later = before.gate + need body in
      let known = pages_after before e pages in
      let needed : need body ≡ content_blocks (length (spelling e)) + length pages + 1 = ap need is.bytes ∙ need-body_of (length before.entries + 1) e root pages (each-places pages is.fits) in
      let behind : first + length pages ≤ later = omega arith in
      let least : 1 ≤ later = omega arith in
      let low = root-low before.pages first later pages before.entries e root behind least (root-may known before.entries e root pages follows leads) in
      stored-read before.pages before.gate first later pages board e t s old reads (kept-with before.pages first pages old.kept is.rightly is.fits) (omega arith) behind least (tree-stored before.entries known nodes e root later pages t has of follows leads low)

-- ---- trees of some of more pages

-- The nodes of a stream stay in their blocks.
nodes-wider : (pages wider : Pages) → ((block : ℕ) (page : NodePage) → pages block ≡ Some page → wider block ≡ Some page) → (s b : ℕ) (n : NewNodeValue) → nodes_in pages s b ≡ Some n → nodes_in wider s b ≡ Some n
nodes-wider pages wider more s b n at =
    elim (pages b) as (λ o. pages b ≡ o → option_and_then (node_of_stream s) o ≡ Some n → nodes_in wider s b ≡ Some n) [
      | None ↦ λ e none. absurd (cc)
      | Some p ↦ λ e is. ap (option_and_then (node_of_stream s)) (more b p e) ∙ is
    ] refl at

-- Trees of some of these pages are trees of some of wider ones.
pub part-wider : (pages wider : Pages) (nodes : TreesValue) → ((block : ℕ) (page : NodePage) → pages block ≡ Some page → wider block ≡ Some page) → ArePartOf pages nodes → ArePartOf wider nodes
part-wider pages wider nodes more are c =
    elim (node_at nodes c) as (λ o. node_at nodes c ≡ o → IfSome o (IsKnown wider)) [
      | None ↦ λ e. tt
      | Some k ↦ λ e.
          let is = known-at pages nodes c k are e in
          let m = is.made in
          record {
            page = is.page;
            is = more k.block is.page is.is;
            made = record {
              keeps = m.keeps;
              stream = m.stream;
              span = m.span;
              version = m.version;
              count = m.count;
              opened = m.opened;
              its_block = m.its_block;
              read = read-along (nodes_in pages k.stream) (nodes_in wider k.stream) (nodes-wider pages wider more k.stream) k.tree.span.height k.tree.span.start k.tree.node m.read;
            };
          }
    ] refl
