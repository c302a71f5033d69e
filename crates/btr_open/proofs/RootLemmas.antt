-- Lemmas on the block that may be the root of an entry: before the pages of the entry's extent are read, and with them.
use Rattle.std.specs.Prelude.{◌≡◌, ◌⊎◌, ℕ, ◌+◌, ◌-◌, ◌*◌, ◌≤◌, ◌==◌, nat_lt, nat_eq, Bool, false, not, List, [], ◌∷◌, ◌++◌, length, take, drop, slice_get, cond, Option, Some, None, IfSome}
use Rattle.std.specs.List.{flat_map, AllByRecursion, cons_option}
use Rattle.std.specs.Option.{unwrap_or, option_map}
use Rattle.std.proofs.Common.{zero, suc, refl, sym, ap, ◌∙◌, arith, subst, inl, inr, length-append}
use Rattle.std.proofs.Math.Seq.{take-append_seam, drop-append-add}
use Rattle.std.proofs.lemmas.Bool.{eq-eqb}
use Rattle.std.proofs.lemmas.Bool.Decides.{nat_tests}
use Rattle.std.proofs.lemmas.List.{take_all, drop_all}
use Rattle.std.proofs.lemmas.Option.{slice_get-map}
use Rattle.btr_base.specs.declared.limits.TheConstants.{FIRST}
use Rattle.btr_base.specs.declared.point.Point.{Point}
use Rattle.btr_base.specs.Point.{AreInDomain}
use Rattle.btr_base.specs.Range.{RangeValue}
use Rattle.btr_base.specs.Bag.{outside}
use Rattle.btr_base.specs.Commit.{Change}
use Rattle.btr_base.proofs.PointLemmas.{length-sort}
use Rattle.btr_tree.specs.History.{Past, nothing, ◌▷◌, bag, IsBefore}
use Rattle.btr_tree.specs.Leads.{node_to}
use Rattle.btr_tree.specs.NewNodes.{NewNodeValue}
use Rattle.btr_tree.specs.Root.{TreeValue}
use Rattle.btr_tree.specs.Nodes.{points_of, above_root, is_node}
use Rattle.btr_tree.proofs.NewNodeLemmas.{last_change-before}
use Rattle.btr_tree.proofs.RootLemmas.{root-points}
use Rattle.btr_tree.proofs.VersionLemmas.{points-after}
use Rattle.btr_node.specs.Page.{header, page_bytes, Keeps, Spells, Fits}
use Rattle.btr_node.specs.declared.page.NodePage.{NodePage}
use Rattle.btr_node.specs.declared.page.NodePage.TheVariants.{Leaf, Inner}
use Rattle.btr_node.proofs.PageLemmas.{page-once}
use Rattle.btr_tree.specs.PageNodes.{Pages, node_of_page, IsRootPage}
use Rattle.btr_pages.specs.Pages.{with_pages, IsPageAt, ArePages, MayBeRoot}
use Rattle.btr_pages.specs.Blocks.{block_of_bytes}
use Rattle.btr_pages.proofs.BlockLemmas.{each-places, length-pages}
use Rattle.btr_pages.proofs.KnownLemmas.{pages-below, pages-from}
use Rattle.btr_pages.proofs.ReportedLemmas.{with-either, page-in}
use Rattle.btr_hist.specs.declared.entry.Entry.{Entry}
use Rattle.btr_hist.specs.declared.entry.Entry.TheVariants.{Create, Define, Commit, Distillate, Retire}
use Rattle.btr_hist.specs.declared.kernel.Reads.{Reads}
use Rattle.btr_hist.specs.History.{change_of, commits, latest}
use Rattle.btr_hist.specs.Legal.{Follows}
use Rattle.btr_hist.proofs.AcceptedLemmas.{change-accepted}
use Rattle.btr_hist.proofs.HistoryLemmas.{commits-append, follows-last}
use Rattle.btr_streams.specs.Past.{with_commits, commits_to}
use Rattle.btr_streams.specs.Board.{Versions, Kept}
use Rattle.btr_streams.specs.Rolling.{kept_versions, kept_stream, rolled}
use Rattle.btr_engine.specs.Roots.{LeadsToLatest, IsRootOf}
use Rattle.btr_streams.specs.Stage.{change}
use Rattle.btr_streams.proofs.BoardTrees.{made_by, with_commits-push, before-commits_to}
use Rattle.btr_roll.specs.Roll.{RollStreamValue, versions_count}
use Rattle.btr_open.specs.Reached.{next_version}
use Rattle.btr_open.specs.RootTest.{adds, MayLead, IsPageIn, MayBeRootIn, MayLeadIn}
use Rattle.btr_open.proofs.ListLemmas.{each-at, each-from, one-less}
use Rattle.btr_pages.proofs.BlockLemmas.{one-block}

-- ---- the blocks of pages

-- After the last block there is no page.
pub no-block : (bytes : List ℕ) (n : ℕ) (page : NodePage) → length bytes ≤ 4096 * n → Fits page → Spells (block_of_bytes bytes n) page → ⊥
no-block bytes n page le fits spells =
    let none : block_of_bytes bytes n ≡ [] = ap (take 4096) (drop_all (4096 * n) bytes le) in
    let same : length (page_bytes page) ≡ 0 = ap (length {A = ℕ}) (sym spells.bytes_are ∙ none) in
    omega (arith, one-block page fits)

-- The block of a page among the bytes of pages.
block-is : (pages : List NodePage) (n : ℕ) (page : NodePage) → AllByRecursion Fits pages → slice_get pages n ≡ Some page → block_of_bytes (flat_map page_bytes pages) n ≡ page_bytes page
block-is [] n page fits at = absurd (cc)
block-is (p ∷ pages) zero page fits at =
    let same : p ≡ page = cc in
    let long : 4096 ≡ length (page_bytes p) = sym (one-block p fits.0) in
    ap (λ k. take k (page_bytes p ++ flat_map page_bytes pages)) long ∙ take-append_seam (page_bytes p) (flat_map page_bytes pages) ∙ ap page_bytes same
block-is (p ∷ pages) (suc n) page fits at =
    let past : 4096 * suc n ≡ length (page_bytes p) + 4096 * n = omega (arith, one-block p fits.0) in
    ap (λ k. take 4096 (drop k (page_bytes p ++ flat_map page_bytes pages))) past
    ∙ ap (take 4096) (drop-append-add (page_bytes p) (flat_map page_bytes pages) (4096 * n))
    ∙ block-is pages n page fits.1 at

-- The page that has the bytes of a block is the one that is there.
pub same-page : (pages : List NodePage) (n : ℕ) (page : NodePage) → AllByRecursion Fits pages → Fits page → Spells (block_of_bytes (flat_map page_bytes pages) n) page → slice_get pages n ≡ Some page
same-page pages n page fits fit spells =
    elim (slice_get pages n) as (λ o. slice_get pages n ≡ o → o ≡ Some page) [
      | None ↦ λ e. absurd (no-block (flat_map page_bytes pages) n page (omega (arith, length-pages pages (each-places pages fits), past-all pages n e)) fit spells)
      | Some there ↦ λ e.
          ap Some (page-once there page (each-at Fits pages n there fits e) fit (sym (block-is pages n there fits e) ∙ spells.bytes_are))
    ] refl
  where
    past-all : (pages : List NodePage) (n : ℕ) → slice_get pages n ≡ None → length pages ≤ n
    past-all [] n e = omega arith
    past-all (p ∷ pages) zero e = absurd (cc)
    past-all (p ∷ pages) (suc n) e = let le = past-all pages n e in omega arith

-- ---- the root, before and with the pages

module _ (known : Pages) (first : ℕ) (pages : List NodePage) (bytes : List ℕ) (are : bytes ≡ flat_map page_bytes pages) (fits : AllByRecursion Fits pages) where
  -- The page that a block has before is there with the pages.
  page-with : (block : ℕ) (page : NodePage) → IsPageIn known first bytes block page → with_pages known first pages block ≡ Some page
  page-with block page (inl below) = pages-below known first block pages below.0 ∙ below.1
  page-with block page (inr among) =
      pages-from known first block pages among.0
      ∙ same-page pages (block - first) page fits among.1 (subst (λ xs. Spells (block_of_bytes xs (block - first)) page) are among.2)

  page-before : AllByRecursion Keeps pages → (block : ℕ) (page : NodePage) → with_pages known first pages block ≡ Some page → IsPageIn known first bytes block page
  page-before keep block page at =
      elim (with-either known first pages block page at) [
        | inl below ↦ inl below
        | inr among ↦
            inr (
              among.0,
              each-at Fits pages (block - first) page fits among.1,
              record {
                keeps = each-at Keeps pages (block - first) page keep among.1;
                bytes_are = ap (λ xs. block_of_bytes xs (block - first)) are ∙ block-is pages (block - first) page fits among.1;
              },
            )
      ]

  root-with : (stream version root : ℕ) (some : Bool) → MayBeRootIn known first bytes stream version some root → MayBeRoot (with_pages known first pages) stream version some root
  root-with stream version root some (inl none) = inl none
  root-with stream version root some (inr has) =
      inr (record { page = has.page; is = page-with root has.page has.is; fits = has.fits })

  root-before : AllByRecursion Keeps pages → (stream version root : ℕ) (some : Bool) → MayBeRoot (with_pages known first pages) stream version some root → MayBeRootIn known first bytes stream version some root
  root-before keep stream version root some (inl none) = inl none
  root-before keep stream version root some (inr has) =
      inr (record { page = has.page; is = page-before keep root has.page has.is; fits = has.fits })

-- A root that may be that of an entry before its pages are read may be it with them.
pub may-lead : (known : Pages) (roll : List RollStreamValue) (e : Entry) (first root : ℕ) (pages : List NodePage) (bytes : List ℕ) → bytes ≡ flat_map page_bytes pages → AllByRecursion Fits pages → MayLeadIn known roll e first bytes root → MayLead (with_pages known first pages) roll e root
may-lead known roll (Create id) first root pages bytes are fits may = may
may-lead known roll (Define id spec) first root pages bytes are fits may = may
may-lead known roll (Retire stream least) first root pages bytes are fits may = may
may-lead known roll (Commit stream cut added) first root pages bytes are fits may =
    root-with known first pages bytes are fits stream (next_version roll stream) root (adds added) may
may-lead known roll (Distillate stream cut added reads) first root pages bytes are fits may =
    root-with known first pages bytes are fits stream (next_version roll stream) root (adds added) may

-- A root that may be that of an entry with its pages, which keep the table, may be it before they are read.
pub may-lead-in : (known : Pages) (roll : List RollStreamValue) (e : Entry) (first root : ℕ) (pages : List NodePage) (bytes : List ℕ) → bytes ≡ flat_map page_bytes pages → AllByRecursion Fits pages → AllByRecursion Keeps pages → MayLead (with_pages known first pages) roll e root → MayLeadIn known roll e first bytes root
may-lead-in known roll (Create id) first root pages bytes are fits keep may = may
may-lead-in known roll (Define id spec) first root pages bytes are fits keep may = may
may-lead-in known roll (Retire stream least) first root pages bytes are fits keep may = may
may-lead-in known roll (Commit stream cut added) first root pages bytes are fits keep may =
    root-before known first pages bytes are fits keep stream (next_version roll stream) root (adds added) may
may-lead-in known roll (Distillate stream cut added reads) first root pages bytes are fits keep may =
    root-before known first pages bytes are fits keep stream (next_version roll stream) root (adds added) may

-- Pages that stand rightly keep the table.
pub pages-keep : (known : Pages) (first : ℕ) (pages : List NodePage) → ArePages known first pages → AllByRecursion Keeps pages
pages-keep known first pages are =
    each-from Keeps pages (λ n page at.
    let is : IsPageAt (with_pages known first pages) (first + n) page = subst (λ o. IfSome o (λ p. IsPageAt (with_pages known first pages) (first + n) p)) at (are n) in
    is.keeps)

-- ---- the root of a commit, as it is tested

-- The entry makes a version of this stream, and adds these points.
abbrev pub MakesVersionOf : Entry → ℕ → List Point → Type 0
MakesVersionOf e stream added =
    ((cut : List RangeValue) × (e ≡ Commit stream cut added))
    ⊎ ((cut : List RangeValue) × (reads : Reads) × (e ≡ Distillate stream cut added reads))

-- What is tested of the root of a commit: whether it may be that of the version after this one, whose commit adds a point or none.
pub record IsTested (roll : List RollStreamValue) (e : Entry) (stream version : ℕ) (some : Bool) : Type 0 where
  pub added : List Point
  pub makes : MakesVersionOf e stream added
  pub version_is : version ≡ versions_count (slice_get roll stream)
  pub some_is : some ≡ adds added

module _ (known : Pages) (roll : List RollStreamValue) (e : Entry) (first root stream version : ℕ) (some : Bool) (bytes : List ℕ) (is : IsTested roll e stream version some) where
  -- The root is right if it may be that of the version.
  pub tested-right : MayBeRootIn known first bytes stream (version + 1) some root → MayLeadIn known roll e first bytes root
  tested-right may =
      let here : MayBeRootIn known first bytes stream (next_version roll stream) (adds is.added) root = subst (λ t. MayBeRootIn known first bytes stream (next_version roll stream) t root) is.some_is (subst (λ v. MayBeRootIn known first bytes stream (v + 1) some root) is.version_is may) in
      elim is.makes [
        | inl commit ↦ subst (λ f. MayLeadIn known roll f first bytes root) (sym commit.1) here
        | inr distillate ↦ subst (λ f. MayLeadIn known roll f first bytes root) (sym distillate.2) here
      ]

  -- A right root may be that of the version.
  pub right-tested : MayLeadIn known roll e first bytes root → MayBeRootIn known first bytes stream (version + 1) some root
  right-tested may =
      let here : MayBeRootIn known first bytes stream (next_version roll stream) (adds is.added) root =
      elim is.makes [
        | inl commit ↦ subst (λ f. MayLeadIn known roll f first bytes root) commit.1 may
        | inr distillate ↦ subst (λ f. MayLeadIn known roll f first bytes root) distillate.2 may
      ] in
      subst (λ v. MayBeRootIn known first bytes stream (v + 1) some root) (sym is.version_is) (subst (λ t. MayBeRootIn known first bytes stream (next_version roll stream) t root) (sym is.some_is) here)

length-kept : (s : Versions) (version : ℕ) (ts : List TreeValue) → length (kept_versions s version ts) ≡ length ts
length-kept s version [] = refl
length-kept s version (t ∷ ts) = ap suc (length-kept s (version + 1) ts)

-- The latest version of a stream of a board, or 0 if there is no such stream, is the number of its versions in the board's roll.
pub latest-rolled-or : (b : Kept) (stream : ℕ) → unwrap_or (option_map (λ (s : Versions). length s.trees - 1) (slice_get b.streams stream)) 0 ≡ versions_count (slice_get (rolled b) stream)
latest-rolled-or b stream =
    go (slice_get b.streams stream) ∙ ap versions_count (sym (slice_get-map kept_stream b.streams stream))
  where
    go : (o : Option Versions) → unwrap_or (option_map (λ (s : Versions). length s.trees - 1) o) 0 ≡ versions_count (option_map kept_stream o)
    go None = refl
    go (Some s) = sym (length-kept s 1 (drop 1 s.trees) ∙ one-less s.trees)

above-none : (n : ℕ) → not (n == 0) ≡ nat_lt 0 n
above-none n = grind (arith, nat_tests)

pub adds-not-empty : (added : List Point) → not (length added == 0) ≡ adds added
adds-not-empty added = above-none (length added)

-- ---- the root that leads to the tree of a version

span-height : (page : NodePage) → (header page).height ≡ (node_of_page page).span.height
span-height (Leaf start height stream version count points) = refl
span-height (Inner start height stream version count slots) = refl

its-version : (page : NodePage) → (header page).version ≡ (node_of_page page).version
its-version (Leaf start height stream version count points) = refl
its-version (Inner start height stream version count slots) = refl

-- The page of a node of the root's span, in a past whose versions are before `version + 1`, is that of the root of the version.
pub root-page : (stream version : ℕ) (page : NodePage) (links : ℕ → ℕ) (h : Past) → (header page).stream ≡ stream → node_of_page page ≡ node_to links 10 FIRST above_root h → IsBefore (version + 1) h → IsRootPage stream version page
root-page stream version page links h its says old =
    let low = last_change-before (is_node above_root 10 FIRST) 10 FIRST h (version + 1) (omega arith) old in
    let made = its-version page ∙ ap (λ (n : NewNodeValue). n.version) says in
    record {
      height = span-height page ∙ ap (λ (n : NewNodeValue). n.span.height) says;
      its_stream = its;
      not_newer = omega (arith, low, made);
    }

-- The points of a commit stay in its version.
no-added : (h : Past) (version : ℕ) (c : Change) → AreInDomain c.added → points_of 10 FIRST (bag (made_by version c ▷ h)) ≡ [] → length c.added ≡ 0
no-added h version c times none =
    let old : List Point = outside (points_of 10 FIRST (bag h)) c.cut in
    let all = points-after 10 FIRST (made_by version c) (bag h) in
    let size = ap (length {A = Point}) (sym all ∙ none) in
    omega (arith, size, length-sort (old ++ points_of 10 FIRST c.added), length-append old (points_of 10 FIRST c.added), ap (length {A = Point}) (root-points c.added times))

adds-none : (added : List Point) → length added ≡ 0 → adds added ≡ false
adds-none [] none = refl
adds-none (p ∷ added) none = absurd (omega arith)

module _ (known : Pages) (before : List Entry) (e : Entry) (s : ℕ) (c : Change) (makes : change_of s e ≡ Some c) where
  commits-more : commits (before ++ e ∷ []) s ≡ commits before s ++ c ∷ []
  commits-more = commits-append before (e ∷ []) s ∙ ap (λ o. commits before s ++ cons_option o []) makes

  latest-more : latest (before ++ e ∷ []) s ≡ latest before s + 1
  latest-more = ap (length {A = Change}) (commits-more) ∙ length-append (commits before s) (c ∷ [])

  -- The past of the new version: its commit, after those before it.
  past-more : commits_to (before ++ e ∷ []) s (latest (before ++ e ∷ []) s) ≡ made_by (0 + length (commits before s) + 1) c ▷ with_commits 0 nothing (commits before s)
  past-more =
      ap (with_commits 0 nothing) (take_all (latest (before ++ e ∷ []) s) (commits (before ++ e ∷ []) s) (omega arith) ∙ commits-more)
      ∙ with_commits-push 0 nothing (commits before s) c

  root-of : (root : ℕ) → Follows (before ++ e ∷ []) → LeadsToLatest known (before ++ e ∷ []) s root → MayBeRoot known s (latest before s + 1) (adds c.added) root
  root-of root follows leads =
      let times = (change-accepted before e s c (follows-last before e follows) makes).in_domain in
      let past = commits_to (before ++ e ∷ []) s (latest (before ++ e ∷ []) s) in
      elim leads [
        | inl nowhere ↦
            let none = ap (λ h. points_of 10 FIRST (bag h)) (sym past-more) ∙ nowhere.none in
            inl (nowhere.is, adds-none c.added (no-added (with_commits 0 nothing (commits before s)) (0 + length (commits before s) + 1) c times none))
        | inr to ↦
            let of = page-in known s root (node_to to.links 10 FIRST above_root past) to.is in
            let old : IsBefore (latest before s + 1 + 1) past = subst (λ n. IsBefore (n + 1) past) latest-more (before-commits_to (before ++ e ∷ []) s (latest (before ++ e ∷ []) s)) in
            inr (record { page = of.page; is = of.is; fits = root-page s (latest before s + 1) of.page to.links past of.its_stream of.says old })
      ]

-- The root of an entry after a history may be this block. The version that it makes is counted in the history.
abbrev pub MayLeadAfter : Pages → List Entry → Entry → ℕ → Type 0
MayLeadAfter known before (Create id) root = root ≡ 0
MayLeadAfter known before (Define id spec) root = root ≡ 0
MayLeadAfter known before (Retire stream first) root = root ≡ 0
MayLeadAfter known before (Commit stream cut added) root = MayBeRoot known stream (latest before stream + 1) (adds added) root
MayLeadAfter known before (Distillate stream cut added reads) root = MayBeRoot known stream (latest before stream + 1) (adds added) root

-- A commit is one of its stream.
pub its-change : (stream : ℕ) (c : Change) → cond (nat_eq stream stream) (Some c) None ≡ Some c
its-change stream c = ap (λ t. cond t (Some c) None) (eq-eqb stream stream refl)

-- The root of an entry that leads to the tree of its version may be the root.
pub root-may : (known : Pages) (before : List Entry) (e : Entry) (root : ℕ) (pages : List NodePage) → Follows (before ++ e ∷ []) → IsRootOf known before e root pages → MayLeadAfter known before e root
root-may known before (Create id) root pages follows is = is
root-may known before (Define id spec) root pages follows is = is
root-may known before (Retire stream first) root pages follows is = is
root-may known before (Commit stream cut added) root pages follows is =
    root-of known before (Commit stream cut added) stream (change cut added) (its-change stream (change cut added)) root follows is
root-may known before (Distillate stream cut added reads) root pages follows is =
    root-of known before (Distillate stream cut added reads) stream (change cut added) (its-change stream (change cut added)) root follows is
