-- The board that an opening makes of the streams of a checkpoint and of the trees that it has read: it is that of the history, and its trees
-- are stored in the history's pages.
use Rattle.std.specs.Prelude.{◌≡◌, ℕ, ◌+◌, ◌<◌, ◌≤◌, List, [], ◌∷◌, length, take, slice_get, slice_index_or, Option, Some, None, IfSome, IsSome, option_map}
use Rattle.std.specs.Option.{option_and_then}
use Rattle.std.proofs.Common.{zero, suc, refl, sym, ap, ◌∙◌, arith, subst, inl, inr}
use Rattle.std.proofs.lemmas.Option.{slice_get_within, slice_get-get_or}
use Rattle.btr_base.specs.Point.{AreInDomain}
use Rattle.btr_base.specs.declared.limits.TheConstants.{FIRST, MAX_POINTS}
use Rattle.btr_tree.specs.History.{nothing}
use Rattle.btr_tree.specs.Root.{TreeValue, IsTree}
use Rattle.btr_tree.specs.Stored.{IsBelow}
use Rattle.btr_tree.specs.PageNodes.{nodes_in}
use Rattle.btr_pages.specs.Known.{TreesValue, ArePartOf}
use Rattle.btr_pages.specs.Reported.{AreKept}
use Rattle.btr_hist.specs.declared.entry.Entry.{Entry}
use Rattle.btr_hist.specs.History.{ids, commits, latest}
use Rattle.btr_hist.specs.Legal.{Follows}
use Rattle.btr_hist.proofs.OutputLemmas.{follows-sound}
use Rattle.btr_roll.specs.declared.roll.RollVersion.{RollVersion}
use Rattle.btr_roll.specs.Roll.{RollStreamValue}
use Rattle.btr_streams.specs.Past.{with_commits, commits_to}
use Rattle.btr_streams.specs.Board.{Versions, Kept, HasPast, HasTrees, IsBoardOf}
use Rattle.btr_engine.specs.Body.{Prefix, no_extents, first_page, with_extent, with_checkpoint, LeadTo}
use Rattle.btr_streams.specs.Rolling.{rolled_stream, roll_of}
use Rattle.btr_engine.specs.Roots.{IsRootOf}
use Rattle.btr_streams.specs.Restoring.{restored_stream, restored_streams, AllFitTrees, HaveRolledRoots}
use Rattle.btr_engine.specs.Stored.{AreStored}
use Rattle.btr_streams.specs.Rolling.{HaveRoots}
use Rattle.btr_engine.proofs.BodyLemmas.{some-needed, LeadTo-roots, LeadTo-gate}
use Rattle.btr_streams.proofs.BoardTrees.{bag-commits_to}
use Rattle.btr_streams.proofs.RestoringLemmas.{restored-of, restored-roots}
use Rattle.btr_engine.proofs.StoredLemmas.{kept-with}
use Rattle.btr_open.specs.declared.loading.Loader.{Loader}
use Rattle.btr_open.specs.Start.{HasVersionAt}
use Rattle.btr_open.specs.Loading.{AreTreesOf}
use Rattle.btr_open.specs.Reading.{IsStoredIn}
use Rattle.btr_open.proofs.ListLemmas.{each-from, is-there}
use Rattle.btr_open.proofs.TreeLemmas.{bare-node, HeldBy, held, held-tree, held-below, held-root}
use Rattle.btr_open.proofs.HeldPages.{if-each, page-low}
use Rattle.btr_open.proofs.HeldRolls.{roll-counted, roll-at, stream-versions}
use Rattle.btr_open.proofs.HeldRoots.{LeadsToVersion, leads-page, leads-low, pages-held, roots-lead}

-- ---- lists

-- A stream that was restored has the trees at its place.
record HasParts (roll : List RollStreamValue) (trees : List (List TreeValue)) (i : ℕ) (one : Versions) : Type 0 where
  its : RollStreamValue
  there_is : slice_get roll i ≡ Some its
  at : slice_get trees i ≡ Some one.trees

restored-parts : (roll : List RollStreamValue) (trees : List (List TreeValue)) (i : ℕ) (one : Versions) → slice_get (restored_streams roll trees) i ≡ Some one → HasParts roll trees i one
restored-parts [] trees i one at = absurd (cc)
restored-parts (x ∷ roll) [] i one at = absurd (cc)
restored-parts (x ∷ roll) (y ∷ trees) zero one at =
    let same : restored_stream x y ≡ one = cc in
    record { its = x; there_is = refl; at = ap (λ (v : Versions). Some v.trees) same }
restored-parts (x ∷ roll) (y ∷ trees) (suc i) one at =
    let p = restored-parts roll trees i one at in
    record { its = p.its; there_is = p.there_is; at = p.at }

-- ---- the pages of a history

kept-on : (before : Prefix) (bodies : List (List ℕ)) (after : Prefix) → LeadTo IsRootOf before bodies after → AreKept before.pages → AreKept after.pages
kept-on before [] after leads kept = subst (λ (p : Prefix). AreKept p.pages) leads kept
kept-on before (body ∷ bodies) after leads kept = elim leads [
  | inl x ↦
      kept-on (with_extent before x.0 x.1 x.2 body) bodies after x.5 (kept-with before.pages (first_page before.gate x.0) x.2 kept x.3.rightly x.3.fits)
  | inr x ↦ kept-on (with_checkpoint before body) bodies after x.1 kept
]

-- The past of version 0 has no commit.
pub past-none : (h : List Entry) (stream : ℕ) → commits_to h stream 0 ≡ nothing
past-none h stream = ap (with_commits 0 nothing) (take-none (commits h stream))
  where
    take-none : {X : Type 0} (xs : List X) → take 0 xs ≡ []
    take-none [] = refl
    take-none (x ∷ xs) = refl

-- ---- the trees of the streams

module _ (p : Prefix) (bodies : List (List ℕ)) (leads : LeadTo IsRootOf no_extents bodies p) (follows : Follows p.entries) (nodes : TreesValue) (trees : List (List TreeValue)) (counted : length trees ≡ length (roll_of p.entries p.roots)) (are : AreTreesOf nodes (roll_of p.entries p.roots) trees) (part : ArePartOf p.pages nodes) where
  abbrev h : List Entry
  h = p.entries

  abbrev roll : List RollStreamValue
  roll = roll_of p.entries p.roots

  some-gate : 1 ≤ p.gate
  some-gate = omega (arith, LeadTo-gate IsRootOf no_extents bodies p leads)

  -- The tree of a version from version 1 on.
  module _ (stream k : ℕ) (v : RollVersion) (ts : List TreeValue) (t : TreeValue) (at : HasVersionAt roll stream k v) (its : slice_get trees stream ≡ Some ts) (tree : slice_get ts (k + 1) ≡ Some t) where
    version-leads : LeadsToVersion p.pages h stream (k + 1) v.root
    version-leads = roots-lead bodies p leads follows stream k v at

    version-by : HeldBy p.pages stream (k + 1) v.root t
    version-by =
        let of = are.others stream k v ts t at its tree in
        held p.pages nodes stream (k + 1) v.root t part of.1 (leads-page p.pages h stream (k + 1) v.root version-leads) of.0

    version-tree : IsTree (commits_to h stream (k + 1)) t
    version-tree =
        let sound = follows-sound h follows in
        let points = bag-commits_to h stream (k + 1) in
        let times = subst AreInDomain (sym points) (sound.in_domain stream (k + 1)) in
        let few = subst (λ b. length b ≤ MAX_POINTS) (sym points) (sound.bounded stream (k + 1)) in
        held-tree p.pages stream (k + 1) v.root (commits_to h stream (k + 1)) t version-leads version-by times few

    version-below : IsBelow (nodes_in p.pages stream) p.gate 10 FIRST t.node
    version-below =
        held-below p.pages stream (k + 1) v.root (commits_to h stream (k + 1)) t version-leads p.gate version-by (leads-low p.pages h stream (k + 1) v.root version-leads p.gate some-gate (pages-held bodies p leads follows))

  -- The tree of a version is that of the version's commits, and it is stored in the pages.
  record IsRight (stream version : ℕ) (t : TreeValue) : Type 0 where
    its_tree : IsTree (commits_to h stream version) t
    low : IsBelow (nodes_in p.pages stream) p.gate 10 FIRST t.node

  right : (stream version : ℕ) (s : RollStreamValue) (ts : List TreeValue) (t : TreeValue) → slice_get roll stream ≡ Some s → slice_get trees stream ≡ Some ts → slice_get ts version ≡ Some t → IsRight stream version t
  right stream zero s ts t at its tree =
      let empty = are.first stream ts t its tree in
      let some = some-gate in
      record {
        its_tree = subst (λ q. IsTree q t) (sym (past-none h stream)) empty;
        low = subst (IsBelow (nodes_in p.pages stream) p.gate 10 FIRST) (sym (bare-node t.node empty.node)) (record { stored = tt; below = omega arith });
      }
  right stream (suc k) s ts t at its tree =
      let one : suc k ≡ k + 1 = omega arith in
      let few = slice_get_within ts (suc k) t tree in
      let long = are.long stream s ts at its in
      let v = is-there s.versions k (omega arith) in
      let version : HasVersionAt roll stream k v.0 = record { its = s; there = at; is = v.1 } in
      let here = ap (slice_get ts) (sym one) ∙ tree in
      record {
        its_tree = subst (λ n. IsTree (commits_to h stream n) t) (sym one) (version-tree stream k v.0 ts t version its here);
        low = version-below stream k v.0 ts t version its here;
      }

  -- ---- the board

  abbrev streams : List Versions
  streams = restored_streams roll trees

  has-trees : (stream : ℕ) (d : List TreeValue) → stream < length (ids h) → HasTrees h stream (slice_index_or trees stream d)
  has-trees stream d low =
      let ts = slice_index_or trees stream d in
      let id = slice_index_or (ids h) stream 0 in
      let s = rolled_stream h p.roots stream id in
      let at : slice_get roll stream ≡ Some s = roll-at h p.roots stream ∙ ap (option_map (rolled_stream h p.roots stream)) (slice_get-get_or (ids h) stream 0 low) in
      let its : slice_get trees stream ≡ Some ts = slice_get-get_or trees stream d (omega (arith, low, counted, roll-counted h p.roots)) in
      let long : length ts ≡ latest h stream + 1 = are.long stream s ts at its ∙ ap (λ n. n + 1) (stream-versions h p.roots stream id low) in
      record {
        counted = long;
        each = λ version t few. (right stream version s ts (slice_index_or ts version t) at its (slice_get-get_or ts version t (omega (arith, few, long)))).its_tree;
      }

  board-of : IsBoardOf h (record { streams = streams; entries = length h })
  board-of = restored-of h p.roots follows trees (counted ∙ roll-counted h p.roots) has-trees

  stored : AreStored p.pages p.gate streams
  stored = record {
    kept = kept-on no_extents bodies p leads (λ block. tt);
    below = λ block some. elim (p.pages block) as (λ o. p.pages block ≡ o → IsSome o → block < p.gate) [
      | None ↦ λ e is. absurd (cc)
      | Some page ↦ λ e is. page-low p.gate p.pages block page (pages-held bodies p leads follows) e
    ] refl some;
    each = λ stream version. go stream version (slice_get streams stream) refl;
  }
    where
      go : (stream version : ℕ) (o : Option Versions) → slice_get streams stream ≡ o → IfSome (option_and_then (λ (s : Versions). slice_get s.trees version) o) (λ t. IsBelow (nodes_in p.pages stream) p.gate 10 FIRST t.node)
      go stream version None e = tt
      go stream version (Some one) e =
          let parts = restored-parts roll trees stream one e in
          if-each (slice_get one.trees version) _ (λ t tree. (right stream version parts.its one.trees t parts.there_is parts.at tree).low)

  fit : AllFitTrees roll trees
  fit = record {
    counted = counted;
    each = λ stream s ts at its. record {
      counted = are.long stream s ts at its;
      pasts = each-from HasPast ts (λ version t tree. (commits_to h stream version, (right stream version s ts t at its tree).its_tree));
    };
  }

  rolled-roots : HaveRolledRoots roll trees
  rolled-roots stream k s v ts t at there its tree =
      sym (held-root p.pages stream (k + 1) v.root t (version-by stream k v ts t (record { its = s; there = at; is = there }) its tree))

  board-stored : (l : Loader) → l.board ≡ record { streams = streams; entries = length h } → l.least ≡ 1 → l.nodes ≡ nodes → IsStoredIn p l
  board-stored l board least same = record {
    of = subst (IsBoardOf h) (sym board) board-of;
    least = omega (arith, least, some-needed p.entries);
    counted = LeadTo-roots IsRootOf no_extents bodies p leads refl;
    stored = subst (λ (b : Kept). AreStored p.pages p.gate b.streams) (sym board) stored;
    roots = subst (λ (b : Kept). HaveRoots p.roots b.streams) (sym board) (restored-roots h p.roots trees fit rolled-roots);
    part = subst (ArePartOf p.pages) (sym same) part;
  }

-- The board that was made of the streams of a history and of their trees is that of the history, with its trees stored.
pub restored-held : (p : Prefix) (bodies : List (List ℕ)) → LeadTo IsRootOf no_extents bodies p → Follows p.entries → (l : Loader) (trees : List (List TreeValue)) → length trees ≡ length (roll_of p.entries p.roots) → l.board ≡ record { streams = restored_streams (roll_of p.entries p.roots) trees; entries = length p.entries } → l.least ≡ 1 → AreTreesOf l.nodes (roll_of p.entries p.roots) trees → ArePartOf p.pages l.nodes → IsStoredIn p l
restored-held p bodies leads follows l trees counted board least are part =
    board-stored p bodies leads follows l.nodes trees counted are part l board least refl
