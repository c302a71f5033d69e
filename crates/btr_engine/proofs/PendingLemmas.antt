-- What a pending entry writes: its extent, pages that stand rightly after those before it, and a root that leads to the new tree.
use Rattle.std.specs.Prelude.{◌≡◌, ℕ, ◌+◌, ◌/◌, ◌^◌, ◌<◌, ◌≤◌, List, [], ◌∷◌, ◌++◌, length}
use Rattle.std.specs.List.{AllByRecursion}
use Rattle.std.proofs.Common.{refl, sym, ◌∙◌, ap, subst, arith, length-append}
use Rattle.std.proofs.lemmas.List.{length-map}
use Rattle.btr_base.specs.declared.limits.TheConstants.{MAX_VERSIONS}
use Rattle.btr_base.specs.Commit.{Change}
use Rattle.btr_disk.specs.Gate.{zeros}
use Rattle.btr_log.specs.Extents.{need}
use Rattle.btr_log.specs.Append.{body_in_run, IsAppendRun}
use Rattle.btr_log.proofs.AppendLemmas.{length-run}
use Rattle.btr_tree.specs.NewNodes.{NewNodeValue}
use Rattle.btr_node.specs.Page.{Fits}
use Rattle.btr_tree.specs.PageNodes.{Pages}
use Rattle.btr_pages.specs.Pages.{with_pages, page_of, pages_of, ArePages}
use Rattle.btr_hist.specs.declared.entry.Entry.{Entry}
use Rattle.btr_hist.specs.declared.entry.Entry.TheVariants.{Create, Define, Commit, Distillate, Retire}
use Rattle.btr_hist.specs.History.{commits, latest}
use Rattle.btr_entry.specs.Grammar.{IsSpelled, ValuesFit}
use Rattle.btr_entry.proofs.SpellingLemmas.{length-spelling}
use Rattle.btr_streams.specs.declared.board.Staged.{Staged}
use Rattle.btr_engine.specs.declared.travel.Ready.{Ready}
use Rattle.btr_engine.specs.Body.{node_blocks, body_of, prefix_to, first_page, pages_after, commits_before, nodes_of, need_of}
use Rattle.btr_streams.specs.Board.{Kept, IsBoardOf}
use Rattle.btr_engine.specs.Roots.{LeadsToLatest, IsRootOf}
use Rattle.btr_engine.specs.Stored.{AreStored}
use Rattle.btr_streams.specs.Rolling.{HaveRoots}
use Rattle.btr_streams.specs.Stage.{IsReceipt, MakesVersion, WritesCommit, WritesRetirement, WritesStream, change}
use Rattle.btr_engine.specs.Travel.{WritesAfter, run_of, written_pages, IsMade, IsStaged}
use Rattle.btr_streams.proofs.BoardStreamLemmas.{commit-makes, distillate-makes}
use Rattle.btr_engine.proofs.BodyLemmas.{FitsBody}
use Rattle.btr_engine.proofs.NeedLemmas.{few_nodes}
use Rattle.btr_engine.proofs.Written.{nodes-counted, reported, root-leads, stored-next, stored-new, stored-retired-here, pages-places}
use Rattle.btr_engine.proofs.Stepping.{is_append_run}
use Rattle.btr_engine.proofs.Appending.{IsExtentOf, StandAfter}

-- The pages of no nodes are none.
no-pages : (stream : ℕ) (nodes : List NewNodeValue) → nodes ≡ [] → pages_of stream nodes ≡ []
no-pages stream nodes none = ap (pages_of stream) none

many-pages : (stream : ℕ) (nodes : List NewNodeValue) → length (pages_of stream nodes) ≡ length nodes
many-pages stream nodes = length-map nodes (page_of stream)

-- The extent can be appended, whatever the history is.
pub fits_ready : (e : Entry) (r : Ready) → 1 ≤ r.staged.next.entries → r.staged.next.entries < 2 ^ 64 → IsMade e r → FitsBody r.staged.next.entries e r.staged.root (written_pages r.staged)
fits_ready e r some few made = record {
  some = some;
  few = few;
  spelled = made.spelled;
  low = made.low;
  places = pages-places r.staged.receipt.stream r.staged.nodes.items;
  room = let room = made.room in omega (arith, many-pages r.staged.receipt.stream r.staged.nodes.items);
}

-- Its bytes are the blocks that it needs.
pub need_of_ready : (e : Entry) (r : Ready) → 1 ≤ r.staged.next.entries → r.staged.next.entries < 2 ^ 64 → IsMade e r → (need (body_in_run (run_of r)) ≡ length (run_of r) / 4096) × IsAppendRun (run_of r)
need_of_ready e r some few made =
    let run = is_append_run r.staged.next.entries e r.staged.root (written_pages r.staged) (run_of r) made.bytes (fits_ready e r some few made) in
    (omega (arith, length-run (run_of r) run), run)

module _ (h : List Entry) (b : Kept) (of : IsBoardOf h b) (tail : ℕ) where
  -- There are as many nodes as the entry has node blocks.
  nodes-needed : (e : Entry) (s : Staged) → WritesAfter b e tail s → length s.nodes.items ≡ nodes_of (commits_before h e) e
  nodes-needed (Create id) s w = ap (length {A = NewNodeValue}) w.none
  nodes-needed (Define id spec) s w = ap (length {A = NewNodeValue}) w.none
  nodes-needed (Retire stream first) s w = ap (length {A = NewNodeValue}) w.none
  nodes-needed (Commit stream cut added) s w =
      let e : Entry = Commit stream cut added in
      nodes-counted h b s.next of e (first_page tail e) stream (change cut added) _ (commit-makes stream cut added) s.nodes.items s.root w
  nodes-needed (Distillate stream cut added reads) s w =
      let e : Entry = Distillate stream cut added reads in
      nodes-counted h b s.next of e (first_page tail e) stream (change cut added) _ (distillate-makes stream cut added reads) s.nodes.items s.root w

  -- The extent of an entry that was made ready.
  pub extent_of_ready : (e : Entry) (r : Ready) (run : List ℕ) → IsMade e r → IsStaged h b tail e r → run ≡ run_of r → IsExtentOf h e r.staged.root (written_pages r.staged) run
  extent_of_ready e r run made is same = record {
    allowed = is.allowed;
    spelled = made.spelled;
    places = pages-places r.staged.receipt.stream r.staged.nodes.items;
    low = made.low;
    nodes = many-pages r.staged.receipt.stream r.staged.nodes.items ∙ nodes-needed e r.staged is.writes;
    bytes = same ∙ made.bytes ∙ ap (λ n. body_of n e r.staged.root (written_pages r.staged) ++ zeros 4096) (is.of.entries ∙ length-append h (e ∷ []));
  }

  -- What an entry writes stands after the pages that stood, and stores the trees of the next board, which have the roots of the entries.
  pub record WritesRightly (roots : List ℕ) (pages : Pages) (e : Entry) (s : Staged) : Type 0 where
    pub stand : StandAfter (prefix_to tail h roots pages) e s.root (written_pages s)
    pub stored : AreStored (pages_after (prefix_to tail h roots pages) e (written_pages s)) (tail + need_of h e) s.next.streams
    pub have : HaveRoots (roots ++ s.root ∷ []) s.next.streams

  module _ (roots : List ℕ) (pages : Pages) (stored : AreStored pages tail b.streams) (some : 1 ≤ tail) (low : tail < 2 ^ 32) (few : (stream : ℕ) → latest h stream < MAX_VERSIONS) where
    rightly-stream : (e : Entry) (s : Staged) (id : ℕ) (spec : _) → WritesStream b id spec s.next s.nodes.items s.root → nodes_of (commits_before h e) e ≡ 0 → ((known : Pages) → s.root ≡ 0 → IsRootOf known h e s.root (written_pages s)) → HaveRoots (roots ++ s.root ∷ []) s.next.streams → WritesRightly roots pages e s
    rightly-stream e s id spec w none rule have =
        let empty : written_pages s ≡ [] = no-pages s.receipt.stream s.nodes.items w.none in
        record {
          stand = record {
            fit = subst (AllByRecursion Fits) (sym empty) tt;
            rightly = subst (λ l. ArePages pages (first_page tail e) l) (sym empty) (λ i. tt);
            keeps = rule _ w.no_root;
          };
          stored = subst (λ l. AreStored (with_pages pages (first_page tail e) l) (tail + need_of h e) s.next.streams) (sym empty)
              (stored-new pages tail (first_page tail e) (tail + need_of h e) b s.next id spec stored w.adds (omega arith) (omega arith) some);
          have = have;
        }

    rightly-retirement : (e : Entry) (s : Staged) (stream least : ℕ) → WritesRetirement b stream least s.next s.nodes.items s.root → nodes_of (commits_before h e) e ≡ 0 → ((known : Pages) → s.root ≡ 0 → IsRootOf known h e s.root (written_pages s)) → HaveRoots (roots ++ s.root ∷ []) s.next.streams → WritesRightly roots pages e s
    rightly-retirement e s stream least w none rule have =
        let empty : written_pages s ≡ [] = no-pages s.receipt.stream s.nodes.items w.none in
        record {
          stand = record {
            fit = subst (AllByRecursion Fits) (sym empty) tt;
            rightly = subst (λ l. ArePages pages (first_page tail e) l) (sym empty) (λ i. tt);
            keeps = rule _ w.no_root;
          };
          stored = subst (λ l. AreStored (with_pages pages (first_page tail e) l) (tail + need_of h e) s.next.streams) (sym empty)
              (stored-retired-here pages tail (first_page tail e) (tail + need_of h e) b s.next stream least stored w.sets (omega arith) (omega arith));
          have = have;
        }

    rightly-version : (e : Entry) (s : Staged) (stream : ℕ) (c : Change) (read : _) → MakesVersion e stream c read → WritesCommit b (first_page tail e) stream c read s.next s.nodes.items s.root → s.receipt.stream ≡ stream → IsSpelled e → ValuesFit c.added → stream < 2 ^ 32 → length c.added ≤ 2 ^ 34 → length c.cut ≤ 2 ^ 34 → nodes_of (commits_before h e) e ≡ node_blocks (commits h stream) c → ((known : Pages) → LeadsToLatest known (h ++ e ∷ []) stream s.root → IsRootOf known h e s.root (written_pages s)) → HaveRoots (roots ++ s.root ∷ []) s.next.streams → WritesRightly roots pages e s
    rightly-version e s stream c read makes w of_stream spelled values small points ranges count rule have =
        let first = first_page tail e in
        let nodes = s.nodes.items in
        let counted = nodes-counted h b s.next of e first stream c read makes nodes s.root w in
        let bound = few_nodes (commits h stream) c in
        let blocks : first + length nodes < 2 ^ 64 = omega (arith, counted, bound, length-spelling e spelled) in
        let behind : tail ≤ first = omega arith in
        let its : pages_of stream nodes ≡ written_pages s = ap (λ n. pages_of n nodes) (sym of_stream) in
        let all : first + length nodes ≤ tail + need_of h e = omega (arith, counted, count) in
        let fact = reported h b s.next of e first stream c read makes nodes s.root w pages tail stored behind values small (few stream) blocks in
        let next = stored-next h b s.next of e first stream c read makes nodes s.root w pages tail stored behind values small (few stream) blocks (tail + need_of h e) all in
        let leads = root-leads h b s.next of e first stream c read makes nodes s.root w pages tail stored behind values small (few stream) blocks in
        record {
          stand = record {
            fit = subst (AllByRecursion Fits) its fact.fit;
            rightly = subst (λ l. ArePages pages first l) its fact.stand;
            keeps = rule _ (subst (λ l. LeadsToLatest (with_pages pages first l) (h ++ e ∷ []) stream s.root) its leads);
          };
          stored = subst (λ l. AreStored (with_pages pages first l) (tail + need_of h e) s.next.streams) its next;
          have = have;
        }

    pub writes-rightly : (e : Entry) (s : Staged) → WritesAfter b e tail s → IsReceipt h e s.receipt → IsSpelled e → HaveRoots (roots ++ s.root ∷ []) s.next.streams → WritesRightly roots pages e s
    writes-rightly (Create id) s w receipt spelled have = rightly-stream (Create id) s id _ w refl (λ known none_such. none_such) have
    writes-rightly (Define id spec) s w receipt spelled have = rightly-stream (Define id spec) s id _ w refl (λ known none_such. none_such) have
    writes-rightly (Retire stream first) s w receipt spelled have =
        rightly-retirement (Retire stream first) s stream first w refl (λ known none_such. none_such) have
    writes-rightly (Commit stream cut added) s w receipt spelled have =
        let ranges = spelled.bounded.few_ranges in
        let points = spelled.bounded.few_points in
        rightly-version (Commit stream cut added) s stream (change cut added) _ (commit-makes stream cut added) w receipt.stream spelled spelled.values_fit spelled.stream_fits (omega arith) (omega arith) refl (λ known leads. leads) have
    writes-rightly (Distillate stream cut added reads) s w receipt spelled have =
        let ranges = spelled.bounded.few_ranges in
        let points = spelled.bounded.few_points in
        rightly-version (Distillate stream cut added reads) s stream (change cut added) _ (distillate-makes stream cut added reads) w receipt.stream spelled spelled.values_fit spelled.stream_fits (omega arith) (omega arith) refl (λ known leads. leads) have
