-- What an append of the extent of an entry leaves of the images of a log: at each moment, and after it.
use Rattle.std.specs.Prelude.{◌≡◌, ℕ, ◌+◌, ◌*◌, ◌<◌, ◌≤◌, ◌^◌, false, List, [], ◌∷◌, ◌++◌, length, None}
use Rattle.std.specs.List.{AllByRecursion}
use Rattle.std.proofs.Common.{sym, ◌∙◌, ap, subst, arith}
use Rattle.btr_disk.specs.declared.disk.Disk.{Ghosts}
use Rattle.btr_disk.specs.Gate.{zeros, gate_block}
use Rattle.btr_disk.specs.Publish.{Published}
use Rattle.btr_disk.proofs.MomentLemmas.{weakens}
use Rattle.btr_log.specs.declared.log.Log.{Log}
use Rattle.btr_log.specs.Extents.{need}
use Rattle.btr_log.proofs.ExtentLemmas.{AtRest-IsLog}
use Rattle.btr_log.specs.Append as append
use Rattle.btr_log.specs.Log as log
use Rattle.btr_hist.specs.declared.entry.Entry.{Entry}
use Rattle.btr_hist.specs.Legal.{rejection}
use Rattle.btr_entry.specs.Grammar.{IsSpelled}
use Rattle.btr_entry.specs.Format.{format_of}
use Rattle.btr_super.specs.declared.superblock.Super.{Super}
use Rattle.btr_super.specs.Super.{has_seal}
use Rattle.btr_node.specs.Page.{Fits}
use Rattle.btr_node.specs.declared.page.NodePage.{NodePage}
use Rattle.btr_tree.specs.PageNodes.{Pages}
use Rattle.btr_pages.specs.Pages.{ArePages}
use Rattle.btr_pages.proofs.PageOfLemmas.{HasPlaces}
use Rattle.btr_engine.specs.Body.{body_of, Prefix, prefix_to, first_page, pages_after, IsBodyOf, commits_before, nodes_of, need_of}
use Rattle.btr_streams.specs.Board.{Kept, Versions}
use Rattle.btr_engine.specs.Roots.{IsRootOf}
use Rattle.btr_engine.specs.Stored.{AreStored}
use Rattle.btr_streams.specs.Rolling.{HaveRoots}
use Rattle.btr_engine.specs.Travel.{HoldsNow}
use Rattle.btr_engine.specs.Step.{IsBeforeOrAfter}
use Rattle.btr_engine.proofs.BodyLemmas.{need-body_of, may-have}
use Rattle.btr_engine.proofs.HoldsLemmas.{HoldsTrees, holds_trees, before_or_after}
use Rattle.btr_engine.proofs.Stepping.{brings}

-- The run is the extent of the entry, which may follow the history as the next one, with this root and these pages. They are as many as
-- the entry has nodes.
pub record IsExtentOf (h : List Entry) (e : Entry) (root : ℕ) (pages : List NodePage) (run : List ℕ) : Type 0 where
  pub allowed : rejection h e ≡ None
  pub spelled : IsSpelled e
  pub places : AllByRecursion HasPlaces pages
  pub low : root < 2 ^ 64
  pub nodes : length pages ≡ nodes_of (commits_before h e) e
  pub bytes : run ≡ body_of (length h + 1) e root pages ++ zeros 4096

-- The pages of the next entry stand rightly after the prefix, their numbers fit, and its root leads to the new tree.
pub record StandAfter (before : Prefix) (e : Entry) (root : ℕ) (pages : List NodePage) : Type 0 where
  pub fit : AllByRecursion Fits pages
  pub rightly : ArePages before.pages (first_page before.gate e) pages
  pub keeps : IsRootOf (pages_after before e pages) before.entries e root pages

module _ {D : Type 0} {disk : Ghosts D} (h : List Entry) (l : Log D disk) (e : Entry) (root : ℕ) (pages : List NodePage) (run : List ℕ) (is : IsExtentOf h e root pages run) where
  -- The body of the run is the entry's.
  its_body : (gate : ℕ) (roots : List ℕ) (known : Pages) → StandAfter (prefix_to gate h roots known) e root pages → IsBodyOf (prefix_to gate h roots known) e root pages (append.body_in_run run)
  its_body gate roots known stand = record {
    spelled = is.spelled;
    fits = stand.fit;
    rightly = stand.rightly;
    low = is.low;
    may_have = may-have (commits_before h e) e pages is.nodes;
    bytes = brings (length h + 1) e root pages run is.bytes;
  }

  pub needed : need (append.body_in_run run) ≡ need_of h e
  needed =
      let same : need (append.body_in_run run) ≡ need (body_of (length h + 1) e root pages) = ap need (brings (length h + 1) e root pages run is.bytes) in
      omega (arith, same, need-body_of (length h + 1) e root pages is.places, is.nodes)

  module _ (b : Kept) (s : Super) (now : HoldsNow h b s l) (fits : need (append.body_in_run run) ≤ log.log_room l) (may : format_of e ≤ s.format) (unsealed : has_seal s ≡ false) where
    -- What is before the tail.
    abbrev pub before_tail : Prefix
    before_tail = prefix_to (log.log_tail l) h now.holds.leads.roots now.holds.leads.pages

    may_stand : format_of e ≤ now.holds.super.format
    may_stand = subst (λ (x : Super). format_of e ≤ x.format) (sym now.under) may

    unsealed_now : has_seal now.holds.super ≡ false
    unsealed_now = ap has_seal now.under ∙ unsealed

    -- A block is left after it for the next gate.
    inside : log.log_tail l + need_of h e < log.log_blocks l
    inside =
        let below : log.log_tail l < log.log_blocks l = l.tail_inside in
        omega (arith, below, fits, needed)

    module _ (stand : StandAfter before_tail e root pages) (after : Log D disk) where
      -- Each moment of the append leaves the history, or the history with the entry.
      pub moments : log.LogLeaves l after (append.IsMoment (disk.contents (log.log_device l)) (log.log_tail l) now.holds.bodies (append.body_in_run run)) → log.LogLeaves l after (IsBeforeOrAfter (disk.size (log.log_device l)) h e)
      moments leaves =
          let contents = disk.contents (log.log_device l) in
          weakens disk.calls disk.images_since (log.log_device l) (log.log_device after) (append.IsMoment contents (log.log_tail l) now.holds.bodies (append.body_in_run run)) (IsBeforeOrAfter (disk.size (log.log_device l)) h e)
          (before_or_after (disk.size (log.log_device l)) contents (log.log_blocks l) (log.log_tail l) h now.holds e root pages (append.body_in_run run) (its_body (log.log_tail l) now.holds.leads.roots now.holds.leads.pages stand) stand.keeps is.allowed needed inside may_stand unsealed_now)
          leaves

      -- After it the log holds the history with the entry, with the trees of the next board.
      pub holds_after : (next : Kept) → append.IsAppended l after run → log.KeepsBounds l after → AreStored (pages_after before_tail e pages) (log.log_tail l + need_of h e) next.streams → HaveRoots (now.holds.leads.roots ++ root ∷ []) next.streams → Published (disk.contents (log.log_device l)) (4096 * (log.log_tail l + 1)) run (4096 * log.log_tail l) gate_block (disk.contents (log.log_device after)) → log.IsLogAtRest after (now.holds.bodies ++ append.body_in_run run ∷ []) → HoldsNow (h ++ e ∷ []) next s after
      holds_after next appended kept stored have written log_rests =
          let size = disk.size (log.log_device l) in
          let tail = log.log_tail l in
          let blocks = log.log_blocks l in
          let image = disk.contents (log.log_device after) in
          let streams : List Versions = next.streams in
          let tail_after : log.log_tail after ≡ tail + need_of h e = appended.tail ∙ ap (λ n. tail + n) needed in
          let below : (k : ℕ) → k < 4096 * tail → image k ≡ disk.contents (log.log_device l) k = λ k lt. written.elsewhere k (λ le. absurd (omega (arith, le, lt))) (λ le. absurd (omega (arith, le, lt))) in
          let its_log = AtRest-IsLog image (disk.images_now (log.log_device after)) (log.log_tail after) (now.holds.bodies ++ append.body_in_run run ∷ []) log_rests in
          let holds : HoldsTrees size image blocks (tail + need_of h e) (h ++ e ∷ []) s streams = holds_trees size (disk.contents (log.log_device l)) blocks tail h now.holds e root pages (append.body_in_run run) (its_body tail now.holds.leads.roots now.holds.leads.pages stand) stand.keeps is.allowed needed inside may_stand unsealed_now image below its_log s now.under streams stored have in
          let sized = subst (λ n. HoldsTrees n image blocks (tail + need_of h e) (h ++ e ∷ []) s streams) (sym kept.device_kept.same_size) holds in
          let blocked = subst (λ n. HoldsTrees (disk.size (log.log_device after)) image n (tail + need_of h e) (h ++ e ∷ []) s streams) (sym kept.blocks) sized in
          let tailed = subst (λ n. HoldsTrees (disk.size (log.log_device after)) image (log.log_blocks after) n (h ++ e ∷ []) s streams) (sym tail_after) blocked in
          record { holds = tailed.0; under = tailed.1; stored = tailed.2; roots = tailed.3; only = log_rests.only }

module _ {D : Type 0} {disk : Ghosts D} where
  -- The device has the log of the bodies, at rest.
  pub log_rests_now : (h : List Entry) (b : Kept) (s : Super) (l : Log D disk) (now : HoldsNow h b s l) → log.IsLogAtRest l now.holds.bodies
  log_rests_now h b s l now =
      record { extents = now.holds.extents; closed = now.holds.closed; only = now.only }
