-- What an opening returns, from the choice of the superblock and the reading of the log.
use Rattle.std.specs.Prelude.{◌≡◌, ℕ, ◌<◌, ◌≤◌, List, Result, Ok, Err, IfOk, IfErr}
use Rattle.std.proofs.Common.{sym, ◌∙◌, ap, subst, arith}
use Rattle.btr_disk.specs.declared.disk.Disk.{Ghosts}
use Rattle.btr_disk.specs.Bytes.{Image}
use Rattle.btr_disk.specs.Gate.{IsClosed}
use Rattle.btr_disk.proofs.ByteLemmas.{Same-is}
use Rattle.btr_disk.proofs.MomentLemmas.{left_now}
use Rattle.btr_super.specs.declared.superblock.Super.{Super}
use Rattle.btr_super.specs.Choose.{IsChosen}
use Rattle.btr_super.proofs.ChoiceLemmas.{one_chosen}
use Rattle.btr_hist.specs.declared.entry.Entry.{Entry}
use Rattle.btr_engine.specs.declared.engine.Engine.{Engine}
use Rattle.btr_streams.specs.Board.{Kept, IsBoardOf}
use Rattle.btr_engine.specs.Stored.{AreStored}
use Rattle.btr_streams.specs.Rolling.{HaveRoots}
use Rattle.btr_engine.specs.Engine.{device, tail_of, blocks_of, board_of, entries_of, synced_of, entries_at_open, calls_at_open, IsAtRest, IsHeldSince}
use Rattle.btr_engine.specs.Holds.{HoldsHistoryTo, HoldsHistory}
use Rattle.btr_engine.proofs.HoldsLemmas.{HoldsTrees}
use Rattle.btr_engine.proofs.EngineLemmas.{holds_in, durable_held}
use Rattle.btr_open.specs.declared.opening.OpenFault.{OpenFault}
use Rattle.btr_open.specs.Damage.{IsUndamaged}
use Rattle.btr_open.specs.Opening.{KeepsDisk, SyncsFirst, IsOpenedEngine, IsOpenedOn, IsNotOpened}
use Rattle.btr_open.specs.Reading.{StoreCause, IsWholeLog, IsReadEngine}
use Rattle.btr_log.specs.Reads.{OnlyReads}
use Rattle.btr_open.proofs.Synced.{unwritten_on, counts-trans, reads_on}
use Rattle.btr_open.proofs.Sound.{whole-sound}
use Rattle.btr_open.proofs.OpenCauses.{cause-of-store}

-- ---- an engine that was opened

-- All that a crash left since the sync of the opening holds the engine's history.
held_since : {D : Type 0} {disk : Ghosts D} (old : D) (h : List Entry) (e : Engine D disk) → disk.is_observable → IsAtRest h e → SyncsFirst disk old (synced_of e) (device e) → IsHeldSince h (calls_at_open e) e
held_since old h e reported rest synced = record {
  of = rest.of;
  since = λ c left. holds_in h e rest c ((synced.since reported).each c left);
  now = λ c left. holds_in h e rest c ((synced.now reported).each c left);
}

-- The history of an engine is durable since the sync of the opening.
opened_on : {D : Type 0} {disk : Ghosts D} (old : D) (h : List Entry) (e : Engine D disk) → disk.is_observable → entries_at_open e ≡ entries_of e → IsAtRest h e → SyncsFirst disk old (synced_of e) (device e) → IsOpenedOn disk h e
opened_on old h e reported entries rest synced =
    let held = held_since old h e reported rest synced in
    record {
      at_rest = rest;
      held = held;
      durable = durable_held h e (calls_at_open e) (entries_at_open e) synced.after.more_calls (omega (arith, entries, rest.of.entries)) held;
    }

-- ---- the log that was read, and the history that the device held

module _ (size : ℕ) (image : Image) (found : Super) (tail : ℕ) (board : Kept) (chosen : IsChosen size image found) (whole : IsWholeLog size image found tail board) where
  -- No block is damaged.
  pub undamaged : tail < found.blocks → IsUndamaged size image
  undamaged inside =
      whole-sound size image found whole.log chosen whole.walk (omega (arith, whole.at, inside)) (subst (IsClosed image) (sym whole.at) whole.closed)

  module _ (h : List Entry) (holds : HoldsHistory size image h) where
    abbrev to : HoldsHistoryTo size image holds.blocks holds.tail h
    to = holds.holds

    under : to.super ≡ found
    under = one_chosen size image to.super found to.chosen chosen

    same_blocks : holds.blocks ≡ found.blocks
    same_blocks = sym to.same_blocks ∙ ap (λ (s : Super). s.blocks) under

    abbrev found_there : (holds.tail ≡ tail) × IsBoardOf h board × AreStored to.leads.pages tail board.streams × HaveRoots to.leads.roots board.streams
    found_there = whole.held holds.blocks holds.tail h to under

    -- The board is that of the history.
    pub board_is : IsBoardOf h board
    board_is = found_there.1

    -- Its trees are stored, and have the roots of the history's entries.
    pub trees : HoldsTrees size image found.blocks tail h found board.streams
    trees =
        subst (λ b. HoldsTrees size image b tail h found board.streams) same_blocks
        (subst (λ t. (holds_to : HoldsHistoryTo size image holds.blocks t h) × (holds_to.super ≡ found) × AreStored holds_to.leads.pages tail board.streams × HaveRoots holds_to.leads.roots board.streams) found_there.0 (to, under, found_there.2, found_there.3))

-- ---- the opening

module _ {D : Type 0} (disk : Ghosts D) (old mid : D) (found : Super) (counts_now : disk.is_observable → (d : D) (t : ℕ) (c : Image) → t ≤ disk.calls d → disk.images_now d c → disk.images_since d t c) (kept : KeepsDisk disk old mid) (chosen : disk.is_observable → IsChosen (disk.size old) (disk.contents old) found) where
  -- A crash after the choice leaves no more than before it.
  back : disk.is_observable → (c : Image) → disk.images_now mid c → disk.images_now old c
  back reported =
      left_now disk.calls disk.images_since old mid (disk.images_now old) (disk.images_now mid) (counts_now reported mid) (kept.unwritten reported).moments

  same_bytes : disk.is_observable → disk.contents mid ≡ disk.contents old
  same_bytes reported = Same-is (disk.contents old) (disk.contents mid) (kept.unwritten reported).same

  keeps : (new : D) → OnlyReads disk mid new → KeepsDisk disk old new
  keeps new reads = record {
    counts = counts-trans disk old mid new kept.counts reads.counts;
    unwritten = λ reported. unwritten_on disk.calls disk.contents disk.images_now disk.images_since old mid new (kept.unwritten reported) (back reported) (reads.nothing reported);
  }

  module _ (e : Engine D disk) (synced : D) (first : SyncsFirst disk old synced mid) (read : IsReadEngine disk found mid synced e) where
    so_far : SyncsFirst disk old (synced_of e) (device e)
    so_far =
        subst (λ s. SyncsFirst disk old s (device e)) (sym read.synced) (reads_on disk old synced mid (device e) first read.reads (λ reported. counts_now reported (device e)))

    -- The log that was read is that of the device as it was.
    whole : disk.is_observable → IsWholeLog (disk.size old) (disk.contents old) found (tail_of e) (board_of e)
    whole reported =
        subst (λ n. IsWholeLog n (disk.contents old) found (tail_of e) (board_of e)) kept.counts.same_size
        (subst (λ i. IsWholeLog (disk.size mid) i found (tail_of e) (board_of e)) (same_bytes reported) (read.whole reported))

    -- If the device held a history, the engine is of it.
    at_rest : disk.is_observable → (h : List Entry) → HoldsHistory (disk.size old) (disk.contents old) h → IsAtRest h e
    at_rest reported h holds =
        let on = keeps (device e) read.reads in
        let bytes : disk.contents old ≡ disk.contents (device e) = sym (Same-is (disk.contents old) (disk.contents (device e)) (on.unwritten reported).same) in
        let size : disk.size old ≡ disk.size (device e) = sym on.counts.same_size in
        let streams = (board_of e).streams in
        let there : HoldsTrees (disk.size (device e)) (disk.contents (device e)) (blocks_of e) (tail_of e) h found streams =
        subst (λ n. HoldsTrees n (disk.contents (device e)) (blocks_of e) (tail_of e) h found streams) size
        (subst (λ i. HoldsTrees (disk.size old) i (blocks_of e) (tail_of e) h found streams) bytes
        (subst (λ b. HoldsTrees (disk.size old) (disk.contents old) b (tail_of e) h found streams) (sym read.blocks_are)
        (trees (disk.size old) (disk.contents old) found (tail_of e) (board_of e) (chosen reported) (whole reported) h holds)))
        in
        record {
          of = board_is (disk.size old) (disk.contents old) found (tail_of e) (board_of e) (chosen reported) (whole reported) h holds;
          holds = there.0;
          under = there.1 ∙ sym read.under;
          stored = there.2;
          roots = there.3;
          only = so_far.now reported;
        }

    opened_engine : IsOpenedEngine disk old e
    opened_engine = record {
      kept = keeps (device e) read.reads;
      synced = so_far;
      runs = read.runs;
      home = read.home;
      entries = read.entries;
      chosen = λ reported. subst (IsChosen (disk.size old) (disk.contents old)) (sym read.under) (chosen reported);
      stood = λ reported h holds. opened_on old h e reported read.entries (at_rest reported h holds) so_far;
      sound = λ reported. undamaged (disk.size old) (disk.contents old) found (tail_of e) (board_of e) (chosen reported) (whole reported) read.inside;
    }

  pub opened : (result : Result (Engine D disk) (OpenFault D)) (synced : D) → SyncsFirst disk old synced mid → IfOk result (IsReadEngine disk found mid synced) → IfOk result (IsOpenedEngine disk old)
  opened (Ok e) synced first read = opened_engine e synced first read
  opened (Err f) synced first read = tt

  -- If the device held a history, the engine is of it.
  pub stood : (result : Result (Engine D disk) (OpenFault D)) → IfOk result (IsOpenedEngine disk old) → disk.is_observable → (h : List Entry) → HoldsHistory (disk.size old) (disk.contents old) h → IfOk result (IsOpenedOn disk h)
  stood (Ok e) is reported h holds = is.stood reported h holds
  stood (Err f) is reported h holds = tt

  pub refused : (result : Result (Engine D disk) (OpenFault D)) → IfErr result (λ f. OnlyReads disk mid f.disk) → IfErr result (λ f. StoreCause disk found mid f.disk f.cause) → IfErr result (IsNotOpened disk old)
  refused (Ok e) reads cause = tt
  refused (Err f) reads cause = record {
    kept = keeps f.disk reads;
    cause = cause-of-store disk found old mid f.disk (disk.size old) (disk.contents old) kept.counts.more_faults chosen same_bytes f.cause cause;
  }
