-- The start of a reading with a judge, and the whole log that was read up to the closed gate.
use Rattle.std.specs.Prelude.{◌≡◌, ℕ, List, [], ◌∷◌}
use Rattle.std.proofs.Common.{refl, sym, ◌∙◌, ap, subst, arith, inl}
use Rattle.btr_disk.specs.declared.disk.Disk.{Ghosts}
use Rattle.btr_disk.specs.Bytes.{Image}
use Rattle.btr_disk.specs.Gate.{IsClosed}
use Rattle.btr_log.specs.declared.log.Log.{Log}
use Rattle.btr_log.specs.Log.{log_device, log_tail, log_blocks, is_log_stopped, IsLogMadeOf}
use Rattle.btr_log.specs.Extents.{Extents}
use Rattle.btr_super.specs.declared.superblock.Super.{Super}
use Rattle.btr_hist.specs.declared.entry.Entry.{Entry}
use Rattle.btr_engine.specs.Body.{Prefix, prefix_to, LeadTo}
use Rattle.btr_streams.specs.Board.{IsBoardOf}
use Rattle.btr_engine.specs.declared.engine.Engine.{Engine}
use Rattle.btr_engine.specs.Engine.{device, tail_of, IsMadeOf}
use Rattle.btr_engine.specs.Holds.{HoldsHistoryTo}
use Rattle.btr_engine.specs.Roots.{IsRootOf}
use Rattle.btr_engine.specs.Stored.{AreStored}
use Rattle.btr_streams.specs.Rolling.{HaveRoots}
use Rattle.btr_open.specs.declared.judge.Judge.{Ghosts as Judging}
use Rattle.btr_open.specs.declared.loading.Loader.{Loader}
use Rattle.btr_open.specs.declared.opening.OpenCause.{OpenCause}
use Rattle.btr_open.specs.declared.place.Place.{Place}
use Rattle.btr_open.specs.Place.{IsPlaceIn}
use Rattle.btr_open.specs.Seen.{nothing_seen, LeadOnBy}
use Rattle.btr_open.specs.Start.{IsWrongStart}
use Rattle.btr_open.specs.Walk.{LeadOn}
use Rattle.btr_open.specs.Reading.{IsStoredIn, IsReadLog, IsReadStart, IsJudgedRead, IsDamagedStoreBy, FirstCause, LogCause, WasJudged, ReadsLog, IsWholeLog, IsReadEngine}
use Rattle.btr_log.specs.Reads.{OnlyReads}
use Rattle.btr_open.proofs.OpenCauses.{cause-along}

-- What was read at the start was judged by a judge that has seen nothing.
pub start-judged : {J : Type 0} (by : Judging J) (size : ℕ) (image : Image) (found : Super) (gate : ℕ) (l : Loader) (judge : J) → by.is_after nothing_seen judge → IsReadStart size image found gate l → IsJudgedRead by size image found gate l judge
start-judged by size image found gate l judge begun is =
    let walk = is.read.walk in
    let same : walk.start ≡ is.read.log = subst (λ bodies. LeadOn walk.start bodies is.read.log) is.none walk.leads in
    record {
      read = is.read;
      seen = nothing_seen;
      keeps = subst (λ bodies. LeadOnBy by.may walk.start nothing_seen bodies is.read.log nothing_seen) (sym is.none) (same, refl);
      judged = begun;
    }

-- Why the start was not read is why the log was not read.
pub cause-of-start : {D : Type 0} (disk : Ghosts D) {J : Type 0} (by : Judging J) (found : Super) (old new : D) (cause : OpenCause) → FirstCause disk found old new cause → LogCause disk by found old new cause
cause-of-start disk by found old new cause is =
    cause-along disk (IsWrongStart (disk.contents old) found) (IsDamagedStoreBy by.may (disk.contents old) found) old old new (omega arith) (λ reported block wrong. inl wrong) cause is

-- ---- the whole log

-- At a closed gate no extent is left of the log of the history that the device holds. So the board is that of the history.
module _ {size : ℕ} {image : Image} {blocks other : ℕ} {h : List Entry} (holds : HoldsHistoryTo size image blocks other h) (gate : ℕ) (l : Loader) where
  abbrev IsHeld : Type 0
  IsHeld = (other ≡ gate) × IsBoardOf h l.board × AreStored holds.leads.pages gate l.board.streams × HaveRoots holds.leads.roots l.board.streams

  held-to : (rest : List (List ℕ)) (log : Prefix) → Extents image gate rest other → IsClosed image gate → LeadTo IsRootOf log rest (prefix_to other h holds.leads.roots holds.leads.pages) → IsStoredIn log l → IsHeld
  held-to (body ∷ rest) log extents closed more stored = absurd (closed extents.0.1.is_open)
  held-to [] log extents closed more stored =
      let there : IsStoredIn (prefix_to other h holds.leads.roots holds.leads.pages) l = subst (λ p. IsStoredIn p l) more stored in (
        sym extents,
        there.of,
        subst (λ n. AreStored holds.leads.pages n l.board.streams) (sym extents) there.stored,
        there.roots,
      )

-- What was read up to a closed gate is the whole log.
pub whole-read : (size : ℕ) (image : Image) (found : Super) (gate : ℕ) (l : Loader) → IsReadLog size image found gate l → IsClosed image gate → IsWholeLog size image found gate l.board
whole-read size image found gate l read closed = record {
  log = read.log;
  at = read.at;
  walk = read.walk;
  stand = read.stand;
  closed = closed;
  held = λ blocks other h holds is.
      let part = read.held blocks other h holds is in
      held-to holds gate l part.rest part.log part.extents closed part.more part.stored;
}

-- ---- the engine of a log that was read

-- The log `first` was made of the device, and read up to the closed gate at this place. The engine was made of a log `last`, which was made
-- of the device after it, and of the board.
module _ {D : Type 0} {disk : Ghosts D} {J : Type 0} {by : Judging J} (judge : J) (found : Super) (old after synced : D) (first mid last : Log D disk) (l : Loader) (place : Place) (e : Engine D disk) where
  pub engine-read : log_device first ≡ old → ReadsLog first mid → IsPlaceIn found l.board.entries place → WasJudged disk by (log_device first) found place.gate l judge → (disk.is_observable → IsClosed (disk.contents (log_device first)) place.gate) → after ≡ log_device mid → IsLogMadeOf after place.gate found.blocks place.extents last → IsMadeOf last l.board found synced e → IsReadEngine disk found old synced e
  engine-read begun reads at read closed goes made over =
      let end : device e ≡ log_device mid = ap log_device over.same_log ∙ made.same_device ∙ goes in
      let tail : tail_of e ≡ place.gate = ap log_tail over.same_log ∙ made.same_tail in
      let from : OnlyReads disk old (log_device mid) = subst (λ d. OnlyReads disk d (log_device mid)) begun reads.reads in
      let whole : (reported : disk.is_observable) → IsWholeLog (disk.size (log_device first)) (disk.contents (log_device first)) found place.gate l.board = λ reported.
      whole-read (disk.size (log_device first)) (disk.contents (log_device first)) found place.gate l (read reported).read (closed reported)
      in
      record {
        reads = subst (OnlyReads disk old) (sym end) from;
        synced = over.same_synced;
        runs = ap is_log_stopped over.same_log ∙ made.runs;
        home = over.home;
        entries = over.same_entries;
        blocks_are = ap log_blocks over.same_log ∙ made.same_blocks;
        under = over.same_super;
        inside = omega (arith, tail, at.inside);
        whole = λ reported.
            subst (IsWholeLog (disk.size old) (disk.contents old) found (tail_of e)) (sym over.same_board)
            (subst (λ n. IsWholeLog (disk.size old) (disk.contents old) found n l.board) (sym tail)
            (subst (λ d. IsWholeLog (disk.size d) (disk.contents d) found place.gate l.board) begun (whole reported)));
      }
