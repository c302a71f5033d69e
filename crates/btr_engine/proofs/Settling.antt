-- What stays true of the numbers of an engine that gets its log back.
use Rattle.std.specs.Prelude.{◌≡◌, ℕ, ◌+◌, ◌*◌, ◌≤◌, Bool, true, false, List}
use Rattle.std.proofs.Common.{sym, ◌∙◌, ap, subst, inr, ⊎_elim, arith}
use Rattle.btr_disk.specs.declared.disk.Disk.{Ghosts}
use Rattle.btr_log.specs.declared.log.Log.{Log}
use Rattle.btr_log.specs.Append as append
use Rattle.btr_log.specs.Log as log
use Rattle.btr_log.specs.declared.append.AppendFault.{AppendFault}
use Rattle.btr_log.specs.declared.append.AppendFault.TheVariants.{Full, Fault, Stopped}
use Rattle.btr_super.specs.declared.superblock.Super.{Super}
use Rattle.btr_super.proofs.SuperLemmas.{is_log_start-is}
use Rattle.btr_engine.specs.declared.engine.Engine.{Engine}
use Rattle.btr_engine.specs.declared.travel.Return.{Return}
use Rattle.btr_engine.specs.declared.travel.Return.TheVariants.{Untouched, Written, Failed}
use Rattle.btr_engine.specs.Engine.{log_of, board_of, super_of, synced_of, entries_at_open}
use Rattle.btr_engine.specs.Mark.{next_super, MayMark}
use Rattle.btr_engine.specs.Raise.{IsFollowable, raise_for, super_after}
use Rattle.btr_engine.specs.Travel.{run_of, Settles, settled_board, settled_super, written_in, written_pages}
use Rattle.btr_engine.proofs.RaiseLemmas.{raise_followable, raise_tail, raise_blocks}
use Rattle.btr_engine.proofs.Stepping.{needs_two}
use Rattle.btr_engine.proofs.Written.{pages-places}

-- Whether an engine is stopped that gets its log back so.
abbrev pub stopped_after : Bool → Return → Bool
stopped_after stopped Untouched = stopped
stopped_after stopped (Written r) = stopped
stopped_after stopped Failed = true

module _ {D : Type 0} {disk : Ghosts D} where
  -- The invariant of an engine with this superblock, this log and this many entries, which was opened as the old one, and whether it is
  -- stopped.
  abbrev pub Goes : Engine D disk → Super → Log D disk → Bool → ℕ → Type 0
  Goes old s l stopped entries = record {
    marked : stopped ≡ log.is_log_stopped l;
    counted : entries ≤ log.extents_of l;
    ends : 2 * log.extents_of l + 4 ≤ log.log_tail l;
    began : entries_at_open old ≤ entries;
    called : disk.calls (synced_of old) ≤ disk.calls (log.log_device l);
    failed : disk.faults (synced_of old) ≤ log.faults_at l;
    followable : IsFollowable s;
    behind : s.tail ≤ log.log_tail l;
    large : 8 ≤ log.log_blocks l;
    same_blocks : s.blocks ≡ log.log_blocks l;
  }

  pub goes : (old : Engine D disk) (l : Log D disk) (how : Return) → Settles old l how → Goes old (settled_super (super_of old) (written_in how)) l (stopped_after old.stopped how) (settled_board (board_of old) (written_in how)).entries
  goes old l (Written r) is =
      let on = is.0.1 in
      let w = is.1 in
      let runs : old.stopped ≡ false = old.marked ∙ on.ready_for.runs in
      let s = super_of old in
      let is_raise : super_after s (raise_for s is.0.0) ≡ super_after s r.raise = ap (super_after s) (sym on.raise) in
      let tail : (super_after s r.raise).tail ≡ s.tail = ap (λ (x : Super). x.tail) (sym is_raise) ∙ raise_tail s is.0.0 in
      let blocks : (super_after s r.raise).blocks ≡ s.blocks = ap (λ (x : Super). x.blocks) (sym is_raise) ∙ raise_blocks s is.0.0 in
      let two = needs_two r.staged.next.entries is.0.0 r.staged.root (written_pages r.staged) (run_of r) on.ready_for.made.bytes (pages-places r.staged.receipt.stream r.staged.nodes.items) in
      record {
        marked = runs ∙ sym w.appended.runs;
        counted = omega (arith, old.counted, on.next, w.appended.extents);
        ends = omega (arith, old.ends, two, w.appended.extents, w.appended.tail);
        began = omega (arith, old.began, on.next);
        called = omega (arith, old.called, w.kept.device_kept.more_calls);
        failed = omega (arith, old.failed, w.kept.faults);
        followable = subst IsFollowable is_raise (raise_followable s is.0.0 old.followable);
        behind = omega (arith, old.behind, w.appended.tail, tail);
        large = omega (arith, old.large, w.kept.blocks);
        same_blocks = blocks ∙ old.same_blocks ∙ sym w.kept.blocks;
      }
  goes old l Untouched is =
      subst (λ x. Goes old (super_of old) x old.stopped (board_of old).entries) (sym is) (record {
        marked = old.marked;
        counted = old.counted;
        ends = old.ends;
        began = old.began;
        called = old.called;
        failed = old.failed;
        followable = old.followable;
        behind = old.behind;
        large = old.large;
        same_blocks = old.same_blocks;
      })
  goes old l Failed is =
      let failed = is.1 in
      record {
        marked = sym failed.stops.stopped;
        counted = omega (arith, old.counted, failed.stops.extents);
        ends = omega (arith, old.ends, failed.stops.extents, failed.stops.tail);
        began = old.began;
        called = omega (arith, old.called, failed.kept.device_kept.more_calls);
        failed = omega (arith, old.failed, failed.kept.faults);
        followable = old.followable;
        behind = omega (arith, old.behind, failed.stops.tail);
        large = omega (arith, old.large, failed.kept.blocks);
        same_blocks = old.same_blocks ∙ sym failed.kept.blocks;
      }

  -- An append that fails leaves the end of the log and the number of its extents.
  ends_kept : (old new : Log D disk) (run : List ℕ) (fault : AppendFault) → append.AppendCause old new run fault → (log.log_tail new ≡ log.log_tail old) × (log.extents_of new ≡ log.extents_of old)
  ends_kept old new run (Full n room) cause = (ap log.log_tail cause.4, ap log.extents_of cause.4)
  ends_kept old new run Fault cause = (cause.1.tail, cause.1.extents)
  ends_kept old new run (Stopped n) cause = (ap log.log_tail cause.2, ap log.extents_of cause.2)

  pub goes_fault : (old : Engine D disk) (l : Log D disk) (run : List ℕ) (fault : AppendFault) (stopped : Bool) → stopped ≡ log.is_log_stopped l → append.AppendCause (log_of old) l run fault → log.KeepsBounds (log_of old) l → Goes old (super_of old) l stopped (board_of old).entries
  goes_fault old l run fault stopped is cause kept =
      let same = ends_kept (log_of old) l run fault cause in
      record {
        marked = is;
        counted = omega (arith, old.counted, same.1);
        ends = omega (arith, old.ends, same.0, same.1);
        began = old.began;
        called = omega (arith, old.called, kept.device_kept.more_calls);
        failed = omega (arith, old.failed, kept.faults);
        followable = old.followable;
        behind = omega (arith, old.behind, same.0);
        large = omega (arith, old.large, kept.blocks);
        same_blocks = old.same_blocks ∙ sym kept.blocks;
      }

-- A checkpoint has at least the format of the superblock, and at most that of a sealed store.
pub marks_between : (s : Super) (format : ℕ) → s.format ≤ 4 → MayMark s format → (s.format ≤ format) × (format ≤ 4)
marks_between s format most may = ⊎_elim (λ same. (omega (arith, same), omega (arith, same, most))) (λ sealed. (omega (arith, sealed, most), omega (arith, sealed))) may

-- The superblock that names a checkpoint can be followed: its tail is two blocks further at least.
pub next_followable : (s : Super) (gate tail format : ℕ) → IsFollowable s → s.format ≤ format → format ≤ 4 → 4 ≤ gate → s.tail ≤ gate → gate + 2 ≤ tail → IsFollowable (next_super s gate tail format)
next_followable s gate tail format is least most low behind further = record {
  side = omega arith;
  seq = omega (arith, is.seq, behind, further, least);
  format_from = omega (arith, is.format_from, least);
  format_to = most;
  tail = omega (arith, low, further);
  start = is_log_start-is gate tail (inr (low, omega (arith, further)));
}
