use Rattle.std.specs.Prelude.{◌≡◌, ◌+◌, ◌≤◌, List, [], ◌∷◌, ◌++◌, Ok, true, false, is_err}
use Rattle.std.proofs.Common.{ℕ, refl, sym, ◌∙◌, ap, subst, arith, append-nil}
use Rattle.btr_disk.specs.Bytes.{Image}
use Rattle.btr_disk.specs.Causes.{KeepsCounts}
use Rattle.btr_disk.specs.Moments.{Leaves}
use Rattle.btr_disk.proofs.MomentLemmas.{composes}
use Rattle.btr_log.specs.Append.{body_in_run, AppendCause, IsAppendRun}
use Rattle.btr_log.specs.Log as log
use Rattle.btr_super.specs.declared.superblock.Super.{Super}
use Rattle.btr_super.specs.Replace.{IsFollowed, HasOnePrefix}
use Rattle.btr_hist.specs.declared.entry.Entry.{Entry}
use Rattle.btr_engine.specs.declared.place.Place.{Place}
use Rattle.btr_engine.specs.Place.{log_in, has_log}
use Rattle.btr_engine.specs.Holds.{HoldsHistory}
use Rattle.btr_engine.specs.Engine.{log_of, device, board_of, tail_of, room_of, super_of, IsAtRest}
use Rattle.btr_engine.specs.Mark.{need_of_board, next_super, CountsMark, IsNamed}
use Rattle.btr_engine.specs.Raise.{IsFollowable}
use Rattle.btr_engine.proofs.Stepping.{log_at_rest}
use Rattle.btr_engine.proofs.Durable.{opening_kept}
use Rattle.btr_engine.proofs.Settling.{Goes, goes_fault, marks_between, next_followable}
use Rattle.btr_engine.proofs.TravelLemmas.{taken_is}
use Rattle.btr_engine.proofs.Marking.{FailsAppend, TakesAppend, needed, two_blocks, fits_unless_full, refused, fault_leaves, appending, replacing, followed, one_prefix, at_rest, named_in, durable_through, on_err, on_ok, counted-both, marking_keeps, stops, next-is}
use Rattle.btr_engine.proofs.engine.Engine.append_mark.Given.{Over}
use Rattle.btr_engine.proofs.engine.Engine.append_mark.Goals.{After-append, In-Err, In_default-append, After-replace, Then-is_err}
use Rattle.btr_engine.proofs.engine.Engine.append_mark.Goals as goal

-- ---- what several goals share

-- the run is the extent alone
whole : {extent run : List ℕ} → extent ≡ run → extent ++ [] ≡ run
whole is = append-nil _ ∙ is

pub append-requires-clause-run : goal.append-requires-clause-run
append-requires-clause-run g c = subst IsAppendRun (sym (append-nil c.args.extent.now)) c.requires.run

-- the log is that of the engine
its_log : (g : Over) (c : After-append g) → c.in-Some.log ≡ log_of c.args.self.now
its_log g c = taken_is c.args.self.now.place c.in-Some.log c.in-Some.ensures.is

-- the append took the run
takes : (g : Over) (c : In_default-append g) → TakesAppend (log_of c.args.self.now) c.append.new.self (c.args.extent.now ++ [])
takes g c =
    subst (λ l. TakesAppend l c.append.new.self (c.args.extent.now ++ [])) (its_log g (goal.at.In_default-append g c).After-append) (record {
      appends = record { full = c.in_default-append.ensures.refused.full; kept = c.append.ensures.kept; moments = c.in_default-append.ensures.moments };
      appended = c.in_default-append.ensures.appended;
      written = c.in_default-append.ensures.appended.written;
      at_rest = c.in_default-append.ensures.at_rest;
    })

-- the append failed
fails : (g : Over) (c : In-Err g) → FailsAppend (log_of c.args.self.now) c.append.new.self (c.args.extent.now ++ []) c.in-Err.fault
fails g c =
    subst (λ l. FailsAppend l c.append.new.self (c.args.extent.now ++ []) c.in-Err.fault) (its_log g (goal.at.In-Err g c).After-append) (record {
      appends = record { full = c.in-Err.ensures.refused.full; kept = c.append.ensures.kept; moments = c.in-Err.ensures.moments };
      cause = c.in-Err.ensures.cause;
    })

-- there was room
fits : (g : Over) (c : In_default-append g) → need_of_board c.args.format (board_of c.args.self.now) ≤ room_of c.args.self.now
fits g c =
    fits_unless_full c.args.self.now c.args.format (c.args.extent.now ++ []) (whole c.requires.bytes) (Ok tt) c.requires.runs (takes g c).appends.full (λ no. absurd (cc))

-- the append failed, and left the history at each moment
left_by_fault : (g : Over) (c : In-Err g) → g.D.Disk.is_observable → (h : List Entry) → IsAtRest h c.args.self.now → log.LogLeaves (log_of c.args.self.now) c.append.new.self (λ x. HoldsHistory (g.D.Disk.size (device c.args.self.now)) x h)
left_by_fault g c is_observable h rest =
    let f = fails g c in
    fault_leaves h c.args.self.now c.args.format c.requires.format c.requires.unsealed (c.args.extent.now ++ []) (whole c.requires.bytes) c.append.new.self c.in-Err.fault c.requires.runs f.appends.full f.cause (g.met.D.Disk.only_now is_observable (device c.args.self.now)) rest (f.appends.moments is_observable _ (log_at_rest h c.args.self.now rest))

-- the superblock that was written
is_next : (g : Over) (c : After-replace g) → c.next_super-next.result ≡ next_super (super_of c.args.self.now) (tail_of c.args.self.now) (log.log_tail c.append.new.self) c.args.format
is_next g c =
    let a = (goal.at.After-replace g c).After-append in
    next-is (super_of c.args.self.now) c.next_super-next.result c.tail-gate.result c.tail.result (tail_of c.args.self.now) (log.log_tail c.append.new.self) c.args.format c.next_super-next.ensures (c.tail-gate.ensures ∙ ap log.log_tail (its_log g a)) c.tail.ensures

-- the counts of the replacement
counts : (g : Over) (c : After-replace g) → KeepsCounts g.D.Disk.size g.D.Disk.calls g.D.Disk.faults (log.log_device c.append.new.self) c.replace.new.device
counts g c =
    record { same_size = c.replace.ensures.size; more_calls = c.replace.ensures.calls.later; more_faults = c.replace.ensures.cause.later }

module _ (g : Over) (c : After-replace g) where
  its_takes : TakesAppend (log_of c.args.self.now) c.append.new.self (c.args.extent.now ++ [])
  its_takes = takes g (goal.at.After-replace g c).In_default-append

  module _ (is_observable : g.D.Disk.is_observable) (h : List Entry) (rest : IsAtRest h c.args.self.now) where
    room : need_of_board c.args.format (board_of c.args.self.now) ≤ room_of c.args.self.now
    room = fits g (goal.at.After-replace g c).In_default-append

    rests : log.IsLogAtRest c.append.new.self (rest.holds.bodies ++ body_in_run (c.args.extent.now ++ []) ∷ [])
    rests = its_takes.at_rest is_observable rest.holds.bodies (log_at_rest h c.args.self.now rest)

    -- what stands before the replacement
    its_super : IsFollowed (g.D.Disk.size (log.log_device c.append.new.self)) (g.D.Disk.contents (log.log_device c.append.new.self)) (super_of c.args.self.now) c.next_super-next.result
    its_super =
        followed c.args.self.now c.args.format (c.args.extent.now ++ []) (whole c.requires.bytes) room c.requires.format c.requires.unsealed h rest c.append.new.self its_takes.appends.kept its_takes.appended.tail (its_takes.written is_observable) rests c.next_super-next.result (is_next g c)

    its_prefix : HasOnePrefix (g.D.Disk.contents (log.log_device c.append.new.self)) (g.D.Disk.images_now (log.log_device c.append.new.self))
    its_prefix =
        one_prefix c.args.self.now c.args.format (c.args.extent.now ++ []) (whole c.requires.bytes) room c.requires.format c.requires.unsealed h rest c.append.new.self its_takes.appends.kept its_takes.appended.tail (its_takes.written is_observable) rests c.next_super-next.result (is_next g c)

    -- each moment of both leaves the history
    left_by_both : Leaves g.D.Disk.calls g.D.Disk.images_since (device c.args.self.now) c.replace.new.device (λ x. HoldsHistory (g.D.Disk.size (device c.args.self.now)) x h)
    left_by_both =
        composes g.D.Disk.calls g.D.Disk.images_since (device c.args.self.now) (log.log_device c.append.new.self) c.replace.new.device (λ x. HoldsHistory (g.D.Disk.size (device c.args.self.now)) x h)
        (appending c.args.self.now c.args.format (c.args.extent.now ++ []) (whole c.requires.bytes) room c.requires.format c.requires.unsealed h rest c.append.new.self (its_takes.appends.moments is_observable rest.holds.bodies (log_at_rest h c.args.self.now rest)))
        (replacing c.args.self.now c.args.format (c.args.extent.now ++ []) (whole c.requires.bytes) room c.requires.format c.requires.unsealed h rest c.append.new.self its_takes.appends.kept its_takes.appended.tail (its_takes.written is_observable) rests c.next_super-next.result (is_next g c) c.replace.new.device
        (c.replace.ensures.moments is_observable (super_of c.args.self.now) its_super its_prefix))

    -- so it is up to an engine with this device
    left_up_to : (p : Place g.row.D.Denot g.D.Disk) → log.log_device (log_in p) ≡ c.replace.new.device → Leaves g.D.Disk.calls g.D.Disk.images_since (device c.args.self.now) (log.log_device (log_in p)) (λ x. HoldsHistory (g.D.Disk.size (device c.args.self.now)) x h)
    left_up_to p is =
        subst (λ d. Leaves g.D.Disk.calls g.D.Disk.images_since (device c.args.self.now) d (λ x. HoldsHistory (g.D.Disk.size (device c.args.self.now)) x h)) (sym is) left_by_both

-- the replacement failed
failed : (g : Over) (c : Then-is_err g) → is_err c.replace.result ≡ true
failed g c = sym c.is_err.ensures.value ∙ c.if-is_err.true

-- ---- the append failed

pub invariant_of-self : goal.invariant_of-self
invariant_of-self g c =
    let old = c.args.self.now in
    let f = fails g (goal.at.invariant_of-self g c).In-Err in
    subst (λ l. Goes old (super_of old) l c.stopped-self.result (board_of old).entries) (sym (ap log_in c.put_back.ensures))
    (goes_fault old c.append.new.self (c.args.extent.now ++ []) c.in-Err.fault c.stopped-self.result c.stopped-self.ensures.stopped f.cause f.appends.kept)

pub returns-in-Err : goal.returns-in-Err
returns-in-Err g c =
    let old = c.args.self.now in
    let f = fails g (goal.at.returns-in-Err g c).In-Err in
    let there = sym (ap log_in c.put_back.ensures) in
    let cause = subst (λ l. AppendCause (log_of old) l (c.args.extent.now ++ []) c.in-Err.fault) there f.cause in
    let kept = opening_kept old _ (subst (log.KeepsBounds (log_of old)) there f.appends.kept) refl refl in
    let left : g.D.Disk.is_observable → (h : List Entry) → IsAtRest h old → _ = λ is_observable h rest.
    subst (λ l. log.LogLeaves (log_of old) l (λ x. HoldsHistory (g.D.Disk.size (device old)) x h)) there
    (left_by_fault g (goal.at.returns-in-Err g c).In-Err is_observable h rest) in
    record {
      home = ap has_log c.put_back.ensures;
      stopped = λ is. let runs = c.requires.runs in absurd (cc);
      sealed = λ _ is. let unsealed = c.requires.unsealed in absurd (cc);
      cause = refused old c.args.format (c.args.extent.now ++ []) (whole c.requires.bytes) _ c.in-Err.fault c.step_fault.result c.requires.home (ap has_log c.put_back.ensures) c.requires.runs f.appends.full cause refl refl refl refl c.step_fault.ensures.full c.step_fault.ensures.failed;
      marked = tt;
      kept = kept;
      at_rest = λ is_observable h rest. tt;
      named = λ is_observable h rest. tt;
      moments = left;
      durable = λ is_observable h more calls entries rests so_far.
          durable_through h old _ calls entries more c.requires.runs kept refl (g.met.D.Disk.counts_now is_observable _)
          (left is_observable h (rests c.requires.runs)) so_far;
    }

-- ---- the replacement failed

pub invariant_of-self-then-is_err : goal.invariant_of-self-then-is_err
invariant_of-self-then-is_err g c =
    let old = c.args.self.now in
    let w = its_takes g (goal.at.invariant_of-self-then-is_err g c).After-replace in
    let two = two_blocks old c.args.format (c.args.extent.now ++ []) (whole c.requires.bytes) in
    let tail : log.log_tail c.stop.new.self ≡ log.log_tail c.append.new.self = c.stop.ensures.tail in
    let extents : log.extents_of c.stop.new.self ≡ log.extents_of c.append.new.self = c.stop.ensures.extents in
    let blocks : log.log_blocks c.stop.new.self ≡ log.log_blocks c.append.new.self = c.stop.ensures.kept.blocks in
    let faults : log.faults_at c.stop.new.self ≡ log.faults_at c.append.new.self = c.stop.ensures.kept.faults in
    subst (λ l. Goes old (super_of old) l true (board_of old).entries) (sym (ap log_in c.put_back-then-is_err.ensures)) (record {
      marked = sym c.stop.ensures.stopped;
      counted = omega (arith, old.counted, w.appended.extents, extents);
      ends = omega (arith, old.ends, w.appended.extents, w.appended.tail, two, extents, tail);
      began = old.began;
      called = omega (arith, old.called, w.appends.kept.device_kept.more_calls, c.replace.ensures.calls.later, ap g.D.Disk.calls c.stop.ensures.device);
      failed = omega (arith, old.failed, w.appends.kept.faults, faults);
      followable = old.followable;
      behind = omega (arith, old.behind, w.appended.tail, tail);
      large = omega (arith, old.large, w.appends.kept.blocks, blocks);
      same_blocks = old.same_blocks ∙ sym w.appends.kept.blocks ∙ sym blocks;
    })

pub returns-then-is_err : goal.returns-then-is_err
returns-then-is_err g c =
    let old = c.args.self.now in
    let a = (goal.at.returns-then-is_err g c).In_default-append in
    let b = (goal.at.returns-then-is_err g c).After-replace in
    let back = c.put_back-then-is_err.ensures in
    let device_is = ap (λ p. log.log_device (log_in p)) back ∙ c.stop.ensures.device in
    let kept = marking_keeps old _ c.append.new.self c.replace.new.device (its_takes g b).appends.kept (counts g b) device_is (ap (λ p. log.log_blocks (log_in p)) back ∙ c.stop.ensures.kept.blocks) refl refl in
    record {
      home = ap has_log back;
      stopped = λ is. let runs = c.requires.runs in absurd (cc);
      sealed = λ _ is. let unsealed = c.requires.unsealed in absurd (cc);
      cause = (
        c.requires.runs,
        fits g a,
        stops old _ (log.log_device c.append.new.self) c.replace.new.device (takes g a).appended.calls c.replace.ensures.calls.later c.replace.ensures.calls.at_most (takes g a).appends.kept.device_kept.more_faults
            (on_err c.replace.result (failed g (goal.at.returns-then-is_err g c).Then-is_err) c.replace.ensures.cause.failed)
            device_is (ap (λ p. log.is_log_stopped (log_in p)) back ∙ c.stop.ensures.stopped) refl refl,
      );
      marked = tt;
      kept = kept;
      at_rest = λ is_observable h rest. tt;
      named = λ is_observable h rest. tt;
      moments = λ is_observable h rest. left_up_to g b is_observable h rest c.put_back-then-is_err.new.self device_is;
      durable = λ is_observable h more calls entries rests so_far.
          durable_through h old _ calls entries more c.requires.runs kept refl (g.met.D.Disk.counts_now is_observable _)
          (left_up_to g b is_observable h (rests c.requires.runs) c.put_back-then-is_err.new.self device_is) so_far;
    }

-- ---- both succeeded

pub invariant_of-self-2 : goal.invariant_of-self-2
invariant_of-self-2 g c =
    let old = c.args.self.now in
    let a = (goal.at.invariant_of-self-2 g c).After-replace in
    let w = its_takes g a in
    let between = marks_between (super_of old) c.args.format old.followable.format_to c.requires.format in
    let two = two_blocks old c.args.format (c.args.extent.now ++ []) (whole c.requires.bytes) in
    subst (λ l. Goes old c.next_super-next.result l old.stopped (board_of old).entries) (sym (ap log_in c.put_back-2.ensures)) (record {
      marked = old.marked ∙ c.requires.runs ∙ sym w.appended.runs;
      counted = omega (arith, old.counted, w.appended.extents);
      ends = omega (arith, old.ends, w.appended.extents, w.appended.tail, two);
      began = old.began;
      called = omega (arith, old.called, w.appends.kept.device_kept.more_calls, c.replace.ensures.calls.later);
      failed = omega (arith, old.failed, w.appends.kept.faults);
      followable = subst IsFollowable (sym (is_next g a)) (next_followable (super_of old) (tail_of old) (log.log_tail c.append.new.self) c.args.format old.followable between.0 between.1 (omega (arith, old.ends)) old.behind (omega (arith, w.appended.tail, two)));
      behind = omega (arith, ap (λ (s : Super). s.tail) (is_next g a));
      large = omega (arith, old.large, w.appends.kept.blocks);
      same_blocks = ap (λ (s : Super). s.blocks) (is_next g a) ∙ old.same_blocks ∙ sym w.appends.kept.blocks;
    })

pub returns : goal.returns
returns g c =
    let old = c.args.self.now in
    let a = (goal.at.returns g c).After-replace in
    let w = its_takes g a in
    let p = c.put_back-2.new.self in
    let back = c.put_back-2.ensures in
    let tail_is = ap (λ q. log.log_tail (log_in q)) back in
    let device_is = ap (λ q. log.log_device (log_in q)) back in
    let blocks_are = ap (λ q. log.log_blocks (log_in q)) back in
    let done : is_err c.replace.result ≡ false = sym c.is_err.ensures.value ∙ c.if-is_err.false in
    let kept = marking_keeps old _ c.append.new.self c.replace.new.device w.appends.kept (counts g a) device_is blocks_are refl refl in
    let replaced : (seen : g.D.Disk.is_observable) (h : List Entry) (rest : IsAtRest h old) → _ = λ seen h rest.
    on_ok c.replace.result done (c.replace.ensures.replaced seen (super_of old) (its_super g a seen h rest) (its_prefix g a seen h rest)) in
    record {
      home = ap has_log back;
      stopped = λ is. let runs = c.requires.runs in absurd (cc);
      sealed = λ _ is. let unsealed = c.requires.unsealed in absurd (cc);
      cause = tt;
      marked = record {
        entries = c.entries.ensures;
        ran = c.requires.runs;
        unsealed = c.requires.unsealed;
        runs = ap (λ q. log.is_log_stopped (log_in q)) back ∙ w.appended.runs;
        board = refl;
        fits = fits g (goal.at.returns g c).In_default-append;
        tail = tail_is ∙ w.appended.tail ∙ ap (λ n. tail_of old + n) (needed old c.args.format (c.args.extent.now ++ []) (whole c.requires.bytes));
        chosen = is_next g a ∙ ap (λ n. next_super (super_of old) (tail_of old) n c.args.format) (sym tail_is);
        called = subst (CountsMark (g.D.Disk.calls (device old))) (sym (ap (λ q. g.D.Disk.calls (log.log_device (log_in q))) back))
            (counted-both (g.D.Disk.calls (device old)) (g.D.Disk.calls (log.log_device c.append.new.self)) (g.D.Disk.calls c.replace.new.device) w.appended.calls (on_ok c.replace.result done c.replace.ensures.calls.all));
      };
      kept = kept;
      at_rest = λ seen h rest.
          at_rest old c.args.format (c.args.extent.now ++ []) (whole c.requires.bytes) (room g a seen h rest) c.requires.format c.requires.unsealed h rest c.append.new.self w.appends.kept w.appended.tail (w.written seen) (rests g a seen h rest) c.next_super-next.result (is_next g a)
          c.replace.new.device c.replace.ensures.size (c.replace.ensures.elsewhere seen) (replaced seen h rest)
          _ device_is (blocks_are ∙ w.appends.kept.blocks) tail_is refl refl (on_ok c.replace.result done (c.replace.ensures.stored seen).synced);
      named = λ seen h rest.
          subst (λ d. (x : Image) → g.D.Disk.images_now d x → IsNamed (g.D.Disk.size d) x (log.log_blocks (log_in p)) (log.log_tail (log_in p)) h c.args.format) (sym device_is)
          (named_in old c.args.format (c.args.extent.now ++ []) (whole c.requires.bytes) (room g a seen h rest) c.requires.format c.requires.unsealed h rest c.append.new.self w.appends.kept w.appended.tail (w.written seen) (rests g a seen h rest) c.next_super-next.result (is_next g a)
          c.replace.new.device c.replace.ensures.size (c.replace.ensures.elsewhere seen) (replaced seen h rest)
          (log.log_blocks (log_in p)) (log.log_tail (log_in p)) (blocks_are ∙ w.appends.kept.blocks) tail_is (on_ok c.replace.result done (c.replace.ensures.stored seen).synced));
      moments = λ seen h rest. left_up_to g a seen h rest p device_is;
      durable = λ seen h more calls entries given so_far.
          durable_through h old _ calls entries more c.requires.runs kept refl (g.met.D.Disk.counts_now seen _) (left_up_to g a seen h (given c.requires.runs) p device_is) so_far;
    }
