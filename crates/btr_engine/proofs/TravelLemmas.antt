-- What the four calls of a step make of an engine: a step that refuses, one that adds an entry, and one in which the device fails.
use Rattle.std.specs.Prelude.{◌≡◌, ℕ, ◌+◌, ◌*◌, ◌<◌, ◌≤◌, true, false, List, [], ◌∷◌, ◌++◌, length, Option, Some, None, IfSome, Result, Ok, Err, IsTrue, IsFalse}
use Rattle.std.proofs.Common.{refl, sym, ◌∙◌, ap, subst, arith, length-append}
use Rattle.btr_base.specs.declared.limits.TheConstants.{MAX_VERSIONS}
use Rattle.btr_disk.specs.declared.disk.Disk.{Ghosts}
use Rattle.btr_disk.specs.Bytes.{Image}
use Rattle.btr_disk.specs.Gate.{gate_block}
use Rattle.btr_disk.specs.Publish.{Published}
use Rattle.btr_log.specs.declared.log.Log.{Log}
use Rattle.btr_log.specs.Extents.{need, left as blocks_left}
use Rattle.btr_log.specs.Append as append
use Rattle.btr_log.specs.Log as log
use Rattle.btr_super.specs.declared.superblock.Super.{Super}
use Rattle.btr_super.specs.Super.{IsSuper, has_seal}
use Rattle.btr_hist.specs.declared.entry.Entry.{Entry}
use Rattle.btr_hist.specs.History.{latest}
use Rattle.btr_entry.specs.Format.{format_of}
use Rattle.btr_engine.specs.declared.engine.Engine.{Engine}
use Rattle.btr_engine.specs.declared.place.Place.{Place}
use Rattle.btr_engine.specs.declared.place.Place.TheVariants.{Home, Out}
use Rattle.btr_streams.specs.declared.board.Receipt.{Receipt}
use Rattle.btr_engine.specs.declared.step.StepFault.{StepFault}
use Rattle.btr_engine.specs.declared.step.StepFault.TheVariants.{Stopped, Sealed, Rejected, Want, DeviceFull, DeviceFault}
use Rattle.btr_engine.specs.declared.travel.Ready.{Ready}
use Rattle.btr_engine.specs.Body.{need_of}
use Rattle.btr_streams.specs.Board.{Kept, IsBoardOf}
use Rattle.btr_engine.specs.Place.{log_in, log_here}
use Rattle.btr_engine.specs.Engine.{log_of, device, board_of, entries_of, tail_of, room_of, super_of, is_stopped, is_sealed, is_home, IsEngineOf, IsAtRest, IsDurable, KeepsOpening}
use Rattle.btr_streams.specs.Stage.{IsReceipt}
use Rattle.btr_engine.specs.Step.{IsBeforeOrAfter, CanStep, StopsByFault, HasResult, StepCause, IsStep, in_flight_after}
use Rattle.btr_engine.specs.Raise.{raise_for, super_after, MayRaise, CountsWrite, most_calls}
use Rattle.btr_engine.specs.Travel.{run_of, IsStaged, HoldsNow, IsRaised, LeavesRaised, HoldsRaised, HasExtent, LeavesExtent, HoldsAppended, LeavesEntry, HoldsEntry, IsReadyFor, IsReadyOn, IsWritten, HasFailed, IsLike, IsHomeAgain}
use Rattle.btr_engine.proofs.RaiseLemmas.{may_raise, raise_reaches, raise_unsealed, counted_write, most_written, raise_leaves, both_leave}
use Rattle.btr_engine.proofs.EngineLemmas.{durable_as}
use Rattle.btr_engine.proofs.HoldsLemmas.{roots-held}
use Rattle.btr_engine.proofs.Streams.{few_versions}
use Rattle.btr_streams.proofs.StreamsLemmas.{has-streams}
use Rattle.btr_engine.proofs.RootsLemmas.{roots-written}
use Rattle.btr_engine.proofs.Stepping.{no_moment}
use Rattle.btr_engine.proofs.Appending.{needed, moments, holds_after}
use Rattle.btr_engine.proofs.PendingLemmas.{extent_of_ready, WritesRightly, writes-rightly}
use Rattle.btr_engine.proofs.Durable.{opening_kept, durable_taken, durable_failed}

some_one : (a b : Receipt) → Some a ≡ Some b → a ≡ b
some_one a b is = cc

-- Nothing was made ready.
abbrev pub refuses : StepFault → Result Ready StepFault
refuses fault = Err fault

fault_one : (a b : StepFault) → refuses a ≡ refuses b → a ≡ b
fault_one a b is = cc

-- The laws of a device on its images: no call was made since the last one, and what a crash may leave now it may leave since any moment.
pub record HasMoments {D : Type 0} (disk : Ghosts D) : Type 0 where
  pub only_now : disk.is_observable → (d : D) (c : Image) → disk.images_since d (disk.calls d) c → disk.images_now d c
  pub counts_now : disk.is_observable → (d : D) (t : ℕ) (c : Image) → t ≤ disk.calls d → disk.images_now d c → disk.images_since d t c

module _ {D : Type 0} {disk : Ghosts D} where
  -- ---- at rest

  -- What the log of an engine at rest holds.
  pub now_of_rest : (h : List Entry) (e : Engine D disk) → IsAtRest h e → HoldsNow h (board_of e) (super_of e) (log_of e)
  now_of_rest h e rest =
      record { holds = rest.holds; under = rest.under; stored = rest.stored; roots = rest.roots; only = rest.only }

  -- An engine of the history is at rest if its log holds it.
  pub rest_of_now : (h : List Entry) (e : Engine D disk) → IsEngineOf h e → HoldsNow h (board_of e) (super_of e) (log_of e) → IsAtRest h e
  rest_of_now h e of now =
      record { of = of; holds = now.holds; under = now.under; stored = now.stored; roots = now.roots; only = now.only }

  -- ---- what is written to a log that is out

  module _ (h : List Entry) (b : Kept) (s : Super) (l : Log D disk) (e : Entry) (r : Ready) (ready : IsReadyFor l e r) (staged : IsStaged h b (log.log_tail l) e r) (may_stand : format_of e ≤ s.format) (unsealed : has_seal s ≡ false) (now : HoldsNow h b s l) where
    -- The streams have few versions: each entry has two blocks.
    few : (stream : ℕ) → latest h stream < MAX_VERSIONS
    few stream =
        omega (arith, few_versions h stream, staged.of.entries, length-append h (e ∷ []), ready.behind, l.tail_inside, l.addressable)

    -- What is written stands after the pages of the history, and stores the trees of the next board.
    writing : WritesRightly h b staged.before (log.log_tail l) now.holds.leads.roots now.holds.leads.pages e r.staged
    writing =
        let counted = roots-held (disk.size (log.log_device l)) (disk.contents (log.log_device l)) (log.log_blocks l) (log.log_tail l) h now.holds in
        let have = roots-written h b (has-streams h b staged.before) now.holds.leads.roots counted now.roots e (log.log_tail l) r.staged staged.writes in
        writes-rightly h b staged.before (log.log_tail l) now.holds.leads.roots now.holds.leads.pages now.stored (omega (arith, ready.behind)) (omega (arith, l.tail_inside, l.addressable)) few e r.staged staged.writes staged.is_receipt ready.made.spelled have

    pub moments_of_write : (run : List ℕ) → run ≡ run_of r → (after : Log D disk) → log.LogLeaves l after (append.IsMoment (disk.contents (log.log_device l)) (log.log_tail l) now.holds.bodies (append.body_in_run run)) → log.LogLeaves l after (IsBeforeOrAfter (disk.size (log.log_device l)) h e)
    moments_of_write run same after leaves =
        let is = extent_of_ready h b staged.before (log.log_tail l) e r run ready.made staged same in
        moments h l e _ _ run is b s now (subst (λ x. need (append.body_in_run x) ≤ log.log_room l) (sym same) ready.fits) may_stand unsealed writing.stand after leaves

    pub holds_of_write : (run : List ℕ) → run ≡ run_of r → (after : Log D disk) → append.IsAppended l after run → log.KeepsBounds l after → Published (disk.contents (log.log_device l)) (4096 * (log.log_tail l + 1)) run (4096 * log.log_tail l) gate_block (disk.contents (log.log_device after)) → log.IsLogAtRest after (now.holds.bodies ++ append.body_in_run run ∷ []) → HoldsNow (h ++ e ∷ []) r.staged.next s after
    holds_of_write run same after appended kept written rests =
        let is = extent_of_ready h b staged.before (log.log_tail l) e r run ready.made staged same in
        holds_after h l e _ _ run is b s now (subst (λ x. need (append.body_in_run x) ≤ log.log_room l) (sym same) ready.fits) may_stand unsealed writing.stand after r.staged.next appended kept writing.stored writing.have written rests

  -- ---- the raise, and then the append

  module _ (l mid after : Log D disk) (e : Entry) (r : Ready) (kept : log.KeepsBounds l mid) (is : IsRaised r.raise l mid) where
    same_room : log.log_room mid ≡ log.log_room l
    same_room = ap (λ n. blocks_left n (log.log_tail mid)) is.log.blocks ∙ ap (blocks_left (log.log_blocks l)) is.log.tail

    -- What was made ready can still be appended.
    pub ready_raised : IsReadyFor l e r → IsReadyFor mid e r
    ready_raised ready = record {
      made = ready.made;
      some = ready.some;
      behind = subst (λ n. 2 * r.staged.next.entries + 2 ≤ n) (sym is.log.tail) ready.behind;
      runs = is.log.stopped ∙ ready.runs;
      fits = subst (λ n. need (append.body_in_run (run_of r)) ≤ n) (sym same_room) ready.fits;
      keeps = subst (λ n. IfSome r.raise (IsSuper n)) (sym kept.device_kept.same_size) ready.keeps;
    }

    staged_raised : (h : List Entry) (b : Kept) → IsStaged h b (log.log_tail l) e r → IsStaged h b (log.log_tail mid) e r
    staged_raised h b staged = subst (λ n. IsStaged h b n e r) (sym is.log.tail) staged

    -- The superblock after the raise has at least the format of the entry.
    reaches : (s : Super) → r.raise ≡ raise_for s e → format_of e ≤ (super_after s r.raise).format
    reaches s raise = subst (λ (o : Option Super). format_of e ≤ (super_after s o).format) (sym raise) (raise_reaches s e)

    -- It is not that of a sealed store, if the one before is not.
    unsealed_after : (s : Super) → r.raise ≡ raise_for s e → has_seal s ≡ false → has_seal (super_after s r.raise) ≡ false
    unsealed_after s raise unsealed = subst (λ (o : Option Super). has_seal (super_after s o) ≡ false) (sym raise) (raise_unsealed s e unsealed)

    bounds_on : log.KeepsBounds mid after → log.KeepsBounds l after
    bounds_on more = record {
      blocks = more.blocks ∙ kept.blocks;
      faults = more.faults ∙ kept.faults;
      device_kept = record {
        same_size = more.device_kept.same_size ∙ kept.device_kept.same_size;
        more_calls = omega (arith, kept.device_kept.more_calls, more.device_kept.more_calls);
        more_faults = omega (arith, kept.device_kept.more_faults, more.device_kept.more_faults);
      };
    }

    pub written_raised : HasExtent mid after r → IsWritten l after r
    written_raised has = record {
      kept = bounds_on has.kept;
      appended = record {
        tail = has.appended.tail ∙ ap (λ n. n + need (append.body_in_run (run_of r))) is.log.tail;
        extents = has.appended.extents ∙ ap (λ n. n + 1) is.log.extents;
        calls = counted_write r.raise (disk.calls (log.log_device l)) (disk.calls (log.log_device mid)) (disk.calls (log.log_device after)) is.calls has.appended.calls;
        ran = sym is.log.stopped ∙ has.appended.ran;
        runs = has.appended.runs;
        written = λ seen. (
          disk.contents (log.log_device mid),
          is.elsewhere seen,
          subst (λ n. Published (disk.contents (log.log_device mid)) (4096 * (n + 1)) (run_of r) (4096 * n) gate_block (disk.contents (log.log_device after))) is.log.tail (has.appended.written seen),
        );
      };
    }

    pub failed_raised : HasFailed None mid after → HasFailed r.raise l after
    failed_raised failed = record {
      kept = bounds_on failed.kept;
      stops = record {
        rose = omega (arith, kept.device_kept.more_faults, failed.stops.rose);
        called = omega (arith, kept.device_kept.more_calls, failed.stops.called);
        at_most = most_written r.raise (disk.calls (log.log_device l)) (disk.calls (log.log_device mid)) (disk.calls (log.log_device after)) is.calls failed.stops.at_most;
        stopped = failed.stops.stopped;
        tail = failed.stops.tail ∙ is.log.tail;
        extents = failed.stops.extents ∙ is.log.extents;
      };
    }

    pub holds_raised : HoldsRaised r.raise l mid → HoldsAppended mid after e r → HoldsEntry l after e r
    holds_raised raised holds seen h b s staged raise unsealed now =
        holds seen h b (super_after s r.raise) (staged_raised h b staged) (reaches s raise) (unsealed_after s raise unsealed) (raised seen h b s (subst (MayRaise s) (sym raise) (may_raise s e)) now)

    pub moments_raised : HoldsRaised r.raise l mid → LeavesRaised r.raise l mid → LeavesExtent mid after e r → LeavesEntry l after e r
    moments_raised raised leaves moments seen h b s staged raise unsealed now =
        let may = subst (MayRaise s) (sym raise) (may_raise s e) in
        both_leave h e (disk.size (log.log_device l)) l mid (leaves seen h b s may now) after
        (subst (λ n. log.LogLeaves mid after (IsBeforeOrAfter n h e)) kept.device_kept.same_size (moments seen h b (super_after s r.raise) (staged_raised h b staged) (reaches s raise) (unsealed_after s raise unsealed) (raised seen h b s may now)))

  -- The raise alone leaves the history.
  pub raise_moments : (l mid : Log D disk) (e : Entry) (r : Ready) → LeavesRaised r.raise l mid → LeavesEntry l mid e r
  raise_moments l mid e r leaves seen h b s staged raise unsealed now =
      raise_leaves h e (disk.size (log.log_device l)) l mid (leaves seen h b s (subst (MayRaise s) (sym raise) (may_raise s e)) now)

  -- ---- engines that differ in where the log is

  -- The log that was taken is the engine's.
  pub taken_is : (p : Place D disk) (l : Log D disk) → Some l ≡ log_here p → l ≡ log_in p
  taken_is (Home m) l is = cc
  taken_is (Out taken) l is = absurd (cc)

  module _ (a b : Engine D disk) (like : IsLike a b) where
    pub of_like : (h : List Entry) → IsEngineOf h b → IsEngineOf h a
    of_like h of = subst (IsBoardOf h) (sym like.board) of

    pub ready_like : (e : Entry) (r : Ready) → IsReadyOn a e r → IsReadyOn b e r
    ready_like e r on = record {
      ready_for = subst (λ l. IsReadyFor l e r) like.log on.ready_for;
      next = on.next ∙ ap (λ (k : Kept). k.entries + 1) like.board;
      raise = on.raise ∙ ap (λ s. raise_for s e) like.chosen;
      unsealed = ap has_seal (sym like.chosen) ∙ on.unsealed;
    }

    pub staged_like : (h : List Entry) (e : Entry) (r : Ready) → IsStaged h (board_of a) (tail_of a) e r → IsStaged h (board_of b) (tail_of b) e r
    staged_like h e r is =
        subst (λ n. IsStaged h (board_of b) n e r) (ap log.log_tail like.log) (subst (λ k. IsStaged h k (tail_of a) e r) like.board is)

    stopped_like : is_stopped b ≡ is_stopped a
    stopped_like = ap log.is_log_stopped (sym like.log)

    sealed_like : is_sealed b ≡ is_sealed a
    sealed_like = ap has_seal (sym like.chosen)

    entries_like : entries_of a ≡ entries_of b
    entries_like = ap (λ (k : Kept). k.entries) like.board

    room_like : room_of a ≡ room_of b
    room_like = ap log.log_room like.log

    pub stopped_as : (fault : StepFault) → (IsTrue (is_stopped a) → refuses fault ≡ refuses (Stopped (entries_of a))) → IsTrue (is_stopped b) → fault ≡ Stopped (entries_of b)
    stopped_as fault says is =
        fault_one fault (Stopped (entries_of a)) (says (sym stopped_like ∙ is)) ∙ ap Stopped entries_like

    pub sealed_as : (fault : StepFault) → (IsFalse (is_stopped a) → IsTrue (is_sealed a) → refuses fault ≡ refuses Sealed) → IsFalse (is_stopped b) → IsTrue (is_sealed b) → fault ≡ Sealed
    sealed_as fault says runs is = fault_one fault Sealed (says (sym stopped_like ∙ runs) (sym sealed_like ∙ is))

    pub result_like : (e : Entry) (fault : StepFault) → HasResult a a e (Err fault) → HasResult b b e (Err fault)
    result_like e (Stopped n) has = (stopped_like ∙ has.0, has.1 ∙ entries_like, refl)
    result_like e Sealed has = (stopped_like ∙ has.0, sealed_like ∙ has.1, refl)
    result_like e (Rejected why) has = (stopped_like ∙ has.0, refl)
    result_like e Want has = (stopped_like ∙ has.0, refl)
    result_like e (DeviceFull n left) has = (stopped_like ∙ has.0, has.1 ∙ room_like, has.2, refl)
    result_like e DeviceFault has = let stopped = has.1.stopped in let runs = has.0 in absurd (cc)

    pub cause_like : (h : List Entry) (e : Entry) (fault : StepFault) → HasResult a a e (Err fault) → StepCause h a a e fault → StepCause h b b e fault
    cause_like h e (Stopped n) has cause = (stopped_like ∙ cause.0, cause.1, refl)
    cause_like h e Sealed has cause = (stopped_like ∙ cause.0, sealed_like ∙ cause.1, refl)
    cause_like h e (Rejected why) has cause = (stopped_like ∙ cause.0, cause.1, refl)
    cause_like h e Want has cause = (stopped_like ∙ cause.0, cause.1, refl)
    cause_like h e (DeviceFull n left) has cause = (stopped_like ∙ cause.0, cause.1, cause.2, cause.3 ∙ room_like, cause.4, refl)
    cause_like h e DeviceFault has cause = let stopped = has.1.stopped in let runs = has.0 in absurd (cc)

  -- ---- a step that refuses

  same_flight : (a : Engine D disk) (fault : StepFault) (more : List Entry) (e : Entry) → HasResult a a e (Err fault) → more ≡ in_flight_after (Err fault) more e
  same_flight a (Stopped n) more e has = refl
  same_flight a Sealed more e has = refl
  same_flight a (Rejected why) more e has = refl
  same_flight a Want more e has = refl
  same_flight a (DeviceFull n left) more e has = refl
  same_flight a DeviceFault more e has = let stopped = has.1.stopped in let runs = has.0 in absurd (cc)

  itself : (a : Engine D disk) → KeepsOpening a a
  itself a = record {
    blocks = refl;
    entries = refl;
    synced = refl;
    device_kept = record { same_size = refl; more_calls = omega arith; more_faults = omega arith };
  }

  -- The entry was refused, and the engine is as before.
  pub refused_step : HasMoments disk → (old new : Engine D disk) (e : Entry) (fault : StepFault) → new ≡ old → is_home old ≡ true → (IsTrue (is_stopped old) → fault ≡ Stopped (entries_of old)) → (IsFalse (is_stopped old) → IsTrue (is_sealed old) → fault ≡ Sealed) → HasResult old old e (Err fault) → ((h : List Entry) → IsEngineOf h old → StepCause h old old e fault) → IsStep old new e (Err fault)
  refused_step laws old new e fault same home stopped sealed has cause =
      subst (λ x. IsStep old x e (Err fault)) (sym same) (record {
        home = home;
        effect = record {
          stopped = λ is. record { returned = ap Err (stopped is); same = refl };
          sealed = λ runs is. record { returned = ap Err (sealed runs is); same = refl };
          has_result = has;
        };
        cause = cause;
        stepped = λ h of. tt;
        kept = itself old;
        at_rest = λ seen h rest. tt;
        moments = λ seen h rest. no_moment h old e (laws.only_now seen (device old)) rest;
        acknowledged = λ seen h rest. tt;
        durable = λ seen h more calls entries rests so_far. subst (IsDurable h calls entries old) (same_flight old fault more e has) so_far;
      })

  -- ---- a step that writes

  -- What was staged, whatever the history of the engine is.
  abbrev pub StagesOn : Engine D disk → Entry → Ready → Type 0
  StagesOn old e r = (h : List Entry) → IsEngineOf h old → IsStaged h (board_of old) (tail_of old) e r

  module _ (laws : HasMoments disk) (old out new : Engine D disk) (l : Log D disk) (e : Entry) (r : Ready) (like : IsLike out old) (on : IsReadyOn old e r) (staged : StagesOn old e r) (moments : LeavesEntry (log_of old) l e r) where
    could : (h : List Entry) → IsEngineOf h old → (need_of h e ≡ need (append.body_in_run (run_of r))) × CanStep h old e
    could h of =
        let st = staged h of in
        let size = needed h (log_of old) e _ _ (run_of r) (extent_of_ready h (board_of old) of (tail_of old) e r (run_of r) on.ready_for.made st refl) in
        (sym size, record { runs = on.ready_for.runs; unsealed = on.unsealed; allowed = st.allowed; fits = omega (arith, size, on.ready_for.fits) })

    module _ (is_l : log_of new ≡ l) where
      -- Each moment of the step leaves the history, or the history with the entry.
      left : disk.is_observable → (h : List Entry) → IsAtRest h old → log.LogLeaves (log_of old) (log_of new) (IsBeforeOrAfter (disk.size (device old)) h e)
      left seen h rest =
          subst (λ x. log.LogLeaves (log_of old) x (IsBeforeOrAfter (disk.size (device old)) h e)) (sym is_l)
          (moments seen h (board_of old) (super_of old) (staged h rest.of) on.raise on.unsealed (now_of_rest h old rest))

    -- The entry was written, and the log is back with it.
    pub written_step : (result : Option Receipt) (receipt : Receipt) → result ≡ Some receipt → IsWritten (log_of old) l r → HoldsEntry (log_of old) l e r → IsHomeAgain out l (Some r) new result → IsStep old new e (Ok receipt)
    written_step result receipt is written holds settled =
        let w : IsWritten (log_of old) (log_of new) r = subst (λ x. IsWritten (log_of old) x r) (sym settled.log_is) written in
        let runs = on.ready_for.runs in
        let unsealed = on.unsealed in
        let board : board_of new ≡ r.staged.next = settled.board in
        let says : r.staged.receipt ≡ receipt = some_one r.staged.receipt receipt (sym settled.receipt ∙ is) in
        let entries : entries_of new ≡ entries_of old + 1 = ap (λ (b : Kept). b.entries) board ∙ on.next in
        let kept = opening_kept old new w.kept (settled.entries ∙ like.entries) (ap (λ s. s.value) (settled.synced ∙ like.synced)) in
        let chosen : super_of new ≡ super_after (super_of old) r.raise = settled.chosen ∙ ap (λ s. super_after s r.raise) like.chosen in
        let raised = chosen ∙ ap (super_after (super_of old)) on.raise in
        let called = subst (λ x. CountsWrite x (disk.calls (device old)) (disk.calls (device new))) on.raise w.appended.calls in
        let of : (h : List Entry) → IsEngineOf h old → IsEngineOf (h ++ e ∷ []) new = λ h of. subst (IsBoardOf (h ++ e ∷ [])) (sym board) (staged h of).of in
        let rested : disk.is_observable → (h : List Entry) → IsAtRest h old → IsAtRest (h ++ e ∷ []) new = λ seen h rest.
        let now = holds seen h (board_of old) (super_of old) (staged h rest.of) on.raise on.unsealed (now_of_rest h old rest) in
        let boarded = subst (λ b. HoldsNow (h ++ e ∷ []) b (super_after (super_of old) r.raise) l) (sym board) now in
        let supered = subst (λ s. HoldsNow (h ++ e ∷ []) (board_of new) s l) (sym chosen) boarded in
        rest_of_now (h ++ e ∷ []) new (of h rest.of) (subst (HoldsNow (h ++ e ∷ []) (board_of new) (super_of new)) (sym settled.log_is) supered) in
        record {
          home = settled.home;
          effect = record {
            stopped = λ stopped. absurd (cc);
            sealed = λ _ sealed. absurd (cc);
            has_result = record {
              ran = runs;
              unsealed = unsealed;
              runs = w.appended.runs;
              entries = entries;
              number = ap (λ (x : Receipt). x.number) (sym says) ∙ on.ready_for.made.numbered ∙ sym (ap (λ (b : Kept). b.entries) board);
              chosen = raised;
              called = called;
            };
          };
          cause = λ h of. tt;
          stepped = λ h was.
              let can = could h was in
              record {
                could = can.1;
                of = of h was;
                tail = w.appended.tail ∙ ap (λ n. tail_of old + n) (sym can.0);
                runs = w.appended.runs;
                chosen = raised;
                called = called;
                is_receipt = subst (IsReceipt h e) says (staged h was).is_receipt;
              };
          kept = kept;
          at_rest = rested;
          moments = left settled.log_is;
          acknowledged = λ seen h rest. durable_as (h ++ e ∷ []) new (length h + 1) (length-append h (e ∷ [])) (laws.only_now seen (device new)) (rested seen h rest);
          durable = λ seen h more calls entries rests so_far.
              durable_taken h old e calls entries new more runs kept (rested seen h (rests runs)) (left settled.log_is seen h (rests runs)) so_far;
        }

    -- The device failed in the write, and the log is back without the entry.
    pub failed_step : (result : Option Receipt) → HasFailed r.raise (log_of old) l → IsHomeAgain out l None new result → IsStep old new e (Err DeviceFault)
    failed_step result failed settled =
        let f : HasFailed r.raise (log_of old) (log_of new) = subst (HasFailed r.raise (log_of old)) (sym settled.log_is) failed in
        let runs = on.ready_for.runs in
        let unsealed = on.unsealed in
        let board : board_of new ≡ board_of old = settled.board ∙ like.board in
        let kept = opening_kept old new f.kept (settled.entries ∙ like.entries) (ap (λ s. s.value) (settled.synced ∙ like.synced)) in
        let stops : StopsByFault old new e = record {
          called = f.stops.called;
          at_most = subst (λ x. disk.calls (device new) ≤ disk.calls (device old) + most_calls x) on.raise f.stops.at_most;
          rose = f.stops.rose;
          stopped = f.stops.stopped;
          board = board;
          tail = f.stops.tail;
          chosen = settled.chosen ∙ like.chosen;
        } in
        record {
          home = settled.home;
          effect = record { stopped = λ stopped. absurd (cc); sealed = λ _ sealed. absurd (cc); has_result = (runs, stops) };
          cause = λ h of. ((could h of).1, stops);
          stepped = λ h of. tt;
          kept = kept;
          at_rest = λ seen h rest. tt;
          moments = left settled.log_is;
          acknowledged = λ seen h rest. tt;
          durable = λ seen h more calls entries rests so_far.
              durable_failed h old e calls entries new more runs kept board f.stops.stopped (laws.counts_now seen (device new)) (left settled.log_is seen h (rests runs)) so_far;
        }
