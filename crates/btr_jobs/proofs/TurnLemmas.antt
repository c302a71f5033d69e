-- Lemmas on the turns of a session: what the hall's clauses say of the history.
use Rattle.std.specs.Prelude.{◌≡◌, ℕ, ◌+◌, ◌<◌, Bool, true, false, ◌||◌, List, [], ◌∷◌, ◌++◌, length}
use Rattle.std.specs.Prelude.{option_to_list, Result, Ok, Err}
use Rattle.std.specs.Option.{is_some}
use Rattle.std.proofs.Common.{refl, sym, ap, ◌∙◌, subst, arith, length-append, append_assoc}
use Rattle.std.proofs.lemmas.List.{append-nil}
use Rattle.btr_disk.specs.declared.disk.Disk.{Ghosts}
use Rattle.btr_hist.specs.declared.entry.Entry.{Entry}
use Rattle.btr_distil.specs.Plan.{PlanValue, entry_of}
use Rattle.btr_engine.specs.declared.engine.Engine.{Engine}
use Rattle.btr_streams.specs.declared.board.Receipt.{Receipt}
use Rattle.btr_engine.specs.declared.step.StepFault.{StepFault}
use Rattle.btr_engine.specs.declared.step.StepFault.TheVariants as steps
use Rattle.btr_engine.specs.Body.{need_of, needs_after}
use Rattle.btr_engine.proofs.NeedLemmas.{needs-append}
use Rattle.btr_engine.specs.Engine.{is_stopped, is_sealed, room_of, IsEngineOf}
use Rattle.btr_gate.specs.Numbers.{one, times, Climbs}
use Rattle.btr_gate.specs.Prefixes.{StartsWith}
use Rattle.btr_gate.specs.Shares.{on_path}
use Rattle.btr_gate.proofs.NumberLemmas.{times_append, times_within}
use Rattle.btr_gate.proofs.PrefixLemmas.{starts_refl, starts_trans, starts_length}
use Rattle.btr_hall.specs.declared.item.Item.{Item}
use Rattle.btr_hall.specs.declared.item.Item.TheVariants.{Added, Halted}
use Rattle.btr_hall.specs.declared.land.LandFault.{LandFault}
use Rattle.btr_hall.specs.declared.land.LandFault.TheVariants as faults
use Rattle.btr_hall.specs.declared.session.Hall.{Hall}
use Rattle.btr_hall.specs.declared.session.Session.{Session}
use Rattle.btr_hall.specs.Trace.{IsTraceOf, entries_in, has_halt, stopped_in, history_of}
use Rattle.btr_hall.specs.Session.{IsSessionOf, IsSame, IsAlone, Looks, opening_of, seen_of, mine_of, engine_of}
use Rattle.btr_hall.specs.Commit.{shown, number_by, item_by, Commits}
use Rattle.btr_hall.specs.Commit as commit
use Rattle.btr_hall.specs.Landing.{step_result, Lands}
use Rattle.btr_hall.specs.Landing as landing
use Rattle.btr_hall.proofs.TraceLemmas.{entries_append, halt_append, engine_of_list, length_of_list, sealed_runs, sealed_entries, runs_front, list_push}
use Rattle.btr_hall.proofs.LandLemmas.{history_starts}
use Rattle.btr_jobs.specs.States.{failed_in, start_with, log_seen, start_of}
use Rattle.btr_jobs.specs.Turns.{IsAdded, IsFailed, IsIdle, IsStopped, IsSealed, IsFull, SaysSealed, Committed, CommittedAfter, Landed, LandedAfter}
use Rattle.btr_jobs.specs.Jobs.{IsAt, Goes, Does}
use Rattle.btr_jobs.proofs.StateLemmas.{log_at, failed_halt, failed_append, history_goes_on}

runs_before : (a b : Bool) → ((a || b) ≡ true → ⊥) → b ≡ false
runs_before true true never = absurd (never refl)
runs_before false true never = absurd (never refl)
runs_before true false never = refl
runs_before false false never = refl

module _ {D : Type 0} {disk : Ghosts D} where
  -- ---- the list of a turn: `before` is the list when it began, `after` the list that it left

  module _ (h : List Entry) (x : Engine D disk) (before after : List (Item D disk)) (of : IsEngineOf h x) (trace : IsTraceOf x after) where
    -- The length of the list.
    long : length after ≡ length (history_of h after) + one (has_halt after)
    long =
        let all = length_of_list x after trace in
        let entries = (engine_of_list h x after of trace).entries in
        omega (arith, all, entries)

    number : (p : List Entry) (n : ℕ) → length (history_of h after) + one (has_halt after) ≡ length p + 1 → length after ∷ [] ≡ (length p + 1) ∷ []
    number p n is = ap (λ k. k ∷ []) (long ∙ is)

    -- An entry was added.
    added_by : (e : Entry) (y : Engine D disk) → after ≡ before ++ Added (shown e) (shown y) ∷ [] → has_halt before ≡ false → IsAdded (log_at h after) (history_of h before) e (length after ∷ []) (history_of h before ++ e ∷ [])
    added_by e y seen runs =
        let p = history_of h before in
        let history : history_of h after ≡ p ++ e ∷ [] =
        ap (history_of h) seen ∙ ap (λ k. h ++ k) (entries_append before (Added (shown e) (shown y) ∷ [])) ∙ sym (append_assoc h (entries_in before) (e ∷ [])) in
        let halt : has_halt after ≡ false =
        ap (has_halt {disk = disk}) seen ∙ halt_append before (Added (shown e) (shown y) ∷ []) ∙ ap (λ b. b || false) runs in
        let entries : length (history_of h after) ≡ length p + 1 =
        ap (λ (k : List Entry). length k) history ∙ length-append p (e ∷ []) in
        let none : one (has_halt after) ≡ 0 = ap one halt in
        record {
          follows = ([], history ∙ sym (append-nil (p ++ e ∷ [])));
          own = number p 0 (omega (arith, entries, none));
          next = refl;
        }

    -- The device failed.
    failed_by : (e : Entry) (y : Engine D disk) → after ≡ before ++ Halted (shown e) (shown y) ∷ [] → has_halt before ≡ false → IsFailed (log_at h after) (history_of h before) e (length after ∷ []) (history_of h before)
    failed_by e y seen runs =
        let p = history_of h before in
        let history : history_of h after ≡ p =
        ap (history_of h) seen ∙ ap (λ k. h ++ k) (entries_append before (Halted (shown e) (shown y) ∷ []) ∙ append-nil (entries_in before)) in
        let halt : has_halt after ≡ true =
        ap (has_halt {disk = disk}) seen ∙ halt_append before (Halted (shown e) (shown y) ∷ []) ∙ ap (λ b. b || true) runs in
        let entries : length (history_of h after) ≡ length p = ap (λ (k : List Entry). length k) history in
        let halted : one (has_halt after) ≡ 1 = ap one halt in
        record {
          last = history;
          failed = ap (failed_in {disk = disk}) seen ∙ failed_append before (Halted (shown e) (shown y) ∷ []) runs;
          own = number p 0 (omega (arith, entries, halted));
          next = refl;
        }

    -- Nothing was added.
    idle_by : IsIdle (history_of h before) [] (history_of h before)
    idle_by = record { own = refl; next = refl }

    stopped_by : (entries : ℕ) → after ≡ before ++ [] → stopped_in x before ≡ true → entries ≡ length (history_of h before) → IsStopped (start_with h x) (log_at h after) (history_of h before) entries
    stopped_by entries seen stopped is =
        let same : after ≡ before = seen ∙ append-nil before in
        let halt : is_some (failed_in after) ≡ has_halt before = failed_halt after ∙ ap (has_halt {disk = disk}) same in
        record {
          stopped = ap (λ b. is_stopped x || b) halt ∙ stopped;
          last = ap (history_of h) same;
          entries = is;
        }

    sealed_by : after ≡ before ++ [] → stopped_in x before ≡ false → is_sealed x ≡ true → IsSealed (start_with h x) (log_at h after) (history_of h before)
    sealed_by seen runs sealed =
        let same : after ≡ before = seen ∙ append-nil before in
        let halt : is_some (failed_in after) ≡ has_halt before = failed_halt after ∙ ap (has_halt {disk = disk}) same in
        record {
          sealed = sealed;
          runs = ap (λ b. is_stopped x || b) halt ∙ runs;
          last = ap (history_of h) same;
          kept = ap (history_of h) (sym same) ∙ ap (λ k. h ++ k) (sealed_entries x after trace sealed) ∙ append-nil h;
        }

    full_by : (e : Entry) (need left : ℕ) → need ≡ need_of (history_of h before) e → left + needs_after h (entries_in before) ≡ room_of x → left < need → IsFull (start_with h x) (history_of h before) e need left
    full_by e need left is room short =
        let both = needs-append h (entries_in before) in
        record { need = is; left = omega (arith, both, room); short = short }

    -- ---- what the result says

    -- The numbers of what a step added.
    abbrev pub numbers : Result Receipt StepFault → List ℕ
    numbers result = option_to_list (number_by result (length after))

    committed_by : (e : Entry) (y : Engine D disk) (result : Result Receipt StepFault) → after ≡ before ++ option_to_list (item_by result e y) → (stopped_in x before ≡ true → result ≡ Err (steps.Stopped (length (history_of h before)))) → commit.CommitReplies x h before (history_of h before) e result → (next : List Entry) × Committed (start_with h x) (log_at h after) (history_of h before) e result (numbers result) next × StartsWith (history_of h after) next
    committed_by e y (Ok receipt) seen stopped says =
        let added = added_by e y seen (runs_before (is_stopped x) (has_halt before) (λ is. let not = stopped is in cc)) in
        (history_of h before ++ e ∷ [], (says.0, says.1, added), added.follows)
    committed_by e y (Err (steps.Stopped entries)) seen stopped says =
        (history_of h before, (stopped_by entries seen says.0 says.1, idle_by), history_starts h after before ([], seen))
    committed_by e y (Err steps.Sealed) seen stopped says =
        (history_of h before, (sealed_by seen says.0 says.1, idle_by), history_starts h after before ([], seen))
    committed_by e y (Err (steps.Rejected why)) seen stopped says =
        (history_of h before, (says, idle_by), history_starts h after before ([], seen))
    committed_by e y (Err steps.Want) seen stopped says =
        (history_of h before, (says, idle_by), history_starts h after before ([], seen))
    committed_by e y (Err (steps.DeviceFull need left)) seen stopped says =
        (history_of h before, (says.0, full_by e need left says.1 says.2 says.3, idle_by), history_starts h after before ([], seen))
    committed_by e y (Err steps.DeviceFault) seen stopped says =
        let failed = failed_by e y seen (runs_before (is_stopped x) (has_halt before) (λ is. let not = stopped is in cc)) in
        (history_of h before, (says, failed), history_starts h after before (Halted (shown e) (shown y) ∷ [], seen))

    landed_by : (plan : PlanValue) (y : Engine D disk) (result : Result Receipt LandFault) → after ≡ before ++ option_to_list (item_by (step_result result) (entry_of plan) y) → (stopped_in x before ≡ true → result ≡ Err (faults.Stopped (length (history_of h before)))) → landing.LandingReplies x h before (history_of h before) plan result → (next : List Entry) × Landed (start_with h x) (log_at h after) (history_of h before) plan result (numbers (step_result result)) next × StartsWith (history_of h after) next
    landed_by plan y (Ok receipt) seen stopped says =
        let added = added_by (entry_of plan) y seen (runs_before (is_stopped x) (has_halt before) (λ is. let not = stopped is in cc)) in
        (history_of h before ++ entry_of plan ∷ [], (says.0, says.2, added), added.follows)
    landed_by plan y (Err (faults.Stopped entries)) seen stopped says =
        (history_of h before, (stopped_by entries seen says.0 says.1, idle_by), history_starts h after before ([], seen))
    landed_by plan y (Err faults.Sealed) seen stopped says =
        (history_of h before, (sealed_by seen says.0 says.1, idle_by), history_starts h after before ([], seen))
    landed_by plan y (Err (faults.Superseded version)) seen stopped says =
        (history_of h before, (says.0, says.1, says.2, idle_by), history_starts h after before ([], seen))
    landed_by plan y (Err faults.VersionLimit) seen stopped says =
        (history_of h before, (says.0, says.1, idle_by), history_starts h after before ([], seen))
    landed_by plan y (Err (faults.Crowded at)) seen stopped says =
        (history_of h before, (says.0, says.1, says.2, idle_by), history_starts h after before ([], seen))
    landed_by plan y (Err (faults.TooManyPoints count)) seen stopped says =
        (history_of h before, (says.0, says.1, says.2, idle_by), history_starts h after before ([], seen))
    landed_by plan y (Err faults.Want) seen stopped says =
        (history_of h before, (says.0, says.1, idle_by), history_starts h after before ([], seen))
    landed_by plan y (Err (faults.DeviceFull need left)) seen stopped says =
        (history_of h before, (says.0, says.1, full_by (entry_of plan) need left says.2 says.3 says.4, idle_by), history_starts h after before ([], seen))
    landed_by plan y (Err faults.DeviceFault) seen stopped says =
        let failed = failed_by (entry_of plan) y seen (runs_before (is_stopped x) (has_halt before) (λ is. let not = stopped is in cc)) in
        (history_of h before, (says.0, says.1, failed), history_starts h after before (Halted (shown (entry_of plan)) (shown y) ∷ [], seen))

  -- ---- the session

  -- A step numbers what it adds after all that was there.
  step_climbs : (before after : List (Item D disk)) (e : Entry) (y : Engine D disk) (result : Result Receipt StepFault) → after ≡ before ++ option_to_list (item_by result e y) → Climbs (length before) (option_to_list (number_by result (length after))) (length after)
  step_climbs before after e y (Ok receipt) seen =
      let long = ap (length {A = Item D disk}) seen ∙ length-append before (Added (shown e) (shown y) ∷ []) in
      (omega (arith, long), omega arith, tt)
  step_climbs before after e y (Err steps.DeviceFault) seen =
      let long = ap (length {A = Item D disk}) seen ∙ length-append before (Halted (shown e) (shown y) ∷ []) in
      (omega (arith, long), omega arith, tt)
  step_climbs before after e y (Err (steps.Stopped entries)) seen = tt
  step_climbs before after e y (Err steps.Sealed) seen = tt
  step_climbs before after e y (Err (steps.Rejected why)) seen = tt
  step_climbs before after e y (Err steps.Want) seen = tt
  step_climbs before after e y (Err (steps.DeviceFull need left)) seen = tt

  -- A turn that adds these numbers.
  goes_by : (old new : Session D disk) (before : List (Item D disk)) (own : List ℕ) → IsSame old new → StartsWith (seen_of new) before → StartsWith before (seen_of old) → mine_of new ≡ mine_of old ++ own → Climbs (length before) own (length (seen_of new)) → Goes old new own
  goes_by old new before own same ends grows mine climbs = record {
    seen = starts_trans (seen_of new) before (seen_of old) ends grows;
    mine = λ n. ap (times n) mine ∙ times_append n (mine_of old) own;
    fresh = λ n some.
        let at = times_within (length before) (length (seen_of new)) n own climbs (omega (arith, some)) in
        (omega (arith, at.0, starts_length before (seen_of old) grows), at.1);
    start = same.start;
    paths = λ path. ap (on_path path) same.share;
  }

  -- ---- the turn of an entry

  module _ (hall : Hall D disk) (old new : Session D disk) (e : Entry) (result : Result Receipt StepFault) (same : IsSame old new) (commits : Commits hall old new e result) where
    trace_after : IsTraceOf (opening_of hall) (seen_of new)
    trace_after =
        subst (IsTraceOf (opening_of hall)) (sym commits.seen) (list_push (opening_of hall) (engine_of hall new) commits.before e result commits.trace commits.step)

    ends : StartsWith (seen_of new) commits.before
    ends = (option_to_list (item_by result e (engine_of hall new)), commits.seen)

    goes : Goes old new (option_to_list (number_by result (length (seen_of new))))
    goes =
        goes_by old new commits.before _ same ends commits.grows commits.mine
        (step_climbs commits.before (seen_of new) e (engine_of hall new) result commits.seen)

    says : (h : List Entry) → IsEngineOf h (opening_of hall) → (next : List Entry) × Committed (start_of h hall) (log_seen h new) (history_of h commits.before) e result (option_to_list (number_by result (length (seen_of new)))) next × StartsWith (log_seen h new).history next
    says h of =
        committed_by h (opening_of hall) commits.before (seen_of new) of trace_after e (engine_of hall new) result commits.seen (λ stopped. commits.stopped stopped h of) (commits.replies h of)

    -- In a sealed store that is not stopped the entry is refused as such.
    says_sealed : (h : List Entry) → SaysSealed (start_of h hall) steps.Sealed result
    says_sealed h sealed runs = commits.sealed (sealed_runs (opening_of hall) commits.before commits.trace sealed runs) sealed

    -- After the turn of an entry the session is at its hall.
    pub commit_at : IsSessionOf hall new → IsAt hall new
    commit_at is = record { own = is; trace = trace_after }

    -- The turn of an entry, after all that the session had seen.
    pub commit_turn : Does hall old new (λ start log low own. (next : List Entry) × CommittedAfter start log low e result own next × StartsWith log.history next)
    commit_turn = (
      option_to_list (number_by result (length (seen_of new))),
      goes,
      λ h of.
          let said = says h of in
          (said.0, (history_of h commits.before, history_starts h commits.before (seen_of old) commits.grows, history_starts h (seen_of new) commits.before ends, said.1, says_sealed h), said.2),
    )

    -- The turn of an entry by a session that is alone: its history is what the session had seen.
    pub commit_turn_alone : IsAlone old → Does hall old new (λ start log low own. (next : List Entry) × Committed start log low e result own next × StartsWith log.history next × SaysSealed start steps.Sealed result)
    commit_turn_alone alone = (
      option_to_list (number_by result (length (seen_of new))),
      goes,
      λ h of.
          let said = subst (λ l. (next : List Entry) × Committed (start_of h hall) (log_seen h new) (history_of h l) e result (option_to_list (number_by result (length (seen_of new)))) next × StartsWith (log_seen h new).history next) (commits.alone alone) (says h of) in
          (said.0, said.1, said.2, says_sealed h),
    )

  -- ---- the turn of a plan

  module _ (hall : Hall D disk) (old new : Session D disk) (plan : PlanValue) (result : Result Receipt LandFault) (same : IsSame old new) (lands : Lands hall old new plan result) where
    plan_ends : StartsWith (seen_of new) lands.before
    plan_ends = (option_to_list (item_by (step_result result) (entry_of plan) (engine_of hall new)), lands.seen)

    plan_goes : Goes old new (option_to_list (number_by (step_result result) (length (seen_of new))))
    plan_goes =
        goes_by old new lands.before _ same plan_ends lands.grows lands.mine
        (step_climbs lands.before (seen_of new) (entry_of plan) (engine_of hall new) (step_result result) lands.seen)

    plan_says : (h : List Entry) → IsEngineOf h (opening_of hall) → (next : List Entry) × Landed (start_of h hall) (log_seen h new) (history_of h lands.before) plan result (option_to_list (number_by (step_result result) (length (seen_of new)))) next × StartsWith (log_seen h new).history next
    plan_says h of =
        landed_by h (opening_of hall) lands.before (seen_of new) of lands.trace plan (engine_of hall new) result lands.seen (λ stopped. lands.stopped stopped h of) (lands.replies h of)

    -- In a sealed store that is not stopped the plan is refused as such.
    plan_says_sealed : (h : List Entry) → SaysSealed (start_of h hall) faults.Sealed result
    plan_says_sealed h sealed runs =
        let x = opening_of hall in
        let more = option_to_list (item_by (step_result result) (entry_of plan) (engine_of hall new)) in
        let all = ap (stopped_in x) (sym lands.seen) ∙ sealed_runs x (seen_of new) lands.trace sealed runs in
        lands.sealed (runs_front x lands.before more all) sealed

    -- After the turn of a plan the session is at its hall.
    pub land_at : IsSessionOf hall new → IsAt hall new
    land_at is = record { own = is; trace = lands.trace }

    -- The turn of a plan, after all that the session had seen.
    pub land_turn : Does hall old new (λ start log low own. (next : List Entry) × LandedAfter start log low plan result own next × StartsWith log.history next)
    land_turn = (
      option_to_list (number_by (step_result result) (length (seen_of new))),
      plan_goes,
      λ h of.
          let said = plan_says h of in
          (said.0, (history_of h lands.before, history_starts h lands.before (seen_of old) lands.grows, history_starts h (seen_of new) lands.before plan_ends, said.1, plan_says_sealed h), said.2),
    )

    -- The turn of a plan by a session that is alone: its history is what the session had seen.
    pub land_turn_alone : IsAlone old → Does hall old new (λ start log low own. (next : List Entry) × Landed start log low plan result own next × StartsWith log.history next)
    land_turn_alone alone = (
      option_to_list (number_by (step_result result) (length (seen_of new))),
      plan_goes,
      λ h of.
          subst (λ l. (next : List Entry) × Landed (start_of h hall) (log_seen h new) (history_of h l) plan result (option_to_list (number_by (step_result result) (length (seen_of new)))) next × StartsWith (log_seen h new).history next) (lands.alone alone) (plan_says h of),
    )

  -- ---- a turn that adds nothing

  module _ (hall : Hall D disk) (old new : Session D disk) (looks : Looks hall old new) where
    -- After a look the session is at its hall.
    pub look_at : IsSessionOf hall new → IsAt hall new
    look_at is = record { own = is; trace = looks.trace }

    -- A look adds nothing. What it says of the history that the session has then seen, it says after all that it had seen.
    pub look_turn : (Fact : List Entry → Type 0) → ((h : List Entry) → IsEngineOf h (opening_of hall) → Fact (history_of h (seen_of new))) → Does hall old new (λ start log low own. (own ≡ []) × StartsWith log.history low × Fact log.history)
    look_turn Fact fact = (
      [],
      goes_by old new (seen_of new) [] looks.same (starts_refl (seen_of new)) looks.grows (looks.mine ∙ sym (append-nil (mine_of old))) tt,
      λ h of. (refl, history_goes_on h new old looks.grows, fact h of),
    )
