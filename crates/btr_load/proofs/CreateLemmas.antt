-- Lemmas on the creates of a load: each is a turn right after what the session, which is alone, had seen.
use Rattle.std.specs.Prelude.{◌≡◌, ℕ, ◌+◌, true, false, List, [], ◌∷◌, ◌++◌, ◌<◌, length, take, drop, Option, Some, None, option_to_list, Result, Ok, Err}
use Rattle.std.specs.Option.{is_some}
use Rattle.std.proofs.Common.{refl, sym, ap, ◌∙◌, subst, append_assoc, get_or, set}
use Rattle.std.proofs.lemmas.List.{append-nil}
use Rattle.btr_disk.specs.declared.disk.Disk.{Ghosts}
use Rattle.btr_hist.specs.declared.entry.Entry.{Entry}
use Rattle.btr_hist.specs.declared.entry.Entry.TheVariants as entries
use Rattle.btr_hist.specs.History.{stream_of}
use Rattle.btr_rows.specs.declared.row.NumberedPoint.{NumberedPoint}
use Rattle.btr_engine.specs.declared.engine.Engine.{Engine}
use Rattle.btr_streams.specs.declared.board.Receipt.{Receipt}
use Rattle.btr_engine.specs.declared.step.StepFault.{StepFault}
use Rattle.btr_engine.specs.declared.step.StepFault.TheVariants as steps
use Rattle.btr_engine.specs.Step.{history_after}
use Rattle.btr_hall.specs.declared.item.Item.{Item}
use Rattle.btr_hall.specs.declared.item.Item.TheVariants.{Added, Halted}
use Rattle.btr_hall.specs.declared.session.Hall.{Hall}
use Rattle.btr_hall.specs.declared.session.Session.{Session}
use Rattle.btr_hall.specs.Trace.{entries_in, history_of}
use Rattle.btr_hall.specs.Session.{IsSame, IsAlone, seen_of, engine_of}
use Rattle.btr_hall.specs.Commit.{shown, item_by, Commits}
use Rattle.btr_hall.proofs.TraceLemmas.{entries_append}
use Rattle.btr_jobs.specs.States.{StoreState, LogState, GoesOn, log_seen, start_of}
use Rattle.btr_jobs.specs.Turns as turns
use Rattle.btr_jobs.specs.TurnLaws.{committed_still}
use Rattle.btr_jobs.specs.Jobs.{Does}
use Rattle.btr_jobs.proofs.RunLemmas.{items_more, now_more}
use Rattle.btr_jobs.proofs.TurnLemmas.{commit_turn_alone}
use Rattle.btr_load.specs.declared.outcome.RowsOutcome.{RowsOutcome}
use Rattle.btr_load.specs.declared.outcome.RowsOutcome.TheVariants.{Output, NotCreated, Committed}
use Rattle.btr_load.specs.declared.stream.LoadedStream.{LoadedStream}
use Rattle.btr_load.specs.Batches.{batches_of}
use Rattle.btr_load.specs.Work.{IsBlank}
use Rattle.btr_load.specs.Loads.{IsCommittedTo, OutcomeOfCreated, CreatesIfNew}
use Rattle.btr_load.specs.Plan.{IsPlanned, settled_outcome, IsStreamSettled, AreStreamsSettled}

-- ---- the history after a turn

-- What the turn of an entry leaves is the history with the entry, or without it.
pub next_is : (start : StoreState) (log : LogState) (p : List Entry) (e : Entry) (result : Result Receipt StepFault) (own : List ℕ) (next : List Entry) → turns.Committed start log p e result own next → next ≡ history_after result p e
next_is start log p e (Ok receipt) own next is = is.2.next
next_is start log p e (Err (steps.Stopped count)) own next is = is.1.next
next_is start log p e (Err steps.Sealed) own next is = is.1.next
next_is start log p e (Err (steps.Rejected why)) own next is = is.1.next
next_is start log p e (Err steps.Want) own next is = is.1.next
next_is start log p e (Err (steps.DeviceFull need left)) own next is = is.2.next
next_is start log p e (Err steps.DeviceFault) own next is = is.1.next

module _ {D : Type 0} {disk : Ghosts D} where
  item_history : (h : List Entry) (before : List (Item D disk)) (e : Entry) (y : Engine D disk) (result : Result Receipt StepFault) → history_of h (before ++ option_to_list (item_by result e y)) ≡ history_after result (history_of h before) e
  item_history h before e y (Ok receipt) =
      ap (λ k. h ++ k) (entries_append before (Added (shown e) (shown y) ∷ [])) ∙ sym (append_assoc h (entries_in before) (e ∷ []))
  item_history h before e y (Err steps.DeviceFault) =
      ap (λ k. h ++ k) (entries_append before (Halted (shown e) (shown y) ∷ []) ∙ append-nil (entries_in before))
  item_history h before e y (Err (steps.Stopped count)) = ap (history_of h) (append-nil before)
  item_history h before e y (Err steps.Sealed) = ap (history_of h) (append-nil before)
  item_history h before e y (Err (steps.Rejected why)) = ap (history_of h) (append-nil before)
  item_history h before e y (Err steps.Want) = ap (history_of h) (append-nil before)
  item_history h before e y (Err (steps.DeviceFull need left)) = ap (history_of h) (append-nil before)

  -- The turn of an entry by a session that is alone: the history goes from what it had seen to what it has then seen.
  pub turn_alone : (hall : Hall D disk) (old new : Session D disk) (e : Entry) (result : Result Receipt StepFault) → IsSame old new → Commits hall old new e result → IsAlone old → Does hall old new (λ start log low own. turns.Committed start log low e result own log.history × turns.SaysSealed start steps.Sealed result)
  turn_alone hall old new e result same commits alone =
      let does = commit_turn_alone hall old new e result same commits alone in (
        does.0,
        does.1,
        λ h of.
            let said = does.2 h of in
            let now : history_of h (seen_of new) ≡ history_after result (history_of h (seen_of old)) e =
            ap (history_of h) commits.seen ∙ item_history h commits.before e (engine_of hall new) result
            ∙ ap (λ l. history_after result (history_of h l) e) (commits.alone alone) in
            let then = next_is (start_of h hall) (log_seen h new) (history_of h (seen_of old)) e result does.0 said.0 said.1 in
            (subst (turns.Committed (start_of h hall) (log_seen h new) (history_of h (seen_of old)) e result does.0) (then ∙ sym now) said.1, said.3),
      )

-- ---- one stream

found_opens : (start : StoreState) (log : LogState) (h p : List Entry) (id : ℕ) (o : Option ℕ) (outcome : RowsOutcome) → is_some o ≡ true → IsPlanned h o outcome → CreatesIfNew start log h p id o outcome [] p
found_opens start log h p id None outcome is planned = absurd (cc)
found_opens start log h p id (Some stream) outcome is planned = (planned, record { own = refl; next = refl })

-- A stream that is there is left as it is.
pub opened_still : (start : StoreState) (log : LogState) (h p : List Entry) (s : LoadedStream) → is_some (stream_of h s.rows.id) ≡ true → IsStreamSettled start log h p s s [] p
opened_still start log h p s is = record {
  rows = refl;
  batch = refl;
  ready = λ ready. ready;
  opens = found_opens start log h p s.rows.id (stream_of h s.rows.id) s.outcome is;
}

settled_ready : (batches : List (List NumberedPoint)) (outcome : RowsOutcome) (result : Result Receipt StepFault) → IsBlank batches outcome → IsBlank batches (settled_outcome outcome result)
settled_ready batches outcome (Err fault) blank = tt
settled_ready batches Output (Ok receipt) blank = blank
settled_ready batches (NotCreated fault) (Ok receipt) blank = blank
settled_ready batches (Committed stream results latest) (Ok receipt) blank = blank

settled_created : (outcome : RowsOutcome) (result : Result Receipt StepFault) → IsCommittedTo 0 0 outcome → OutcomeOfCreated result (settled_outcome outcome result)
settled_created outcome (Err fault) to = refl
settled_created Output (Ok receipt) to = absurd to
settled_created (NotCreated fault) (Ok receipt) to = absurd to
settled_created (Committed stream results latest) (Ok receipt) to = (refl, to.1)

new_opens : (start : StoreState) (log : LogState) (h p : List Entry) (id : ℕ) (o : Option ℕ) (outcome : RowsOutcome) (result : Result Receipt StepFault) (own : List ℕ) (next : List Entry) → is_some o ≡ false → turns.Committed start log p (entries.Create id) result own next → turns.SaysSealed start steps.Sealed result → IsPlanned h o outcome → CreatesIfNew start log h p id o (settled_outcome outcome result) own next
new_opens start log h p id None outcome result own next is turn sealed planned =
    (result, turn, settled_created outcome result planned, sealed)
new_opens start log h p id (Some stream) outcome result own next is turn sealed planned = absurd (cc)

-- A stream that is not there is created, or refused.
pub opened_new : (start : StoreState) (log : LogState) (h p : List Entry) (s : LoadedStream) (result : Result Receipt StepFault) (own : List ℕ) (next : List Entry) → is_some (stream_of h s.rows.id) ≡ false → turns.Committed start log p (entries.Create s.rows.id) result own next → turns.SaysSealed start steps.Sealed result → IsStreamSettled start log h p s (record { rows = s.rows; batch = s.batch; outcome = settled_outcome s.outcome result }) own next
opened_new start log h p s result own next is turn sealed = record {
  rows = refl;
  batch = refl;
  ready = λ ready. record { some = ready.some; blank = settled_ready (batches_of s.batch s.rows.points) s.outcome result ready.blank };
  opens = new_opens start log h p s.rows.id (stream_of h s.rows.id) s.outcome result own next is turn sealed;
}

-- ---- many streams

opens_lasts : (start : StoreState) (late early : LogState) (h p : List Entry) (id : ℕ) (o : Option ℕ) (outcome : RowsOutcome) (own : List ℕ) (next : List Entry) → GoesOn start late early → CreatesIfNew start early h p id o outcome own next → CreatesIfNew start late h p id o outcome own next
opens_lasts start late early h p id (Some stream) outcome own next on opens = opens
opens_lasts start late early h p id None outcome own next on opens =
    (opens.0, committed_still start late early p (entries.Create id) opens.0 own next on opens.1, opens.2, opens.3)

pub opened_lasts : (start : StoreState) (late early : LogState) (h p : List Entry) (was now : LoadedStream) (own : List ℕ) (next : List Entry) → GoesOn start late early → IsStreamSettled start early h p was now own next → IsStreamSettled start late h p was now own next
opened_lasts start late early h p was now own next on opened = record {
  rows = opened.rows;
  batch = opened.batch;
  ready = opened.ready;
  opens = λ planned. opens_lasts start late early h p was.rows.id (stream_of h was.rows.id) now.outcome own next on (opened.opens planned);
}

pub all_opened_last : (start : StoreState) (late early : LogState) (h p : List Entry) (before after : List LoadedStream) (own : List ℕ) (last : List Entry) → GoesOn start late early → AreStreamsSettled start early h p before after own last → AreStreamsSettled start late h p before after own last
all_opened_last start late early h p [] [] own last on all = all
all_opened_last start late early h p [] (now ∷ after) own last on all = absurd all
all_opened_last start late early h p (was ∷ before) [] own last on all = absurd all
all_opened_last start late early h p (was ∷ before) (now ∷ after) own last on all =
    (all.0, all.1, all.2, all.3, opened_lasts start late early h p was now all.0 all.2 on all.4, all_opened_last start late early h all.2 before after all.1 last on all.5)

-- One stream more.
pub opened_push : (start : StoreState) (log : LogState) (h p : List Entry) (before after : List LoadedStream) (own : List ℕ) (mid : List Entry) (was now : LoadedStream) (more : List ℕ) (last : List Entry) → AreStreamsSettled start log h p before after own mid → IsStreamSettled start log h mid was now more last → AreStreamsSettled start log h p (before ++ was ∷ []) (after ++ now ∷ []) (own ++ more) last
opened_push start log h p [] [] own mid was now more last all one =
    (more, [], last, ap (λ l. l ++ more) all.own ∙ sym (append-nil more), subst (λ l. IsStreamSettled start log h l was now more last) all.next one, record { own = refl; next = refl })
opened_push start log h p [] (s ∷ after) own mid was now more last all one = absurd all
opened_push start log h p (s ∷ before) [] own mid was now more last all one = absurd all
opened_push start log h p (s ∷ before) (t ∷ after) own mid was now more last all one =
    (all.0, all.1 ++ more, all.2, ap (λ l. l ++ more) all.3 ∙ append_assoc all.0 all.1 more, all.4, opened_push start log h all.2 before after all.1 mid was now more last all.5 one)

-- One stream more, of lists of which it is the next.
pub opened_step : (start : StoreState) (late early : LogState) (h low : List Entry) (before after : List LoadedStream) (i : ℕ) (was now : LoadedStream) (own more : List ℕ) → i < length after → length after ≡ length before → drop i after ≡ drop i before → was ≡ get_or after i was → GoesOn start late early → AreStreamsSettled start early h low (take i before) (take i after) own early.history → IsStreamSettled start late h early.history was now more late.history → AreStreamsSettled start late h low (take (i + 1) before) (take (i + 1) (set after i now)) (own ++ more) late.history
opened_step start late early h low before after i was now own more inside long rest is on all one =
    let pushed = opened_push start late h low (take i before) (take i after) own early.history was now more late.history (all_opened_last start late early h low (take i before) (take i after) own early.history on all) one in
    subst (λ l. AreStreamsSettled start late h low l (take (i + 1) (set after i now)) (own ++ more) late.history) (items_more before after i was now inside long rest is)
    (subst (λ l. AreStreamsSettled start late h low (take i before ++ was ∷ []) l (own ++ more) late.history) (now_more before after i was now inside long rest is) pushed)
