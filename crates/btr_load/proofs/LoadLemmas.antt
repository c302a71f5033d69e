-- Lemmas on a whole load: what was planned, what the creates made of it, and what the jobs did.
use Rattle.std.specs.Prelude.{◌≡◌, ℕ, List, [], ◌∷◌, ◌++◌, length, Option, Some, None, Result, Ok, Err}
use Rattle.std.proofs.Common.{sym, ap, ◌∙◌, subst}
use Rattle.btr_disk.specs.declared.disk.Disk.{Ghosts}
use Rattle.btr_hist.specs.declared.entry.Entry.{Entry}
use Rattle.btr_hist.specs.declared.kernel.Spec.{Spec}
use Rattle.btr_hist.specs.History.{stream_of, spec_of, latest}
use Rattle.btr_rows.specs.declared.row.NumberedPoint.{NumberedPoint}
use Rattle.btr_rows.specs.declared.row.RefusedRow.{RefusedRow}
use Rattle.btr_rows.specs.Streams.{StreamValue, RowListValue}
use Rattle.btr_streams.specs.declared.board.Receipt.{Receipt}
use Rattle.btr_engine.specs.declared.step.StepFault.{StepFault}
use Rattle.btr_engine.specs.Engine.{IsEngineOf}
use Rattle.btr_gate.proofs.NumberLemmas.{times_append}
use Rattle.btr_hall.specs.declared.session.Hall.{Hall}
use Rattle.btr_hall.specs.declared.session.Session.{Session}
use Rattle.btr_hall.specs.Trace.{history_of}
use Rattle.btr_hall.specs.Session.{Looks, IsAlone, opening_of, seen_of}
use Rattle.btr_jobs.specs.States.{StoreState, LogState, GoesOn}
use Rattle.btr_jobs.specs.Jobs.{AllDid, DidInTurn, Does}
use Rattle.btr_jobs.proofs.InTurnLemmas.{turn_all}
use Rattle.btr_jobs.proofs.TurnLemmas.{look_turn}
use Rattle.btr_load.specs.declared.outcome.RowsOutcome.{RowsOutcome}
use Rattle.btr_load.specs.declared.outcome.RowsOutcome.TheVariants.{Output, NotCreated, Committed}
use Rattle.btr_load.specs.declared.stream.LoadedStream.{LoadedStream}
use Rattle.btr_load.specs.Batches.{batches_of, last_version}
use Rattle.btr_load.specs.Work.{OutcomeDid, StreamsDid, StreamsInTurn, IsBlank, OutcomeWorks, CommitsStream}
use Rattle.btr_load.specs.WorkLaws.{works_lasts, works_lowers}
use Rattle.btr_load.specs.Loads.{IsCommittedTo, OutcomeOfFound, OutcomeOfCreated, CreatesIfNew, CreatesEach, Loads, LoadsInTurn}
use Rattle.btr_load.specs.Plan.{IsPlanned, ArePlanned, AreReady, AreStreamsSettled}
use Rattle.btr_load.proofs.BatchLemmas.{last_blank}
use Rattle.btr_load.proofs.CreateLemmas.{all_opened_last}

-- ---- a look of a session that is alone

module _ {D : Type 0} {disk : Ghosts D} where
  -- It adds nothing, and says a fact of the history that the session had seen.
  pub look_alone : (hall : Hall D disk) (old new : Session D disk) → Looks hall old new → IsAlone old → (Fact : List Entry → Type 0) → ((h : List Entry) → IsEngineOf h (opening_of hall) → Fact (history_of h (seen_of new))) → Does hall old new (λ start log low own. (own ≡ []) × (log.history ≡ low) × Fact low)
  look_alone hall old new looks alone Fact fact =
      let does = look_turn hall old new looks Fact fact in (
        does.0,
        does.1,
        λ h of.
            let same : history_of h (seen_of new) ≡ history_of h (seen_of old) = ap (history_of h) (looks.alone alone) in
            ((does.2 h of).0, same, subst Fact same (fact h of)),
      )

-- ---- the outcomes in the end

module _ (start : StoreState) (log : LogState) (low : List Entry) (batches : List (List NumberedPoint)) where
  still_to : (was now : RowsOutcome) (own : List ℕ) (stream version : ℕ) → IsBlank batches was → OutcomeWorks start log low batches was now own → IsCommittedTo stream version was → IsCommittedTo stream version now
  still_to Output now own stream version blank works to = absurd to
  still_to (NotCreated fault) now own stream version blank works to = absurd to
  still_to (Committed of results first) now own stream version blank works to =
      let same : first ≡ version = to.1 ∙ ap (last_version version) blank ∙ last_blank version (length batches) in
      subst (IsCommittedTo stream version) (sym works.2) (to.0, ap (λ v. last_version v works.0) same)

  still_output : (was now : RowsOutcome) (own : List ℕ) → OutcomeWorks start log low batches was now own → was ≡ Output → now ≡ Output
  still_output Output now own works is = works.0
  still_output (NotCreated fault) now own works is = absurd (cc)
  still_output (Committed of results first) now own works is = absurd (cc)

  still_refused : (was now : RowsOutcome) (own : List ℕ) (fault : StepFault) → OutcomeWorks start log low batches was now own → was ≡ NotCreated fault → now ≡ NotCreated fault
  still_refused Output now own fault works is = absurd (cc)
  still_refused (NotCreated other) now own fault works is = works.0 ∙ is
  still_refused (Committed of results first) now own fault works is = absurd (cc)

  still_found : (h : List Entry) (stream : ℕ) (o : Option Spec) (was now : RowsOutcome) (own : List ℕ) → IsBlank batches was → OutcomeWorks start log low batches was now own → OutcomeOfFound h stream o was → OutcomeOfFound h stream o now
  still_found h stream None was now own blank works to = still_to was now own stream (latest h stream) blank works to
  still_found h stream (Some spec) was now own blank works is = still_output was now own works is

  still_created : (result : Result Receipt StepFault) (was now : RowsOutcome) (own : List ℕ) → IsBlank batches was → OutcomeWorks start log low batches was now own → OutcomeOfCreated result was → OutcomeOfCreated result now
  still_created (Ok receipt) was now own blank works to = still_to was now own receipt.stream 0 blank works to
  still_created (Err fault) was now own blank works is = still_refused was now own fault works is

  -- What became of a stream when its batches were committed is what its id says.
  still_opens : (late : LogState) (h p : List Entry) (id : ℕ) (o : Option ℕ) (was now : RowsOutcome) (own more : List ℕ) (next : List Entry) → IsBlank batches was → OutcomeWorks start log low batches was now more → CreatesIfNew start late h p id o was own next → CreatesIfNew start late h p id o now own next
  still_opens late h p id (Some stream) was now own more next blank works opens =
      (still_found h stream (spec_of h stream) was now more blank works opens.0, opens.1)
  still_opens late h p id None was now own more next blank works opens =
      (opens.0, opens.1, still_created opens.0 was now more blank works opens.2, opens.3)

  -- What was committed of a stream.
  outcome_did : (was now : RowsOutcome) (own : List ℕ) → OutcomeWorks start log low batches was now own → OutcomeDid start log low batches now own
  outcome_did Output now own works = subst (λ f. OutcomeDid start log low batches f own) (sym works.0) works.1
  outcome_did (NotCreated fault) now own works = subst (λ f. OutcomeDid start log low batches f own) (sym works.0) works.1
  outcome_did (Committed stream blank version) now own works =
      subst (λ f. OutcomeDid start log low batches f own) (sym works.2) (works.1, works.3)

-- ---- many streams

pub ready_after : (start : StoreState) (log : LogState) (h p : List Entry) (before after : List LoadedStream) (own : List ℕ) (last : List Entry) → AreStreamsSettled start log h p before after own last → AreReady before → AreReady after
ready_after start log h p [] [] own last all ready = tt
ready_after start log h p [] (now ∷ after) own last all ready = absurd all
ready_after start log h p (was ∷ before) [] own last all ready = absurd all
ready_after start log h p (was ∷ before) (now ∷ after) own last all ready =
    (all.4.ready ready.0, ready_after start log h all.2 before after all.1 last all.5 ready.1)

pub streams_did : (start : StoreState) (log : LogState) (low : List Entry) (before after : List LoadedStream) (own : List ℕ) → AreReady before → AllDid CommitsStream start log low before after own → StreamsDid start log low after own
streams_did start log low [] [] own ready all = all
streams_did start log low [] (now ∷ after) own ready all = absurd all
streams_did start log low (was ∷ before) [] own ready all = absurd all
streams_did start log low (was ∷ before) (now ∷ after) own ready all =
    let works = all.2 in
    let did = outcome_did start log low (batches_of was.batch was.rows.points) was.outcome now.outcome all.0 (works.outcome ready.0) in
    let same : batches_of was.batch was.rows.points ≡ batches_of now.batch now.rows.points =
    λ i. batches_of (sym works.batch i) (sym works.rows i).points in
    (all.0, all.1, subst (λ b. OutcomeDid start log low b now.outcome all.0) same did, streams_did start log low before after all.1 ready.1 all.3, all.4)

pub streams_open : (start : StoreState) (log : LogState) (h p low : List Entry) (batch : ℕ) (rows : List StreamValue) (before after streams : List LoadedStream) (own more : List ℕ) (last : List Entry) → ArePlanned h batch rows before → AreReady after → AreStreamsSettled start log h p before after own last → AllDid CommitsStream start log low after streams more → CreatesEach start log h p batch rows streams own last
streams_open start log h p low batch [] [] [] [] own more last planned ready opened all = opened
streams_open start log h p low batch [] [] [] (s ∷ streams) own more last planned ready opened all = absurd all
streams_open start log h p low batch [] [] (now ∷ after) streams own more last planned ready opened all = absurd opened
streams_open start log h p low batch [] (was ∷ before) after streams own more last planned ready opened all = absurd planned
streams_open start log h p low batch (r ∷ rows) [] after streams own more last planned ready opened all = absurd planned
streams_open start log h p low batch (r ∷ rows) (was ∷ before) [] streams own more last planned ready opened all = absurd opened
streams_open start log h p low batch (r ∷ rows) (was ∷ before) (now ∷ after) [] own more last planned ready opened all = absurd all
streams_open start log h p low batch (r ∷ rows) (was ∷ before) (now ∷ after) (s ∷ streams) own more last planned ready opened all =
    let works = all.2 in
    let one = opened.4 in
    let id : was.rows.id ≡ r.id = ap (λ (v : StreamValue). v.id) planned.0 in
    let opens = one.opens (subst (λ n. IsPlanned h (stream_of h n) was.outcome) (sym id) planned.2) in
    let kept = still_opens start log low (batches_of now.batch now.rows.points) log h p was.rows.id (stream_of h was.rows.id) now.outcome s.outcome opened.0 all.0 opened.2 ready.0.blank (works.outcome ready.0) opens in (
      works.rows ∙ one.rows ∙ planned.0,
      works.batch ∙ one.batch ∙ planned.1,
      opened.0,
      opened.1,
      opened.2,
      opened.3,
      subst (λ n. CreatesIfNew start log h p n (stream_of h n) s.outcome opened.0 opened.2) id kept,
      streams_open start log h opened.2 low batch rows before after streams opened.1 all.1 last planned.3 ready.1 opened.5 all.3,
    )

-- A whole load: the creates, then the jobs.
pub load_is : (start : StoreState) (late early : LogState) (low : List Entry) (rows : RowListValue) (batch : ℕ) (before after streams : List LoadedStream) (refused : List RefusedRow) (own more : List ℕ) → refused ≡ rows.refused → ArePlanned low batch rows.streams before → AreReady before → GoesOn start late early → AreStreamsSettled start early low low before after own early.history → AllDid CommitsStream start late early.history after streams more → Loads start late low rows batch (record { streams = streams; refused = refused }) (own ++ more)
load_is start late early low rows batch before after streams refused own more same planned ready on opened all =
    let later = all_opened_last start late early low low before after own early.history on opened in
    let ready_now = ready_after start late low low before after own early.history later ready in
    record {
      refused = same;
      created = own;
      middle = early.history;
      committed = more;
      opens = streams_open start late low low early.history batch rows.streams before after streams own more early.history planned ready_now later all;
      begins = on.begins;
      commits = streams_did start late early.history after streams more ready_now all;
      own = λ n. times_append n own more;
    }

-- A whole load by one worker: the creates, then the jobs one after another.
streams_turn : (start : StoreState) (late : LogState) (low : List Entry) (before after : List LoadedStream) (own : List ℕ) → AreReady before → DidInTurn CommitsStream start late low before after own → StreamsInTurn start late low after own
streams_turn start late low [] [] own ready turn = turn
streams_turn start late low [] (now ∷ after) own ready turn = absurd turn
streams_turn start late low (was ∷ before) [] own ready turn = absurd turn
streams_turn start late low (was ∷ before) (now ∷ after) own ready turn =
    let works = turn.5 in
    let did = outcome_did start turn.0 low (batches_of was.batch was.rows.points) was.outcome now.outcome turn.3 (works.outcome ready.0) in
    let same : batches_of was.batch was.rows.points ≡ batches_of now.batch now.rows.points =
    λ i. batches_of (sym works.batch i) (sym works.rows i).points in
    (turn.0, turn.1, turn.2, turn.3, turn.4, subst (λ b. OutcomeDid start turn.0 low b now.outcome turn.3) same did, streams_turn start late turn.0.history before after turn.4 ready.1 turn.6, turn.7)

pub load_turn : (start : StoreState) (late early : LogState) (low : List Entry) (rows : RowListValue) (batch : ℕ) (before after streams : List LoadedStream) (refused : List RefusedRow) (own more : List ℕ) → refused ≡ rows.refused → ArePlanned low batch rows.streams before → AreReady before → GoesOn start late early → AreStreamsSettled start early low low before after own early.history → DidInTurn CommitsStream start late early.history after streams more → LoadsInTurn start late low rows batch (record { streams = streams; refused = refused }) (own ++ more)
unfolding load_is
load_turn start late early low rows batch before after streams refused own more same planned ready on opened turn =
    let all = turn_all CommitsStream start works_lowers works_lasts late early.history after streams more turn in
    let ready_now = ready_after start early low low before after own early.history opened ready in
    record {
      loads = load_is start late early low rows batch before after streams refused own more same planned ready on opened all;
      in_turn = streams_turn start late early.history after streams more ready_now turn;
    }
