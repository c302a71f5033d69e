-- If there is room for the rows, and the device does not fail, a load asks for no status of a full device or of a failed one.
use Rattle.std.specs.Prelude.{◌≡◌, ℕ, List, [], ◌∷◌, Option, Some, None, Result, Ok, Err}
use Rattle.std.specs.List.{AllByRecursion}
use Rattle.std.specs.declared.alloc.AllocError.{AllocError}
use Rattle.std.proofs.Common.{sym, subst, inl, inr, ◌∙◌}
use Rattle.btr_hist.specs.declared.entry.Entry.{Entry}
use Rattle.btr_hist.specs.declared.entry.Entry.TheVariants as entries
use Rattle.btr_hist.specs.declared.kernel.Spec.{Spec}
use Rattle.btr_hist.specs.History.{stream_of, spec_of}
use Rattle.btr_hist.specs.Legal.{Follows}
use Rattle.btr_rows.specs.declared.row.NumberedPoint.{NumberedPoint}
use Rattle.btr_rows.specs.Streams.{StreamValue, RowListValue}
use Rattle.btr_streams.specs.declared.board.Receipt.{Receipt}
use Rattle.btr_engine.specs.declared.step.StepFault.{StepFault}
use Rattle.btr_engine.specs.declared.step.StepFault.TheVariants as steps
use Rattle.btr_jobs.specs.States.{StoreState, LogState}
use Rattle.btr_jobs.specs.Turns as turns
use Rattle.btr_load.specs.declared.outcome.RowsOutcome.{RowsOutcome}
use Rattle.btr_load.specs.declared.outcome.RowsOutcome.TheVariants.{Output, NotCreated, Committed}
use Rattle.btr_load.specs.declared.stream.LoadedStream.{LoadedStream}
use Rattle.btr_load.specs.Batches.{batches_of, batch_entry}
use Rattle.btr_load.specs.Work.{BatchDid, BatchesDid, OutcomeDid, StreamsDid}
use Rattle.btr_load.specs.There.{AreDistinct}
use Rattle.btr_load.specs.Loads.{LoadedValue, OutcomeOfFound, OutcomeOfCreated, CreatesIfNew, CreatesEach, Loads}
use Rattle.btr_load.proofs.FitLemmas.{loads_fit}
use Rattle.btr_store.specs.declared.transcript.Transcript.{Transcript}
use Rattle.btr_store.specs.Completes.{SaysBenign, HasRoomForRows}
use Rattle.btr_store.specs.Load.{LoadsIf, SaysLoaded}
use Rattle.btr_store.specs.Work.{OwnsEachOnce}
use Rattle.btr_store.proofs.Benign.{Ran, OutcomeRan, load_benign}

module _ (start : StoreState) (log : LogState) (runs : log.failed ≡ None) where
  pub committed_ran : (p : List Entry) (e : Entry) (result : Result Receipt StepFault) (own : List ℕ) (next : List Entry) → turns.Committed start log p e result own next → Ran result
  committed_ran p e (Ok receipt) own next is = tt
  committed_ran p e (Err (steps.Stopped count)) own next is = tt
  committed_ran p e (Err steps.Sealed) own next is = tt
  committed_ran p e (Err (steps.Rejected why)) own next is = tt
  committed_ran p e (Err steps.Want) own next is = tt
  committed_ran p e (Err (steps.DeviceFull need left)) own next is = tt
  committed_ran p e (Err steps.DeviceFault) own next is =
      let failed : None ≡ Some e = sym runs ∙ is.1.failed in
      absurd (cc)

  batch_ran : (low : List Entry) (e : Entry) (result : Result Receipt StepFault) (own : List ℕ) (next : List Entry) → BatchDid start log low e result own next → Ran result
  batch_ran low e result own next (inl turn) = committed_ran turn.0 e result own next turn.3
  batch_ran low e result own next (inr none) = subst (λ (r : Result Receipt StepFault). Ran r) (sym none.0) tt

  batches_ran : (low : List Entry) (stream : ℕ) (batches : List (List NumberedPoint)) (results : List (Result Receipt StepFault)) (own : List ℕ) (last : List Entry) → BatchesDid start log low stream batches results own last → AllByRecursion Ran results
  batches_ran low stream [] [] own last did = tt
  batches_ran low stream [] (result ∷ results) own last did = absurd did
  batches_ran low stream (batch ∷ batches) [] own last did = absurd did
  batches_ran low stream (batch ∷ batches) (result ∷ results) own last did =
      (batch_ran low (batch_entry stream batch) result did.0 did.2 did.4, batches_ran did.2 stream batches results did.1 last did.5)

  found_ran : (low : List Entry) (stream : ℕ) (o : Option Spec) (fault : StepFault) → OutcomeOfFound low stream o (NotCreated fault) → Ran (Err fault)
  found_ran low stream None fault is = absurd is
  found_ran low stream (Some spec) fault is = absurd (cc)

  made_ran : (p : List Entry) (id : ℕ) (result : Result Receipt StepFault) (own : List ℕ) (next : List Entry) (fault : StepFault) → turns.Committed start log p (entries.Create id) result own next → OutcomeOfCreated result (NotCreated fault) → Ran (Err fault)
  made_ran p id (Ok receipt) own next fault turn is = absurd is
  made_ran p id (Err other) own next fault turn is =
      let same : other ≡ fault = cc in
      subst (λ (f : StepFault). Ran (Err f)) same (committed_ran p (entries.Create id) (Err other) own next turn)

  create_ran : (low p : List Entry) (id : ℕ) (o : Option ℕ) (own : List ℕ) (next : List Entry) (fault : StepFault) → CreatesIfNew start log low p id o (NotCreated fault) own next → Ran (Err fault)
  create_ran low p id (Some stream) own next fault opens = found_ran low stream (spec_of low stream) fault opens.0
  create_ran low p id None own next fault opens = made_ran p id opens.0 own next fault opens.1 opens.2

  outcome_ran : (low p mid : List Entry) (id : ℕ) (o : Option ℕ) (batches : List (List NumberedPoint)) (outcome : RowsOutcome) (created own : List ℕ) (next : List Entry) → CreatesIfNew start log low p id o outcome created next → OutcomeDid start log mid batches outcome own → OutcomeRan outcome
  outcome_ran low p mid id o batches Output created own next opens did = tt
  outcome_ran low p mid id o batches (NotCreated fault) created own next opens did = create_ran low p id o created next fault opens
  outcome_ran low p mid id o batches (Committed stream results latest) created own next opens did =
      batches_ran mid stream batches results own did.0 did.1

  streams_ran : (low p mid : List Entry) (batch : ℕ) (rows : List StreamValue) (streams : List LoadedStream) (created own : List ℕ) (last : List Entry) → CreatesEach start log low p batch rows streams created last → StreamsDid start log mid streams own → AllByRecursion (λ s. OutcomeRan s.outcome) streams
  streams_ran low p mid batch [] [] created own last opens did = tt
  streams_ran low p mid batch [] (s ∷ streams) created own last opens did = absurd opens
  streams_ran low p mid batch (r ∷ rows) [] created own last opens did = absurd opens
  streams_ran low p mid batch (r ∷ rows) (s ∷ streams) created own last opens did = (
    outcome_ran low p mid r.id (stream_of low r.id) (batches_of s.batch s.rows.points) s.outcome opens.2 did.0 opens.4 opens.6 did.2,
    streams_ran low opens.4 mid batch rows streams opens.3 did.1 last opens.7 did.3,
  )

  pub loads_ran : (low : List Entry) (rows : RowListValue) (batch : ℕ) (loaded : LoadedValue) (own : List ℕ) → Loads start log low rows batch loaded own → AllByRecursion (λ s. OutcomeRan s.outcome) loaded.streams
  loads_ran low rows batch loaded own loads =
      streams_ran low low loads.middle batch rows.streams loaded.streams loads.created loads.committed loads.middle loads.opens loads.commits

pub load_completes : (start : StoreState) (log : LogState) (rows : RowListValue) (batch : ℕ) (own : List ℕ) (loaded : Option LoadedValue) (said : Result Transcript AllocError) → Follows start.history → OwnsEachOnce start log own → LoadsIf start log start.history rows batch loaded own → SaysLoaded loaded said → AreDistinct rows.streams → HasRoomForRows start rows batch → log.failed ≡ None → SaysBenign said
load_completes start log rows batch own loaded (Err error) before each loads says distinct room runs = tt
load_completes start log rows batch own None (Ok transcript) before each loads says distinct room runs = absurd says
load_completes start log rows batch own (Some loaded) (Ok transcript) before each loads says distinct room runs =
    load_benign loaded transcript says
    (loads_fit start log rows batch loaded own before distinct each loads room)
    (loads_ran start log runs start.history rows batch loaded own loads)
