-- Lemmas on loads: what is said of them, and that what they add is allowed.
use Rattle.std.specs.Prelude.{◌≡◌, ℕ, ◌<◌, ◌≤◌, false, List, [], ◌∷◌, ◌++◌, Option, Some, None, Result, Ok, Err, IfOk, OnErr, IfSome}
use Rattle.std.specs.Result.{result_ok}
use Rattle.std.specs.declared.alloc.AllocError.{AllocError}
use Rattle.std.proofs.Common.{ap, ◌∙◌, subst, arith, ⊎_elim}
use Rattle.btr_disk.specs.declared.disk.Disk.{Ghosts}
use Rattle.btr_hist.specs.declared.entry.Entry.{Entry}
use Rattle.btr_hist.specs.declared.entry.Entry.TheVariants as entries
use Rattle.btr_hist.specs.History.{stream_of}
use Rattle.btr_hist.specs.Legal.{Follows}
use Rattle.btr_hist.proofs.HistoryLemmas.{follows-prefix}
use Rattle.btr_rows.specs.declared.row.NumberedPoint.{NumberedPoint}
use Rattle.btr_rows.specs.Streams.{StreamValue, RowListValue}
use Rattle.btr_streams.specs.declared.board.Receipt.{Receipt}
use Rattle.btr_engine.specs.declared.step.StepFault.{StepFault}
use Rattle.btr_gate.specs.Numbers.{times}
use Rattle.btr_gate.proofs.NumberLemmas.{times_append}
use Rattle.btr_hall.specs.declared.session.Hall.{Hall}
use Rattle.btr_hall.specs.declared.session.Session.{Session}
use Rattle.btr_jobs.specs.States.{StoreState, LogState, GoesOn}
use Rattle.btr_jobs.specs.TurnLaws.{goes_refl}
use Rattle.btr_jobs.specs.Jobs.{Does}
use Rattle.btr_jobs.specs.PlainStore.{RunsThrough}
use Rattle.btr_jobs.proofs.DoesLemmas.{does_implied}
use Rattle.btr_load.specs.declared.outcome.RowsOutcome.{RowsOutcome}
use Rattle.btr_load.specs.declared.outcome.RowsOutcome.TheVariants.{Output, NotCreated, Committed}
use Rattle.btr_load.specs.declared.stream.LoadedStream.{LoadedStream}
use Rattle.btr_load.specs.Batches.{batches_of, batch_entry}
use Rattle.btr_load.specs.Work.{BatchDid, BatchesDid, OutcomeDid, StreamsDid}
use Rattle.btr_load.specs.Loads.{LoadedValue, CreatesIfNew, CreatesEach, Loads, LoadsInTurn}
use Rattle.btr_load.specs.There.{AreDistinct, AreThere}
use Rattle.btr_load.specs.Alike.{IsAlike}
use Rattle.btr_load.specs.InOrder.{IsLoadedInOrder}
use Rattle.btr_load.proofs.ThereLemmas.{batches_there}
use Rattle.btr_load.proofs.AlikeLemmas.{loads_alike}
use Rattle.btr_load.proofs.InOrderLemmas.{loads_in_order}
use Rattle.btr_store.specs.declared.transcript.Transcript.{Transcript}
use Rattle.btr_store.specs.LoadLines.{SaysLoad}
use Rattle.btr_store.specs.Load.{LoadsIf, SaysLoaded, SaysSomeLoad, LoadsRows, LoadsRowsInTurn, ArePlain, HadMemoryForAll, LoadsStore}
use Rattle.btr_store.specs.Work.{AddsAllowed, OwnsEachOnce, Works}
use Rattle.btr_store.proofs.Allowing.{allows_none, allows_nothing, allows_both, allows_committed_later}
use Rattle.btr_store.proofs.LoadCompletes.{load_completes}
use Rattle.btr_store.proofs.WorkLemmas.{works_run}

-- ---- what is said

-- What was said of rows that were loaded.
pub says_loaded : (loaded : LoadedValue) (said : Result Transcript AllocError) → IfOk said (SaysLoad loaded) → SaysLoaded (Some loaded) said
says_loaded loaded (Ok transcript) is = is
says_loaded loaded (Err error) is = tt

module _ {D : Type 0} {disk : Ghosts D} (hall : Hall D disk) (old new : Session D disk) (rows : RowListValue) (batch : ℕ) where
  -- Rows were loaded, or memory ran out before any entry, and this was said of it.
  pub loads_said : (done : Result LoadedValue AllocError) (said : Result Transcript AllocError) → IfOk done (λ loaded. Does hall old new (λ start log low own. Loads start log low rows batch loaded own)) → OnErr done (Does hall old new (λ start log low own. own ≡ [])) → SaysLoaded (result_ok done) said → Does hall old new (λ start log low own. LoadsRows start log low rows batch said own)
  loads_said (Ok loaded) said does refused says =
      does_implied hall old new (λ start log low own. Loads start log low rows batch loaded own) (λ start log low own. LoadsRows start log low rows batch said own)
      (λ start log low own is. record { loaded = Some loaded; loads = is; says = says }) does
  loads_said (Err error) said does refused says =
      does_implied hall old new (λ start log low own. own ≡ []) (λ start log low own. LoadsRows start log low rows batch said own)
      (λ start log low own is. record { loaded = None; loads = is; says = says }) refused

  -- The same of one worker.
  pub turn_said : (done : Result LoadedValue AllocError) (said : Result Transcript AllocError) → IfOk done (λ loaded. Does hall old new (λ start log low own. LoadsInTurn start log low rows batch loaded own)) → OnErr done (Does hall old new (λ start log low own. own ≡ [])) → SaysLoaded (result_ok done) said → Does hall old new (λ start log low own. LoadsRowsInTurn start log low rows batch said own)
  turn_said (Ok loaded) said does refused says =
      does_implied hall old new (λ start log low own. LoadsInTurn start log low rows batch loaded own) (λ start log low own. LoadsRowsInTurn start log low rows batch said own)
      (λ start log low own is. record {
        did = record { loaded = Some loaded; loads = is.loads; says = says };
        in_turn = is;
      }) does
  turn_said (Err error) said does refused says =
      does_implied hall old new (λ start log low own. own ≡ []) (λ start log low own. LoadsRowsInTurn start log low rows batch said own)
      (λ start log low own is. record {
        did = record { loaded = None; loads = is; says = says };
        in_turn = tt;
      }) refused

-- What was said holds of what is said in the end: the same, or that memory ran out.
still_says : (loaded : Option LoadedValue) (said reported : Result Transcript AllocError) → IfOk reported (λ t. said ≡ Ok t) → SaysLoaded loaded said → SaysLoaded loaded reported
still_says loaded said (Err error) is says = tt
still_says loaded said (Ok transcript) is says = subst (λ (s : Result Transcript AllocError). SaysLoaded loaded s) is says

-- What is said in the end is said of a load.
pub says_some : (loaded : Option LoadedValue) (said reported : Result Transcript AllocError) → IfOk reported (λ t. said ≡ Ok t) → SaysLoaded loaded said → IfOk reported SaysSomeLoad
says_some loaded said reported is says = by_loaded loaded reported (still_says loaded said reported is says)
  where
    by_loaded : (loaded : Option LoadedValue) (reported : Result Transcript AllocError) → SaysLoaded loaded reported → IfOk reported SaysSomeLoad
    by_loaded loaded (Err error) says = tt
    by_loaded None (Ok transcript) says = absurd says
    by_loaded (Some value) (Ok transcript) says = (value, says)

pub loads_reported : (start : StoreState) (log : LogState) (low : List Entry) (rows : RowListValue) (batch : ℕ) (said reported : Result Transcript AllocError) (own : List ℕ) → IfOk reported (λ t. said ≡ Ok t) → LoadsRows start log low rows batch said own → LoadsRows start log low rows batch reported own
loads_reported start log low rows batch said reported own is did =
    record { loaded = did.loaded; loads = did.loads; says = still_says did.loaded said reported is did.says }

pub turn_reported : (start : StoreState) (log : LogState) (low : List Entry) (rows : RowListValue) (batch : ℕ) (said reported : Result Transcript AllocError) (own : List ℕ) → IfOk reported (λ t. said ≡ Ok t) → LoadsRowsInTurn start log low rows batch said own → LoadsRowsInTurn start log low rows batch reported own
turn_reported start log low rows batch said reported own is turn = record {
  did = record { loaded = turn.did.loaded; loads = turn.did.loads; says = still_says turn.did.loaded said reported is turn.did.says };
  in_turn = turn.in_turn;
}

-- ---- what is added is allowed

module _ (start : StoreState) (late early : LogState) (on : GoesOn start late early) where
  -- two lists one after the other
  allows_append : (own a b : List ℕ) → own ≡ a ++ b → AddsAllowed late a → AddsAllowed late b → AddsAllowed late own
  allows_append own a b is first second = allows_both late own a b (λ n. ap (times n) is ∙ times_append n a b) first second

  batch_allowed : (low : List Entry) (stream : ℕ) (batch : List NumberedPoint) (result : Result Receipt StepFault) (own : List ℕ) (next : List Entry) → BatchDid start early low (batch_entry stream batch) result own next → AddsAllowed late own
  batch_allowed low stream batch result own next did =
      ⊎_elim
      (λ turn. allows_committed_later start late early turn.0 (batch_entry stream batch) result own next on tt turn.3)
      (λ none. allows_nothing late own none.1.own)
      did

  batches_allowed : (low : List Entry) (stream : ℕ) (batches : List (List NumberedPoint)) (results : List (Result Receipt StepFault)) (own : List ℕ) (last : List Entry) → BatchesDid start early low stream batches results own last → AddsAllowed late own
  batches_allowed low stream [] [] own last did = allows_nothing late own did.own
  batches_allowed low stream [] (result ∷ results) own last did = absurd did
  batches_allowed low stream (batch ∷ batches) [] own last did = absurd did
  batches_allowed low stream (batch ∷ batches) (result ∷ results) own last did =
      allows_append own did.0 did.1 did.3
      (batch_allowed low stream batch result did.0 did.2 did.4)
      (batches_allowed did.2 stream batches results did.1 last did.5)

  outcome_allowed : (low : List Entry) (batches : List (List NumberedPoint)) (outcome : RowsOutcome) (own : List ℕ) → OutcomeDid start early low batches outcome own → AddsAllowed late own
  outcome_allowed low batches Output own did = allows_nothing late own did
  outcome_allowed low batches (NotCreated fault) own did = allows_nothing late own did
  outcome_allowed low batches (Committed stream results latest) own did = batches_allowed low stream batches results own did.0 did.1

  streams_allowed : (low : List Entry) (streams : List LoadedStream) (own : List ℕ) → StreamsDid start early low streams own → AddsAllowed late own
  streams_allowed low [] own did = allows_none late own did
  streams_allowed low (s ∷ streams) own did =
      allows_both late own did.0 did.1 did.4
      (outcome_allowed low (batches_of s.batch s.rows.points) s.outcome did.0 did.2)
      (streams_allowed low streams did.1 did.3)

  open_allowed : (low p : List Entry) (id : ℕ) (stream : Option ℕ) (outcome : RowsOutcome) (own : List ℕ) (next : List Entry) → CreatesIfNew start early low p id stream outcome own next → AddsAllowed late own
  open_allowed low p id None outcome own next opens = allows_committed_later start late early p (entries.Create id) opens.0 own next on tt opens.1
  open_allowed low p id (Some stream) outcome own next opens = allows_nothing late own opens.1.own

  opens_allowed : (low p : List Entry) (batch : ℕ) (rows : List StreamValue) (streams : List LoadedStream) (own : List ℕ) (last : List Entry) → CreatesEach start early low p batch rows streams own last → AddsAllowed late own
  opens_allowed low p batch [] [] own last opens = allows_nothing late own opens.own
  opens_allowed low p batch [] (s ∷ streams) own last opens = absurd opens
  opens_allowed low p batch (r ∷ rows) [] own last opens = absurd opens
  opens_allowed low p batch (r ∷ rows) (s ∷ streams) own last opens =
      allows_append own opens.2 opens.3 opens.5
      (open_allowed low p r.id (stream_of low r.id) s.outcome opens.2 opens.4 opens.6)
      (opens_allowed low opens.4 batch rows streams opens.3 last opens.7)

  all_allowed : (low : List Entry) (rows : RowListValue) (batch : ℕ) (loaded : LoadedValue) (own : List ℕ) → Loads start early low rows batch loaded own → AddsAllowed late own
  all_allowed low rows batch loaded own is =
      allows_both late own is.created is.committed is.own
      (opens_allowed low low batch rows.streams loaded.streams is.created is.middle is.opens)
      (streams_allowed is.middle loaded.streams is.committed is.commits)

-- What a load added is allowed, also in a later state of the log.
pub loads_allowed : (start : StoreState) (late early : LogState) (low : List Entry) (rows : RowListValue) (batch : ℕ) (loaded : LoadedValue) (own : List ℕ) → GoesOn start late early → Loads start early low rows batch loaded own → AddsAllowed late own
loads_allowed start late early low rows batch loaded own on is = all_allowed start late early on low rows batch loaded own is

pub loads_if_allowed : (start : StoreState) (log : LogState) (low : List Entry) (rows : RowListValue) (batch : ℕ) (loaded : Option LoadedValue) (own : List ℕ) → LoadsIf start log low rows batch loaded own → AddsAllowed log own
loads_if_allowed start log low rows batch None own is = allows_nothing log own is
loads_if_allowed start log low rows batch (Some loaded) own is =
    loads_allowed start log log low rows batch loaded own (goes_refl start log) is

-- ---- what the laws of loads say of it, if nobody else added anything

module _ (start : StoreState) (log : LogState) (rows : RowListValue) (batch : ℕ) (own : List ℕ) (each : OwnsEachOnce start log own) (before : Follows start.history) where
  loaded_there : (loaded : Option LoadedValue) → AreDistinct rows.streams → LoadsIf start log start.history rows batch loaded own → IfSome loaded (AreThere log.history start.history)
  loaded_there None distinct is = tt
  loaded_there (Some loaded) distinct is = batches_there start log start.history rows batch loaded own before distinct each is

  loaded_alike : (loaded : Option LoadedValue) → AreDistinct rows.streams → LoadsIf start log start.history rows batch loaded own → IfSome loaded (λ loaded. ArePlain loaded → IsAlike log.history start.history rows.streams batch loaded.streams)
  loaded_alike None distinct is = tt
  loaded_alike (Some loaded) distinct is = λ plain. loads_alike start log start.history rows batch loaded own before distinct each is plain

  loaded_in_order : (loaded : Option LoadedValue) → RunsThrough start log → IfSome loaded (λ loaded. LoadsInTurn start log start.history rows batch loaded own) → IfSome loaded (λ loaded. HadMemoryForAll loaded → IsLoadedInOrder start log rows.streams batch loaded.streams)
  loaded_in_order None ran turn = tt
  loaded_in_order (Some loaded) ran turn = λ memory. loads_in_order start log rows batch loaded own ran each turn memory

  store_loads : (workers : ℕ) (said : Result Transcript AllocError) (is : LoadsRows start log start.history rows batch said own) → (workers ≤ 1 → start.sealed ≡ false → log.failed ≡ None → IfSome is.loaded (λ loaded. HadMemoryForAll loaded → IsLoadedInOrder start log rows.streams batch loaded.streams)) → LoadsStore start log rows batch workers said own
  store_loads workers said is order = record {
    did = is;
    there = λ distinct. loaded_there is.loaded distinct is.loads;
    alike = λ distinct. loaded_alike is.loaded distinct is.loads;
    in_order = order;
    completes = load_completes start log rows batch own is.loaded said before each is.loads is.says;
  }

module _ {D : Type 0} (disk : Ghosts D) (old new : D) (start : StoreState) (log : LogState) (rows : RowListValue) (batch workers : ℕ) (own : List ℕ) (said : Result Transcript AllocError) (works : Works disk start log own old new) where
  begun_follows : Follows start.history
  begun_follows = follows-prefix start.history works.begins.0 (subst Follows works.begins.1 works.follows)

  -- Many workers loaded rows.
  pub loads_store : 1 < workers → LoadsRows start log start.history rows batch said own → LoadsStore start log rows batch workers said own
  loads_store many is =
      store_loads start log rows batch own works.each_once begun_follows workers said is (λ few. absurd (omega (arith, many, few)))

  -- One worker did.
  pub loads_store_in_order : LoadsRowsInTurn start log start.history rows batch said own → LoadsStore start log rows batch workers said own
  loads_store_in_order is =
      store_loads start log rows batch own works.each_once begun_follows workers said is.did
      (λ few unsealed whole. loaded_in_order start log rows batch own works.each_once begun_follows is.did.loaded (works_run disk start log own old new works unsealed whole) is.in_turn)
