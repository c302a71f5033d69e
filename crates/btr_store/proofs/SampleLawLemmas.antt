-- Lemmas on the parts of a sample: each has just the numbers of its time, so the laws of loads and reports hold of it.
use Rattle.std.specs.Prelude.{◌≡◌, ℕ, ◌+◌, ◌<◌, ◌≤◌, ◌==◌, Bool, true, false, ◌||◌, List, [], ◌∷◌, ◌++◌, length, Option, Some, None, Result, Ok, Err, IfSome}
use Rattle.std.specs.Option.{is_some}
use Rattle.std.specs.declared.alloc.AllocError.{AllocError}
use Rattle.std.proofs.Common.{refl, sym, ap, ◌∙◌, subst, arith, length-append, ⊎_elim}
use Rattle.std.proofs.lemmas.Bool.{eqb-true, cases_lt}
use Rattle.btr_hist.specs.declared.entry.Entry.{Entry}
use Rattle.btr_hist.specs.declared.entry.Entry.TheVariants as entries
use Rattle.btr_hist.specs.History.{stream_of}
use Rattle.btr_hist.specs.Legal.{Legal, Follows}
use Rattle.btr_hist.proofs.HistoryLemmas.{follows-prefix, legal-none}
use Rattle.btr_rows.specs.declared.row.NumberedPoint.{NumberedPoint}
use Rattle.btr_rows.specs.Rows.{good_rows, rows_of}
use Rattle.btr_rows.specs.Sample.{sample_text}
use Rattle.btr_rows.specs.Streams.{StreamValue, RowListValue}
use Rattle.btr_text.specs.declared.reply.Reason.{Reason}
use Rattle.btr_streams.specs.declared.board.Receipt.{Receipt}
use Rattle.btr_engine.specs.declared.step.StepFault.{StepFault}
use Rattle.btr_engine.specs.declared.step.StepFault.TheVariants as steps
use Rattle.btr_gate.specs.Numbers.{one, times, given}
use Rattle.btr_gate.specs.Prefixes.{StartsWith}
use Rattle.btr_gate.proofs.NumberLemmas.{times_append, given_inside, given_below, given_above}
use Rattle.btr_gate.proofs.PrefixLemmas.{starts_length}
use Rattle.btr_jobs.specs.States.{StoreState, LogState, GoesOn}
use Rattle.btr_jobs.specs.Turns.{IsIdle, Committed}
use Rattle.btr_load.specs.declared.outcome.RowsOutcome.{RowsOutcome}
use Rattle.btr_load.specs.declared.outcome.RowsOutcome.TheVariants.{Output, NotCreated, Committed as CommittedTo}
use Rattle.btr_load.specs.declared.stream.LoadedStream.{LoadedStream}
use Rattle.btr_load.specs.Batches.{batches_of, batch_entry}
use Rattle.btr_load.specs.Work.{BatchDid, BatchesDid, OutcomeDid, StreamsDid}
use Rattle.btr_load.specs.Loads.{LoadedValue, CreatesIfNew, CreatesEach, Loads}
use Rattle.btr_load.specs.There.{OnlyOwn, AreDistinct, AreThere}
use Rattle.btr_load.specs.Alike.{IsAlike}
use Rattle.btr_load.proofs.RowLemmas.{streams_distinct}
use Rattle.btr_load.proofs.ThereLemmas.{batches_there}
use Rattle.btr_load.proofs.FitLemmas.{loads_fit}
use Rattle.btr_load.proofs.AlikeLemmas as load
use Rattle.btr_work.specs.declared.report.RefreshLine.{RefreshLine}
use Rattle.btr_work.specs.Laws.{AreAllSince}
use Rattle.btr_work.proofs.OwnLemmas.{levels-owned}
use Rattle.btr_work.proofs.CurrentLemmas.{refreshed-current}
use Rattle.btr_work.proofs.AlikeLemmas.{refreshed-alike}
use Rattle.btr_store.specs.declared.define.DefinedOutput.{DefinedOutput}
use Rattle.btr_store.specs.declared.sample.TheConstants.{BATCH}
use Rattle.btr_store.specs.declared.transcript.Transcript.{Transcript}
use Rattle.btr_store.specs.Work.{last_number, OwnsEachOnce}
use Rattle.btr_store.specs.Distil.{RefreshesIf, AreCurrent, AreUndisturbed, AreOfOneWorker}
use Rattle.btr_store.specs.Load.{LoadsIf, ArePlain}
use Rattle.btr_store.specs.Define.{output_id, mean_of, DefinesOver, DefinesEach}
use Rattle.btr_store.specs.Completes.{SaysBenign}
use Rattle.btr_store.specs.Sample.{rows_of_sample, Work, SaysSample, Fills, Samples}
use Rattle.btr_store.specs.SampleRoom.{AreOfRows, HasRoomToFill, HasRoomForSample}
use Rattle.btr_store.specs.SampleLaw.{FillsStore, SettlesStore, SamplesStore}
use Rattle.btr_store.proofs.Benign.{sample_benign, used_benign}
use Rattle.btr_store.proofs.LoadCompletes.{loads_ran}
use Rattle.btr_store.proofs.DistilCompletes.{report_calm}
use Rattle.btr_store.proofs.SampleCompletes.{of_rows, defines_none, calm_defines}

-- ---- the numbers of one turn

the_number : (n m : ℕ) → 1 ≤ times n (m ∷ []) → m ≡ n
the_number n m listed =
    elim (m == n) as (λ (b : Bool). (m == n) ≡ b → m ≡ n) [
      | true ↦ λ is. eqb-true m n is
      | false ↦ λ is. absurd (omega (arith, listed, ap one is))
    ] refl

idle_none : (P : Type 0) (p : List Entry) (own : List ℕ) (next : List Entry) → IsIdle p own next → (n : ℕ) → 1 ≤ times n own → P
idle_none P p own next is n some = absurd (omega (arith, some, ap (times n) is.own))

-- The number is that of the entry after the history p.
committed_next : (start : StoreState) (log : LogState) (p : List Entry) (e : Entry) (result : Result Receipt StepFault) (own : List ℕ) (next : List Entry) → Committed start log p e result own next → (n : ℕ) → 1 ≤ times n own → n ≡ length p + 1
committed_next start log p e (Ok receipt) own next is n some = sym (the_number n (length p + 1) (omega (arith, some, ap (times n) is.2.own)))
committed_next start log p e (Err (steps.Stopped count)) own next is n some = idle_none _ p own next is.1 n some
committed_next start log p e (Err steps.Sealed) own next is n some = idle_none _ p own next is.1 n some
committed_next start log p e (Err (steps.Rejected why)) own next is n some = idle_none _ p own next is.1 n some
committed_next start log p e (Err steps.Want) own next is n some = idle_none _ p own next is.1 n some
committed_next start log p e (Err (steps.DeviceFull need left)) own next is n some = idle_none _ p own next is.2 n some
committed_next start log p e (Err steps.DeviceFault) own next is n some = sym (the_number n (length p + 1) (omega (arith, some, ap (times n) is.1.own)))

-- The log has the entry, if the device did not fail.
committed_within : (start : StoreState) (log : LogState) (p : List Entry) (e : Entry) (result : Result Receipt StepFault) (own : List ℕ) (next : List Entry) → log.failed ≡ None → Committed start log p e result own next → (n : ℕ) → 1 ≤ times n own → n ≤ length log.history
committed_within start log p e (Ok receipt) own next runs is n some =
    let at : n ≡ length p + 1 = committed_next start log p e (Ok receipt) own next is n some in
    let long : length (p ++ e ∷ []) ≡ length p + 1 = length-append p (e ∷ []) in
    let below : length (p ++ e ∷ []) ≤ length log.history = starts_length log.history (p ++ e ∷ []) is.2.follows in
    omega (arith, at, long, below)
committed_within start log p e (Err (steps.Stopped count)) own next runs is n some = idle_none _ p own next is.1 n some
committed_within start log p e (Err steps.Sealed) own next runs is n some = idle_none _ p own next is.1 n some
committed_within start log p e (Err (steps.Rejected why)) own next runs is n some = idle_none _ p own next is.1 n some
committed_within start log p e (Err steps.Want) own next runs is n some = idle_none _ p own next is.1 n some
committed_within start log p e (Err (steps.DeviceFull need left)) own next runs is n some = idle_none _ p own next is.2 n some
committed_within start log p e (Err steps.DeviceFault) own next runs is n some =
    let failed : None ≡ Some e = sym runs ∙ is.1.failed in
    absurd (cc)

-- The history does not get shorter in a turn.
committed_grows : (start : StoreState) (log : LogState) (p : List Entry) (e : Entry) (result : Result Receipt StepFault) (own : List ℕ) (next : List Entry) → Committed start log p e result own next → length p ≤ length next
committed_grows start log p e (Ok receipt) own next is = omega (arith, ap (length {A = Entry}) is.2.next, length-append p (e ∷ []))
committed_grows start log p e (Err (steps.Stopped count)) own next is = omega (arith, ap (length {A = Entry}) is.1.next)
committed_grows start log p e (Err steps.Sealed) own next is = omega (arith, ap (length {A = Entry}) is.1.next)
committed_grows start log p e (Err (steps.Rejected why)) own next is = omega (arith, ap (length {A = Entry}) is.1.next)
committed_grows start log p e (Err steps.Want) own next is = omega (arith, ap (length {A = Entry}) is.1.next)
committed_grows start log p e (Err (steps.DeviceFull need left)) own next is = omega (arith, ap (length {A = Entry}) is.2.next)
committed_grows start log p e (Err steps.DeviceFault) own next is = omega (arith, ap (length {A = Entry}) is.1.next)

-- ---- the numbers of a load

-- The log has the entries of these numbers.
abbrev Within : LogState → List ℕ → Type 0
Within log own = (n : ℕ) → 1 ≤ times n own → n ≤ length log.history

within_none : (log : LogState) (own : List ℕ) → ((n : ℕ) → times n own ≡ 0) → Within log own
within_none log own none = λ n some. absurd (omega (arith, some, none n))

within_nothing : (log : LogState) (own : List ℕ) → own ≡ [] → Within log own
within_nothing log own none = within_none log own (λ n. ap (times n) none)

within_both : (log : LogState) (own a b : List ℕ) → ((n : ℕ) → times n own ≡ times n a + times n b) → Within log a → Within log b → Within log own
within_both log own a b sum first second = λ n some.
    ⊎_elim
    (λ (here : 0 < times n a). first n (omega (arith, here)))
    (λ (none : times n a ≤ 0). second n (omega (arith, none, some, sum n)))
    (cases_lt 0 (times n a))

within_append : (log : LogState) (own a b : List ℕ) → own ≡ a ++ b → Within log a → Within log b → Within log own
within_append log own a b is first second = within_both log own a b (λ n. ap (times n) is ∙ times_append n a b) first second

module _ (start : StoreState) (log : LogState) (runs : log.failed ≡ None) where
  batch_within : (low : List Entry) (stream : ℕ) (batch : List NumberedPoint) (result : Result Receipt StepFault) (own : List ℕ) (next : List Entry) → BatchDid start log low (batch_entry stream batch) result own next → Within log own
  batch_within low stream batch result own next did =
      ⊎_elim
      (λ turn n some. committed_within start log turn.0 (batch_entry stream batch) result own next runs turn.3 n some)
      (λ none. within_nothing log own none.1.own)
      did

  batches_within : (low : List Entry) (stream : ℕ) (batches : List (List NumberedPoint)) (results : List (Result Receipt StepFault)) (own : List ℕ) (last : List Entry) → BatchesDid start log low stream batches results own last → Within log own
  batches_within low stream [] [] own last did = within_nothing log own did.own
  batches_within low stream [] (result ∷ results) own last did = absurd did
  batches_within low stream (batch ∷ batches) [] own last did = absurd did
  batches_within low stream (batch ∷ batches) (result ∷ results) own last did =
      within_append log own did.0 did.1 did.3
      (batch_within low stream batch result did.0 did.2 did.4)
      (batches_within did.2 stream batches results did.1 last did.5)

  outcome_within : (low : List Entry) (batches : List (List NumberedPoint)) (outcome : RowsOutcome) (own : List ℕ) → OutcomeDid start log low batches outcome own → Within log own
  outcome_within low batches Output own did = within_nothing log own did
  outcome_within low batches (NotCreated fault) own did = within_nothing log own did
  outcome_within low batches (CommittedTo stream results latest) own did = batches_within low stream batches results own did.0 did.1

  streams_within : (low : List Entry) (streams : List LoadedStream) (own : List ℕ) → StreamsDid start log low streams own → Within log own
  streams_within low [] own did = within_none log own did
  streams_within low (s ∷ streams) own did =
      within_both log own did.0 did.1 did.4
      (outcome_within low (batches_of s.batch s.rows.points) s.outcome did.0 did.2)
      (streams_within low streams did.1 did.3)

  open_within : (low p : List Entry) (id : ℕ) (stream : Option ℕ) (outcome : RowsOutcome) (own : List ℕ) (next : List Entry) → CreatesIfNew start log low p id stream outcome own next → Within log own
  open_within low p id None outcome own next opens = λ n some. committed_within start log p (entries.Create id) opens.0 own next runs opens.1 n some
  open_within low p id (Some stream) outcome own next opens = within_nothing log own opens.1.own

  opens_within : (low p : List Entry) (batch : ℕ) (rows : List StreamValue) (streams : List LoadedStream) (own : List ℕ) (last : List Entry) → CreatesEach start log low p batch rows streams own last → Within log own
  opens_within low p batch [] [] own last opens = within_nothing log own opens.own
  opens_within low p batch [] (s ∷ streams) own last opens = absurd opens
  opens_within low p batch (r ∷ rows) [] own last opens = absurd opens
  opens_within low p batch (r ∷ rows) (s ∷ streams) own last opens =
      within_append log own opens.2 opens.3 opens.5
      (open_within low p r.id (stream_of low r.id) s.outcome opens.2 opens.4 opens.6)
      (opens_within low opens.4 batch rows streams opens.3 last opens.7)

  loads_within : (low : List Entry) (rows : RowListValue) (batch : ℕ) (loaded : Option LoadedValue) (own : List ℕ) → LoadsIf start log low rows batch loaded own → Within log own
  loads_within low rows batch None own is = within_nothing log own is
  loads_within low rows batch (Some loaded) own is =
      within_both log own is.created is.committed is.own
      (opens_within low low batch rows.streams loaded.streams is.created is.middle is.opens)
      (streams_within is.middle loaded.streams is.committed is.commits)

  -- ---- the numbers of the definitions

  over_within : (p : List Entry) (id : ℕ) (input : Option ℕ) (refused : Option Reason) (own : List ℕ) (next : List Entry) → DefinesOver start log p id input refused own next → Within log own
  over_within p id None refused own next is = within_nothing log own is.1.own
  over_within p id (Some input) refused own next is = λ n some. committed_within start log p (entries.Define id (mean_of input)) is.0 own next runs is.1 n some

  defines_within : (p : List Entry) (stream : ℕ) (outputs : List DefinedOutput) (own : List ℕ) (last : List Entry) → DefinesEach start log p stream outputs own last → Within log own
  defines_within p stream [] own last is = within_nothing log own is.own
  defines_within p stream (output ∷ outputs) own last is =
      within_append log own is.0 is.1 is.3
      (over_within p (output_id stream) (stream_of p (stream + 1)) output.refused is.0 is.2 is.4.1)
      (defines_within is.2 (stream + 1) outputs is.1 last is.5)

module _ (start : StoreState) (log : LogState) where
  over_above : (p : List Entry) (id : ℕ) (input : Option ℕ) (refused : Option Reason) (own : List ℕ) (next : List Entry) → DefinesOver start log p id input refused own next → (n : ℕ) → 1 ≤ times n own → length p < n
  over_above p id None refused own next is n some = idle_none (length p < n) p own next is.1 n some
  over_above p id (Some input) refused own next is n some = omega (arith, committed_next start log p (entries.Define id (mean_of input)) is.0 own next is.1 n some)

  over_grows : (p : List Entry) (id : ℕ) (input : Option ℕ) (refused : Option Reason) (own : List ℕ) (next : List Entry) → DefinesOver start log p id input refused own next → length p ≤ length next
  over_grows p id None refused own next is = omega (arith, ap (length {A = Entry}) is.1.next)
  over_grows p id (Some input) refused own next is = committed_grows start log p (entries.Define id (mean_of input)) is.0 own next is.1

  -- The numbers are those after the history p.
  defines_above : (p : List Entry) (stream : ℕ) (outputs : List DefinedOutput) (own : List ℕ) (last : List Entry) → DefinesEach start log p stream outputs own last → (n : ℕ) → 1 ≤ times n own → length p < n
  defines_above p stream [] own last is n some = idle_none (length p < n) p own last is n some
  defines_above p stream (output ∷ outputs) own last is n some =
      let first : List ℕ = is.0 in
      let sum : times n own ≡ times n first + times n is.1 = ap (times n) is.3 ∙ times_append n first is.1 in
      ⊎_elim
      (λ (here : 0 < times n first). over_above p (output_id stream) (stream_of p (stream + 1)) output.refused first is.2 is.4.1 n (omega (arith, here)))
      (λ (none : times n first ≤ 0).
      omega (arith, defines_above is.2 (stream + 1) outputs is.1 last is.5 n (omega (arith, none, some, sum)), over_grows p (output_id stream) (stream_of p (stream + 1)) output.refused first is.2 is.4.1))
      (cases_lt 0 (times n first))

-- ---- the numbers of what was added for outputs

refreshes_above : (start : StoreState) (log : LogState) (low : List Entry) (report : Option (List RefreshLine)) (own : List ℕ) → RefreshesIf start log low report own → (n : ℕ) → 1 ≤ times n own → length low < n
refreshes_above start log low None own is n some = absurd (omega (arith, some, is n))
refreshes_above start log low (Some report) own is n some =
    let owned = levels-owned start is.result is.seen is.levels log own is.refreshes n (omega (arith, some)) in
    omega (arith, owned.2.above, starts_length is.seen low is.after)

-- ---- each part has the numbers of its time

either : (a b : Bool) → b ≡ true → (a || b) ≡ true
either true b is = refl
either false b is = is

-- If the device had not failed then, it had not failed before.
runs_before : (start : StoreState) (late early : LogState) → GoesOn start late early → late.failed ≡ None → early.failed ≡ None
runs_before start late early on runs = by_failed early.failed refl
  where
    by_failed : (failed : Option Entry) → early.failed ≡ failed → early.failed ≡ None
    by_failed None is = is
    by_failed (Some e) is =
        let stops : is_some early.failed ≡ true = ap is_some is in
        let same : late ≡ early = on.ends (either start.stopped (is_some early.failed) stops) in
        sym (ap (λ (c : LogState). c.failed) same) ∙ runs

-- No number after the end of a state of the log that runs.
last_of : (log : LogState) → log.failed ≡ None → last_number log ≡ length log.history
last_of log runs =
    let none : one (is_some log.failed) ≡ 0 = ap (λ (o : Option Entry). one (is_some o)) runs in
    omega (arith, none)

-- The numbers up to a middle one, and those after it, are of two parts.
first_part : (low middle last : ℕ) (a b : ℕ → ℕ) → low ≤ middle → middle ≤ last → ((n : ℕ) → a n + b n ≡ given low last n) → ((n : ℕ) → 1 ≤ a n → n ≤ middle) → ((n : ℕ) → 1 ≤ b n → middle < n) → (n : ℕ) → a n ≡ given low middle n
first_part low middle last a b up on sum within above n =
    ⊎_elim
    (λ (after : middle < n).
    let none : a n ≤ 0 = ⊎_elim (λ (some : 0 < a n). absurd (omega (arith, after, within n (omega (arith, some))))) (λ (no : a n ≤ 0). no) (cases_lt 0 (a n)) in
    let zero : given low middle n ≡ 0 = given_above low middle n after in
    omega (arith, none, zero))
    (λ (before : n ≤ middle).
    let none : b n ≤ 0 = ⊎_elim (λ (some : 0 < b n). absurd (omega (arith, before, above n (omega (arith, some))))) (λ (no : b n ≤ 0). no) (cases_lt 0 (b n)) in
    ⊎_elim
    (λ (here : low < n).
    let whole : given low last n ≡ 1 = given_inside low last n here (omega (arith, before, on)) in
    let part : given low middle n ≡ 1 = given_inside low middle n here before in
    omega (arith, none, sum n, whole, part))
    (λ (below : n ≤ low).
    let whole : given low last n ≡ 0 = given_below low last n below in
    let part : given low middle n ≡ 0 = given_below low middle n below in
    omega (arith, none, sum n, whole, part))
    (cases_lt low n))
    (cases_lt middle n)

second_part : (low middle last : ℕ) (a b : ℕ → ℕ) → low ≤ middle → ((n : ℕ) → a n + b n ≡ given low last n) → ((n : ℕ) → 1 ≤ a n → n ≤ middle) → ((n : ℕ) → 1 ≤ b n → middle < n) → (n : ℕ) → b n ≡ given middle last n
second_part low middle last a b up sum within above n =
    ⊎_elim
    (λ (after : middle < n).
    let none : a n ≤ 0 = ⊎_elim (λ (some : 0 < a n). absurd (omega (arith, after, within n (omega (arith, some))))) (λ (no : a n ≤ 0). no) (cases_lt 0 (a n)) in
    ⊎_elim
    (λ (past : last < n).
    let whole : given low last n ≡ 0 = given_above low last n past in
    let part : given middle last n ≡ 0 = given_above middle last n past in
    omega (arith, none, sum n, whole, part))
    (λ (here : n ≤ last).
    let whole : given low last n ≡ 1 = given_inside low last n (omega (arith, after, up)) here in
    let part : given middle last n ≡ 1 = given_inside middle last n after here in
    omega (arith, none, sum n, whole, part))
    (cases_lt last n))
    (λ (before : n ≤ middle).
    let none : b n ≤ 0 = ⊎_elim (λ (some : 0 < b n). absurd (omega (arith, before, above n (omega (arith, some))))) (λ (no : b n ≤ 0). no) (cases_lt 0 (b n)) in
    let part : given middle last n ≡ 0 = given_below middle last n before in
    omega (arith, none, part))
    (cases_lt middle n)

-- ---- the laws

module _ (number streams points : ℕ) (start : StoreState) (log : LogState) (own : List ℕ) (each : (n : ℕ) → times n own ≡ given 0 (last_number log) n) (follows : Follows log.history) (legal : Legal log.history) where
  abbrev rows : RowListValue
  rows = rows_of_sample number streams points

  distinct : AreDistinct rows.streams
  distinct = streams_distinct (good_rows (rows_of (sample_text number streams points)))

  module _ (loaded : Option LoadedValue) (outputs : List DefinedOutput) (report : Option (List RefreshLine)) (work : Work number streams points start log [] loaded outputs report own) where
    abbrev a : ℕ → ℕ
    a n = times n work.load_own

    abbrev b : ℕ → ℕ
    b n = times n work.define_own

    abbrev c : ℕ → ℕ
    c n = times n work.refresh_own

    abbrev loads_end : ℕ
    loads_end = length work.load_end.history

    abbrev defines_end : ℕ
    defines_end = length work.define_end.history

    rises : loads_end ≤ defines_end
    rises = starts_length work.define_end.history work.load_end.history work.load_first.begins

    ends : defines_end ≤ last_number log
    ends = omega (arith, starts_length log.history work.define_end.history work.define_first.begins)

    above_load : (n : ℕ) → 1 ≤ b n + c n → loads_end < n
    above_load n some =
        ⊎_elim
        (λ (here : 0 < b n). defines_above start work.define_end work.load_end.history 0 outputs work.define_own work.define_end.history work.defines n (omega (arith, here)))
        (λ (none : b n ≤ 0).
        omega (arith, rises, refreshes_above start log work.define_end.history report work.refresh_own work.refreshes n (omega (arith, none, some))))
        (cases_lt 0 (b n))

    only_load : work.load_end.failed ≡ None → OnlyOwn work.load_end [] work.load_own
    only_load runs n =
        let part : a n ≡ given 0 loads_end n = first_part 0 loads_end (last_number log) a (λ m. b m + c m) (omega arith) (omega (arith, rises, ends))
        (λ m. omega (arith, each m, work.own m))
        (loads_within start work.load_end runs [] rows BATCH loaded work.load_own work.loads) above_load n in
        part ∙ ap (λ m. given 0 m n) (sym (last_of work.load_end runs))

    below_bring : work.define_end.failed ≡ None → (n : ℕ) → 1 ≤ a n + b n → n ≤ defines_end
    below_bring runs n some =
        ⊎_elim
        (λ (here : 0 < a n).
        omega (arith, rises, loads_within start work.load_end (runs_before start work.define_end work.load_end work.load_first runs) [] rows BATCH loaded work.load_own work.loads n (omega (arith, here))))
        (λ (none : a n ≤ 0).
        defines_within start work.define_end runs work.load_end.history 0 outputs work.define_own work.define_end.history work.defines n (omega (arith, none, some)))
        (cases_lt 0 (a n))

    since_defines : work.define_end.failed ≡ None → AreAllSince work.define_end.history log work.refresh_own
    since_defines runs n =
        second_part 0 defines_end (last_number log) (λ m. a m + b m) c (omega arith)
        (λ m. omega (arith, each m, work.own m))
        (below_bring runs)
        (refreshes_above start log work.define_end.history report work.refresh_own work.refreshes) n

  loaded_there : (log : LogState) (loaded : Option LoadedValue) (numbers : List ℕ) → OnlyOwn log [] numbers → LoadsIf start log [] rows BATCH loaded numbers → IfSome loaded (AreThere log.history [])
  loaded_there end None numbers only is = tt
  loaded_there end (Some loaded) numbers only is = batches_there start end [] rows BATCH loaded numbers (follows-prefix [] log.history follows) distinct only is

  loaded_alike : (log : LogState) (loaded : Option LoadedValue) (numbers : List ℕ) → OnlyOwn log [] numbers → LoadsIf start log [] rows BATCH loaded numbers → IfSome loaded (λ loaded. ArePlain loaded → IsAlike log.history [] rows.streams BATCH loaded.streams)
  loaded_alike end None numbers only is = tt
  loaded_alike end (Some loaded) numbers only is = λ plain. load.loads_alike start end [] rows BATCH loaded numbers (follows-prefix [] log.history follows) distinct only is plain

  report_current : (low : List Entry) (report : Option (List RefreshLine)) (numbers : List ℕ) → AreAllSince low log numbers → RefreshesIf start log low report numbers → IfSome report (AreCurrent log.history)
  report_current low None numbers since is = tt
  report_current low (Some report) numbers since is = refreshed-current start log low report numbers is follows since

  report_alike : (low : List Entry) (report : Option (List RefreshLine)) (numbers : List ℕ) → AreAllSince low log numbers → RefreshesIf start log low report numbers → IfSome report (λ report. AreUndisturbed report → AreOfOneWorker log.history low report)
  report_alike low None numbers since is = tt
  report_alike low (Some report) numbers since is = λ undisturbed levels are.
      refreshed-alike start log low report numbers levels is legal since are undisturbed

  fills_store : (said : Result Transcript AllocError) (did : Fills number streams points start log [] said own) → FillsStore number streams points start log [] said own did
  fills_store said did =
      let work = did.work in
      record {
        there = λ runs. loaded_there work.load_end did.loaded work.load_own (only_load did.loaded did.outputs did.report work runs) work.loads;
        loads_alike = λ runs. loaded_alike work.load_end did.loaded work.load_own (only_load did.loaded did.outputs did.report work runs) work.loads;
        current = λ runs. report_current work.define_end.history did.report work.refresh_own (since_defines did.loaded did.outputs did.report work runs) work.refreshes;
        refreshes_alike = λ runs. report_alike work.define_end.history did.report work.refresh_own (since_defines did.loaded did.outputs did.report work runs) work.refreshes;
      }

  -- If there was room, and the device did not fail, no line says that it was full or failed.
  fills_complete : (said : Result Transcript AllocError) → start.history ≡ [] → Fills number streams points start log [] said own → HasRoomToFill number streams points start → log.failed ≡ None → SaysBenign said
  fills_complete said empty did room runs = by_parts did.loaded did.outputs did.report said did.work did.says
    where
      by_parts : (loaded : Option LoadedValue) (outputs : List DefinedOutput) (report : Option (List RefreshLine)) (said : Result Transcript AllocError) → Work number streams points start log [] loaded outputs report own → SaysSample streams log.history loaded outputs report said → SaysBenign said
      by_parts loaded outputs report (Err error) work says = tt
      by_parts None outputs report (Ok transcript) work says = absurd says
      by_parts (Some loaded) outputs None (Ok transcript) work says = absurd says
      by_parts (Some loaded) outputs (Some report) (Ok transcript) work says =
          let defined_runs : work.define_end.failed ≡ None = runs_before start log work.define_end work.define_first runs in
          let loaded_runs : work.load_end.failed ≡ None = runs_before start work.define_end work.load_end work.load_first defined_runs in
          let loads : Loads start work.load_end start.history rows BATCH loaded work.load_own = subst (λ (h : List Entry). Loads start work.load_end h rows BATCH loaded work.load_own) (sym empty) work.loads in
          let only : OnlyOwn work.load_end start.history work.load_own = subst (λ (h : List Entry). OnlyOwn work.load_end h work.load_own) (sym empty) (only_load (Some loaded) outputs (Some report) work loaded_runs) in
          let begins : Follows start.history = subst Follows (sym empty) (follows-prefix [] log.history follows) in
          let fits = loads_fit start work.load_end rows BATCH loaded work.load_own begins distinct only loads room.rows in
          let ran = loads_ran start work.load_end loaded_runs [] rows BATCH loaded work.load_own work.loads in
          let there : AreThere work.load_end.history [] loaded = batches_there start work.load_end [] rows BATCH loaded work.load_own (follows-prefix [] log.history follows) distinct (only_load (Some loaded) outputs (Some report) work loaded_runs) work.loads in
          let of : AreOfRows BATCH rows.streams loaded.streams = of_rows start work.load_end [] [] BATCH rows.streams loaded.streams work.loads.created work.loads.middle work.loads.opens in
          let low : List Entry = work.load_end.history in
          let defined_begins : StartsWith log.history work.define_end.history = work.define_first.begins in
          let defined_follows : Follows work.define_end.history = follows-prefix work.define_end.history defined_begins.0 (subst Follows defined_begins.1 follows) in
          let low_follows : Follows low = follows-prefix low work.load_first.begins.0 (subst Follows work.load_first.begins.1 defined_follows) in
          let defines = calm_defines streams low start work.define_end defined_runs
          (λ m h since lands. room.outputs low m h (loaded, of, there) since lands)
          low 0 outputs work.define_own work.define_end.history (omega (arith, says.0)) (defines_none streams low low_follows) work.defines in
          sample_benign log.history loaded outputs report transcript says.1 fits ran defines.0
          (report_calm start log runs work.define_end.history work.refresh_own (since_defines (Some loaded) outputs (Some report) work defined_runs) follows report work.refreshes
          (λ h lands. room.outputs low work.define_end.history h (loaded, of, there) defines.1 lands))

settles_store : (number streams points : ℕ) (start : StoreState) (log : LogState) (own : List ℕ) (low : List Entry) → ((n : ℕ) → times n own ≡ given (length low) (last_number log) n) → Follows log.history → (Legal low → Legal log.history) → (said : Result Transcript AllocError) (did : Samples number streams points start log low said own) → SettlesStore number streams points start log low said own did
settles_store number streams points start log own [] each follows legal said did =
    fills_store number streams points start log own each follows (legal legal-none) said did
settles_store number streams points start log own (e ∷ low) each follows legal said did = tt

samples_complete : (number streams points : ℕ) (start : StoreState) (log : LogState) (own : List ℕ) (low : List Entry) → start.history ≡ low → ((n : ℕ) → times n own ≡ given (length low) (last_number log) n) → Follows log.history → (Legal low → Legal log.history) → (said : Result Transcript AllocError) → Samples number streams points start log low said own → HasRoomForSample number streams points start → log.failed ≡ None → SaysBenign said
samples_complete number streams points start log own [] is each follows legal said did room runs =
    fills_complete number streams points start log own each follows (legal legal-none) said is did (room is) runs
samples_complete number streams points start log own (e ∷ low) is each follows legal (Err error) did room runs = tt
samples_complete number streams points start log own (e ∷ low) is each follows legal (Ok transcript) did room runs =
    used_benign (length (e ∷ low)) transcript did.says

-- The laws hold of what was done to a store that nobody else used.
pub samples_store : (number streams points : ℕ) (start : StoreState) (log : LogState) (own : List ℕ) → OwnsEachOnce start log own → Follows log.history → (Legal start.history → Legal log.history) → (said : Result Transcript AllocError) → Samples number streams points start log start.history said own → SamplesStore number streams points start log said own
samples_store number streams points start log own each follows legal said did =
    record {
      did = did;
      settles = settles_store number streams points start log own start.history each follows legal said did;
      completes = samples_complete number streams points start log own start.history refl each follows legal said did;
    }
