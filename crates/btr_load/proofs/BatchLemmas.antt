-- Lemmas on the batches of a list, and on the commits of batches one after another.
use Rattle.std.specs.Prelude.{◌≡◌, ℕ, ◌+◌, ◌-◌, ◌/◌, ◌%◌, ◌<◌, ◌≤◌, min, List, [], ◌∷◌, ◌++◌, length, take, drop, replicate, Result, Ok, Err}
use Rattle.std.specs.Int.{div_ceil}
use Rattle.std.proofs.Common.{zero, suc, refl, sym, ap, ◌∙◌, subst, arith, inl, inr, append_assoc, length-append}
use Rattle.std.proofs.lemmas.List.{append-nil, length-drop, length-replicate}
use Rattle.std.proofs.lemmas.Bool.{cases_lt}
use Rattle.std.proofs.Math.Nat.{add-div_left, mod-eq-sub-mod}
use Rattle.btr_hist.specs.declared.entry.Entry.{Entry}
use Rattle.btr_rows.specs.declared.row.NumberedPoint.{NumberedPoint}
use Rattle.btr_streams.specs.declared.board.Receipt.{Receipt}
use Rattle.btr_engine.specs.declared.step.StepFault.{StepFault}
use Rattle.btr_engine.specs.declared.step.StepFault.TheVariants.{Want}
use Rattle.btr_gate.specs.Prefixes.{StartsWith}
use Rattle.btr_gate.proofs.PrefixLemmas.{starts_trans, starts_refl, starts_append, starts_whole}
use Rattle.btr_jobs.specs.States.{StoreState, LogState, GoesOn}
use Rattle.btr_load.specs.Batches.{some_batches, batches_of, batch_entry, last_version}
use Rattle.btr_load.specs.declared.outcome.RowsOutcome.{RowsOutcome}
use Rattle.btr_load.specs.declared.outcome.RowsOutcome.TheVariants.{Output, NotCreated, Committed}
use Rattle.btr_load.specs.declared.stream.LoadedStream.{LoadedStream}
use Rattle.btr_load.specs.Work.{BatchDid, BatchesDid, OneBatchDid, AllBatchesDid, IsBlank, OutcomeWorks, CommitsStream}
use Rattle.btr_load.specs.Loads.{IsCommittedTo}
use Rattle.btr_load.specs.WorkLaws.{batches_last, batch_lowers}

-- ---- batches

ceil_none : (size : ℕ) → 0 < size → div_ceil 0 size ≡ 0
ceil_none size some = grind (arith)

ceil_one : (n size : ℕ) → 0 < n → n < size → div_ceil n size ≡ 1
ceil_one n size some less = grind (arith)

ceil_more : (n size : ℕ) → 0 < size → size ≤ n → div_ceil n size ≡ suc (div_ceil (n - size) size)
ceil_more n size some low =
    let whole : size + (n - size) ≡ n = omega arith in
    let quotient : n / size ≡ (n - size) / size + 1 = sym (ap (λ k. k / size) whole) ∙ add-div_left (n - size) some in
    let rest : n % size ≡ (n - size) % size = mod-eq-sub-mod low in
    omega (arith, quotient, ap (min 1) rest)

module _ {A : Type 0} where
  -- More room for batches than items changes nothing.
  batches_alike : (n m size : ℕ) (items : List A) → 0 < size → length items ≤ n → length items ≤ m → some_batches n size items ≡ some_batches m size items
  batches_alike zero zero size items some a b = refl
  batches_alike zero (suc m) size [] some a b = refl
  batches_alike zero (suc m) size (item ∷ items) some a b = absurd (omega arith)
  batches_alike (suc n) zero size [] some a b = refl
  batches_alike (suc n) zero size (item ∷ items) some a b = absurd (omega arith)
  batches_alike (suc n) (suc m) size [] some a b = refl
  batches_alike (suc n) (suc m) size (item ∷ items) some a b =
      let left = length-drop size (item ∷ items) in
      ap (λ l. take size (item ∷ items) ∷ l) (batches_alike n m size (drop size (item ∷ items)) some (omega (arith, left)) (omega (arith, left)))

  -- The first batch, and the others.
  pub batches_more : (size : ℕ) (items : List A) → 0 < size → 0 < length items → batches_of size items ≡ take size items ∷ batches_of size (drop size items)
  batches_more size [] some there = absurd (omega arith)
  batches_more size (item ∷ items) some there =
      let left = length-drop size (item ∷ items) in
      ap (λ l. take size (item ∷ items) ∷ l) (batches_alike (length items) (length (drop size (item ∷ items))) size (drop size (item ∷ items)) some (omega (arith, left)) (omega arith))

  some_batches_long : (n size : ℕ) (items : List A) → 0 < size → length items ≤ n → length (some_batches n size items) ≡ div_ceil (length items) size
  some_batches_long zero size [] some low = sym (ceil_none size some)
  some_batches_long zero size (item ∷ items) some low = absurd (omega arith)
  some_batches_long (suc n) size [] some low = sym (ceil_none size some)
  some_batches_long (suc n) size (item ∷ items) some low =
      let left = length-drop size (item ∷ items) in
      let rest = some_batches_long n size (drop size (item ∷ items)) some (omega (arith, left)) in
      let same = ap (λ k. div_ceil k size) left in
      elim (cases_lt (length (item ∷ items)) size) [
        | inl less ↦
            let none : div_ceil (length (item ∷ items) - size) size ≡ 0 = ap (λ k. div_ceil k size) (omega arith) ∙ ceil_none size some in
            omega (arith, rest, same, none, ceil_one (length (item ∷ items)) size (omega arith) less)
        | inr more ↦ omega (arith, rest, same, ceil_more (length (item ∷ items)) size some more)
      ]

  -- The number of batches.
  pub batches_long : (size : ℕ) (items : List A) → 0 < size → length (batches_of size items) ≡ div_ceil (length items) size
  batches_long size items some = some_batches_long (length items) size items some (omega arith)

-- ---- versions

pub last_blank : (version n : ℕ) → last_version version (replicate n (Err Want)) ≡ version
last_blank version zero = refl
last_blank version (suc n) = last_blank version n

pub last_append : (version : ℕ) (results more : List (Result Receipt StepFault)) → last_version version (results ++ more) ≡ last_version (last_version version results) more
last_append version [] more = refl
last_append version (Ok receipt ∷ results) more = last_append receipt.version results more
last_append version (Err fault ∷ results) more = last_append version results more

-- ---- the commits of batches

-- Each batch has a result.
pub did_long : (start : StoreState) (log : LogState) (low : List Entry) (stream : ℕ) (batches : List (List NumberedPoint)) (results : List (Result Receipt StepFault)) (own : List ℕ) (last : List Entry) → BatchesDid start log low stream batches results own last → length batches ≡ length results
did_long start log low stream [] [] own last did = refl
did_long start log low stream [] (result ∷ results) own last did = absurd did
did_long start log low stream (batch ∷ batches) [] own last did = absurd did
did_long start log low stream (batch ∷ batches) (result ∷ results) own last did =
    ap (λ n. suc n) (did_long start log did.2 stream batches results did.1 last did.5)

-- One batch more.
pub batches_push : (start : StoreState) (log : LogState) (low : List Entry) (stream : ℕ) (batches : List (List NumberedPoint)) (results : List (Result Receipt StepFault)) (own : List ℕ) (mid : List Entry) (batch : List NumberedPoint) (result : Result Receipt StepFault) (more : List ℕ) (last : List Entry) → BatchesDid start log low stream batches results own mid → BatchDid start log mid (batch_entry stream batch) result more last → BatchesDid start log low stream (batches ++ batch ∷ []) (results ++ result ∷ []) (own ++ more) last
batches_push start log low stream [] [] own mid batch result more last did one =
    (more, [], last, ap (λ l. l ++ more) did.own ∙ sym (append-nil more), subst (λ l. BatchDid start log l (batch_entry stream batch) result more last) did.next one, record { own = refl; next = refl })
batches_push start log low stream [] (reported ∷ results) own mid batch result more last did one = absurd did
batches_push start log low stream (first ∷ batches) [] own mid batch result more last did one = absurd did
batches_push start log low stream (first ∷ batches) (reported ∷ results) own mid batch result more last did one =
    (did.0, did.1 ++ more, did.2, ap (λ l. l ++ more) did.3 ∙ append_assoc did.0 did.1 more, did.4, batches_push start log did.2 stream batches results did.1 mid batch result more last did.5 one)

-- ---- some of the batches of a stream

-- The batches that have these results were committed, if there are this many. `rest` are the points that are left, and what the last
-- batch had seen has happened.
pub record IsDone (start : StoreState) (log : LogState) (low : List Entry) (stream size : ℕ) (points rest : List NumberedPoint) (results : List (Result Receipt StepFault)) (own : List ℕ) : Type 0 where
  pub done : List (List NumberedPoint)
  pub last : List Entry
  pub all : done ++ batches_of size rest ≡ batches_of size points
  pub did : BatchesDid start log low stream done results own last
  pub seen : StartsWith log.history last

abbrev pub SomeDone : StoreState → LogState → List Entry → ℕ → ℕ → List NumberedPoint → List NumberedPoint → List (Result Receipt StepFault) → List ℕ → Type 0
SomeDone start log low stream size points rest results own =
    0 < size → length results ≤ length (batches_of size points) → IsDone start log low stream size points rest results own

-- None of them.
pub done_none : (start : StoreState) (log : LogState) (stream size : ℕ) (points : List NumberedPoint) → SomeDone start log log.history stream size points points [] []
done_none start log stream size points some low = record {
  done = [];
  last = log.history;
  all = refl;
  did = record { own = refl; next = refl };
  seen = starts_refl log.history;
}

-- If a batch is left a point is left.
left_there : (size : ℕ) (rest : List NumberedPoint) → 0 < length (batches_of size rest) → 0 < length rest
left_there size [] some = some
left_there size (point ∷ rest) some = omega arith

-- One more of them.
pub done_push : (start : StoreState) (late early : LogState) (low : List Entry) (stream size : ℕ) (points rest : List NumberedPoint) (results : List (Result Receipt StepFault)) (result : Result Receipt StepFault) (own more : List ℕ) → GoesOn start late early → SomeDone start early low stream size points rest results own → OneBatchDid start late early.history stream (take size rest) result more → SomeDone start late low stream size points (drop size rest) (results ++ result ∷ []) (own ++ more)
done_push start late early low stream size points rest results result own more on was one some fits =
    let push = length-append results (result ∷ []) in
    let old = was some (omega (arith, fits, push)) in
    let long = did_long start early low stream old.done results own old.last old.did in
    let all = ap (length {A = List NumberedPoint}) old.all in
    let both = length-append old.done (batches_of size rest) in
    let there = left_there size rest (omega (arith, long, all, both, fits, push)) in
    let next = batches_more size rest some there in
    let lower = batch_lowers start late early.history old.last (batch_entry stream (take size rest)) result more one.0 old.seen one.1 in
    record {
      done = old.done ++ take size rest ∷ [];
      last = lower.0;
      all = append_assoc old.done (take size rest ∷ []) (batches_of size (drop size rest)) ∙ ap (λ l. old.done ++ l) (sym next) ∙ old.all;
      did = batches_push start late low stream old.done results own old.last (take size rest) result more lower.0 (batches_last start late early low stream old.done results own old.last on old.did) lower.2;
      seen = starts_trans late.history one.0 lower.0 one.2 lower.1;
    }

-- All of them.
pub done_all : (start : StoreState) (log : LogState) (low : List Entry) (stream size : ℕ) (points rest : List NumberedPoint) (places results : List (Result Receipt StepFault)) (own : List ℕ) → length results ≡ length places → SomeDone start log low stream size points rest results own → AllBatchesDid start log low stream size points places results own
done_all start log low stream size points rest places results own long was some places_long =
    let all = was some (omega (arith, long, places_long)) in
    let each = did_long start log low stream all.done results own all.last all.did in
    let same = ap (length {A = List NumberedPoint}) all.all in
    let whole : all.done ++ batches_of size rest ≡ all.done =
    starts_whole (all.done ++ batches_of size rest) all.done (starts_append all.done (batches_of size rest)) (omega (arith, same, long, places_long, each)) in
    (all.last, subst (λ b. BatchesDid start log low stream b results own all.last) (sym whole ∙ all.all) all.did)

-- The same of a batch and of lists that are these.
pub done_step : (start : StoreState) (late early : LogState) (low : List Entry) (stream size : ℕ) (points rest here after : List NumberedPoint) (results reported : List (Result Receipt StepFault)) (result : Result Receipt StepFault) (own more : List ℕ) → here ≡ take size rest → after ≡ drop size rest → reported ≡ results ++ result ∷ [] → GoesOn start late early → SomeDone start early low stream size points rest results own → OneBatchDid start late early.history stream here result more → SomeDone start late low stream size points after reported (own ++ more)
done_step start late early low stream size points rest here after results reported result own more is_here is_after is_reported on was one =
    subst (λ l. SomeDone start late low stream size points after l (own ++ more)) (sym is_reported)
    (subst (λ l. SomeDone start late low stream size points l (results ++ result ∷ []) (own ++ more)) (sym is_after)
    (done_push start late early low stream size points rest results result own more on was (subst (λ l. OneBatchDid start late early.history stream l result more) is_here one)))

-- ---- the job of a stream

outcome_still : (start : StoreState) (log : LogState) (low : List Entry) (batches : List (List NumberedPoint)) (outcome : RowsOutcome) → ((stream : ℕ) (results : List (Result Receipt StepFault)) (latest : ℕ) → outcome ≡ Committed stream results latest → ⊥) → OutcomeWorks start log low batches outcome outcome []
outcome_still start log low batches Output other = (refl, refl)
outcome_still start log low batches (NotCreated fault) other = (refl, refl)
outcome_still start log low batches (Committed stream results latest) other = absurd (other stream results latest refl)

-- Nothing is done of rows that are not committed.
pub works_still : (start : StoreState) (log : LogState) (low : List Entry) (s : LoadedStream) → ((stream : ℕ) (results : List (Result Receipt StepFault)) (latest : ℕ) → s.outcome ≡ Committed stream results latest → ⊥) → CommitsStream start log low s s []
works_still start log low s other = record {
  rows = refl;
  batch = refl;
  outcome = λ ready. outcome_still start log low (batches_of s.batch s.rows.points) s.outcome other;
}

-- The batches of a stream that was planned so were committed.
pub works_done : (start : StoreState) (log : LogState) (low : List Entry) (was : LoadedStream) (stream version : ℕ) (places results : List (Result Receipt StepFault)) (latest : ℕ) (own : List ℕ) → was.outcome ≡ Committed stream places version → latest ≡ last_version version results → AllBatchesDid start log low stream was.batch was.rows.points places results own → CommitsStream start log low was (record { rows = was.rows; batch = was.batch; outcome = Committed stream results latest }) own
works_done start log low was stream version places results latest own is last did = record {
  rows = refl;
  batch = refl;
  outcome = λ ready.
      let batches = batches_of was.batch was.rows.points in
      let blank : places ≡ replicate (length batches) (Err Want) = subst (IsBlank batches) is ready.blank in
      let all = did ready.some (ap (length {A = Result Receipt StepFault}) blank ∙ length-replicate (length batches) (Err Want)) in
      subst (λ f. OutcomeWorks start log low batches f (Committed stream results latest) own) (sym is)
      (results, all.0, ap (λ v. Committed stream results v) last, all.1);
}

-- Rows before any commit.
pub blank_is : (stream version n : ℕ) (blank : List (Result Receipt StepFault)) → blank ≡ replicate n (Err Want) → IsCommittedTo stream version (Committed stream blank version)
blank_is stream version n blank is = (refl, sym (ap (last_version version) is ∙ last_blank version n))
