-- After a last round each output that it did not refuse is up to date, if the script ran alone and no device failed.
use Rattle.std.specs.Prelude.{◌≡◌, ℕ, zero, suc, ◌+◌, ◌<◌, ◌≤◌, true, List, [], ◌∷◌, length, slice_index_or, Option, Some, None, Result, Ok}
use Rattle.std.specs.Option.{is_some}
use Rattle.std.proofs.Common.{refl, sym, ap, ◌∙◌, subst, arith, inl, inr}
use Rattle.std.proofs.lemmas.Bool.{cases_lt, or_right}
use Rattle.btr_hist.specs.declared.entry.Entry.{Entry}
use Rattle.btr_text.specs.declared.script.ScriptLine.{ScriptLine}
use Rattle.btr_gate.specs.Numbers.{one, total, times, given}
use Rattle.btr_gate.proofs.NumberLemmas.{given_inside, given_below, given_above}
use Rattle.btr_gate.specs.Prefixes.{StartsWith}
use Rattle.btr_gate.proofs.PrefixLemmas.{starts_length}
use Rattle.btr_jobs.specs.States.{StoreState, LogState, GoesOn}
use Rattle.btr_work.specs.Report.{Refreshes}
use Rattle.std.specs.List.{AllByRecursion}
use Rattle.std.specs.declared.alloc.AllocError.{AllocError}
use Rattle.btr_hist.specs.Legal.{Follows}
use Rattle.btr_work.specs.declared.report.RefreshLine.{RefreshLine}
use Rattle.btr_work.specs.Laws.{AreAllSince, IsCurrentIn}
use Rattle.btr_work.proofs.CurrentLemmas.{refreshed-current}
use Rattle.btr_live.specs.declared.live.LiveReport.{LiveReport}
use Rattle.btr_live.specs.OneHistory.{of_lane, lanes_of, lane_lines, RunsLanes, times_all}
use Rattle.btr_live.specs.Live.{LastRound, LastIsCurrent}
use Rattle.btr_live.specs.Lanes.{begun, in_own_feeds}
use Rattle.btr_live.proofs.LandingLemmas.{Landings, refreshes_lands, rounds_land}
use Rattle.btr_live.proofs.NumberBounds.{lines_inside, landing_within}

-- A number that is in one of the lists is in a list at some place.
in_lists : (P : Type 0) (n : ℕ) (lists : List (List ℕ)) → ((k : ℕ) → 1 ≤ times n (slice_index_or lists k []) → P) → 1 ≤ total (times n) lists → P
in_lists P n [] each some = absurd (omega (arith, some))
in_lists P n (l ∷ ls) each some =
    elim (cases_lt 0 (times n l)) [
      | inl here ↦ each 0 here
      | inr none ↦ in_lists P n ls (λ k. each (suc k)) (omega (arith, some, none))
    ]

-- If nothing failed in the end, nothing failed before.
earlier_sound : (start : StoreState) (late early : LogState) → GoesOn start late early → late.failed ≡ None → early.failed ≡ None
earlier_sound start late early on sound = by early.failed refl
  where
    by : (failed : Option Entry) → early.failed ≡ failed → early.failed ≡ None
    by None is = is
    by (Some e) is =
        let same = on.ends (or_right start.stopped (is_some early.failed) (ap is_some is)) in
        let failed : late.failed ≡ Some e = ap (λ (c : LogState). c.failed) same ∙ is in
        absurd (cc)

module _ (batch rounds : ℕ) (start : StoreState) (middle : LogState) (sound : middle.failed ≡ None) (low : List Entry) (script : List ScriptLine) (report : LiveReport) (mine beside : List (List ℕ)) (runs : RunsLanes (in_own_feeds batch) rounds start middle low script report.replies.items mine beside) where
  -- What lanes and rounds added is in the history in the end of the lanes.
  all_inside : (n : ℕ) → 1 ≤ times_all n mine beside → n ≤ length middle.history
  all_inside n some =
      elim (cases_lt 0 (total (times n) mine)) [
        | inl by_lane ↦
            in_lists (n ≤ length middle.history) n mine
            (λ k here. lines_inside start middle sound n batch (begun low) (lane_lines k script) (of_lane k (lanes_of script) report.replies.items) (slice_index_or mine k []) (runs.lanes k).0 (runs.lanes k).1 here)
            by_lane
        | inr none ↦
            in_lists (n ≤ length middle.history) n beside
            (λ k here. (landing_within start middle sound n low (rounds_land start rounds middle low (slice_index_or beside k []) (runs.parties k) n here)).inside)
            (omega (arith, some, none))
      ]

module _ (start : StoreState) (log middle : LogState) (first : List Entry) (low_starts : length first ≤ length middle.history) (more : length middle.history ≤ length log.history) (sound : log.failed ≡ None) (own lastly rest : ℕ → ℕ) where
  -- The numbers after the lanes are those of the last round.
  last_all : ((n : ℕ) → own n ≡ given (length first) (length log.history + one (is_some log.failed)) n) → ((n : ℕ) → own n ≡ rest n + lastly n) → ((n : ℕ) → 1 ≤ rest n → n ≤ length middle.history) → ((n : ℕ) → 1 ≤ lastly n → length middle.history < n) → (n : ℕ) → lastly n ≡ given (length middle.history) (length log.history + one (is_some log.failed)) n
  last_all all sum inside above n =
      let none : one (is_some log.failed) ≡ 0 = ap (λ f. one (is_some f)) sound in
      let every = all n in
      let both = sum n in
      elim (cases_lt (length middle.history) n) [
        | inl later ↦
            let no_rest : rest n ≡ 0 = zero_if (rest n) (λ some. absurd (let low = inside n some in omega (arith, low, later))) in
            elim (cases_lt (length log.history) n) [
              | inl past ↦
                  let a = given_above (length first) (length log.history + one (is_some log.failed)) n (omega (arith, past, none)) in
                  let b = given_above (length middle.history) (length log.history + one (is_some log.failed)) n (omega (arith, past, none)) in
                  omega (arith, every, both, no_rest, a, b)
              | inr within ↦
                  let a = given_inside (length first) (length log.history + one (is_some log.failed)) n (omega (arith, later, low_starts)) (omega (arith, within)) in
                  let b = given_inside (length middle.history) (length log.history + one (is_some log.failed)) n later (omega (arith, within)) in
                  omega (arith, every, both, no_rest, a, b)
            ]
        | inr early ↦
            let no_last : lastly n ≡ 0 = zero_if (lastly n) (λ some. absurd (let high = above n some in omega (arith, high, early))) in
            no_last ∙ sym (given_below (length middle.history) (length log.history + one (is_some log.failed)) n early)
      ]
    where
      zero_if : (k : ℕ) → (1 ≤ k → k ≡ 0) → k ≡ 0
      zero_if zero none = refl
      zero_if (suc k) none = none (omega arith)

-- The outputs that a last round did not refuse are up to date, if all else was added before it and nothing failed.
pub round_current : (start : StoreState) (log middle : LogState) (first : List Entry) (own lastly : List ℕ) (rest : ℕ → ℕ) (report : Option (Result (List RefreshLine) AllocError)) (last : List RefreshLine) → GoesOn start log middle → StartsWith middle.history first → AreAllSince first log own → ((n : ℕ) → times n own ≡ rest n + times n lastly) → (middle.failed ≡ None → (n : ℕ) → 1 ≤ rest n → n ≤ length middle.history) → LastRound start log middle.history true report lastly → Follows log.history → log.failed ≡ None → report ≡ Some (Ok last) → AllByRecursion (λ line. IsCurrentIn log.history line.output line.result) last
round_current start log middle first own lastly rest report last on after all numbers inside round follows sound is =
    let middle_sound = earlier_sound start log middle on sound in
    let refreshes : Refreshes start log middle.history last lastly = subst (λ r. LastRound start log middle.history true r lastly) is round in
    let lands : Landings start log middle.history lastly = refreshes_lands start log middle.history last lastly refreshes in
    let since : AreAllSince middle.history log lastly =
    last_all start log middle first (starts_length middle.history first after) (starts_length log.history middle.history on.begins) sound
    (λ n. times n own) (λ n. times n lastly) rest
    all numbers
    (inside middle_sound)
    (λ n some. (landing_within start log sound n middle.history (lands n some)).above) in
    refreshed-current start log middle.history last lastly refreshes follows since

pub last_current : LastIsCurrent
last_current batch start log script report own last runs all follows sound is =
    round_current start log runs.middle start.history own runs.lastly (λ n. times_all n runs.mine runs.beside) report.last last runs.goes_on runs.after all runs.numbers
    (λ middle_sound n some. all_inside batch (length script) start runs.middle middle_sound start.history script report runs.mine runs.beside runs.lanes n some)
    runs.last follows sound is
