-- Each entry that a live run adds is allowed after those before it.
use Rattle.std.specs.Prelude.{◌≡◌, ℕ, ◌+◌, ◌≤◌, Bool, true, false, List, [], ◌∷◌, length, slice_index_or, Option, Some, None, Result, Ok, Err}
use Rattle.std.specs.declared.alloc.AllocError.{AllocError}
use Rattle.std.proofs.Common.{refl, ap, ◌∙◌, arith}
use Rattle.btr_hist.specs.declared.entry.Entry.{Entry}
use Rattle.btr_hist.specs.declared.entry.Entry.TheVariants as entries
use Rattle.btr_hist.specs.Legal.{IsComputed}
use Rattle.btr_streams.specs.declared.board.Receipt.{Receipt}
use Rattle.btr_engine.specs.declared.step.StepFault.{StepFault}
use Rattle.btr_text.specs.declared.script.Line.{Line}
use Rattle.btr_text.specs.declared.script.ScriptLine.{ScriptLine}
use Rattle.btr_text.specs.declared.reply.LineReply.{LineReply}
use Rattle.btr_gate.specs.Numbers.{total, times}
use Rattle.btr_gate.proofs.NumberLemmas.{one_same, times_append}
use Rattle.btr_jobs.specs.States.{StoreState, LogState, GoesOn}
use Rattle.btr_jobs.specs.Turns.{IsIdle, CommittedAfter}
use Rattle.btr_work.specs.declared.report.RefreshLine.{RefreshLine}
use Rattle.btr_live.specs.declared.live.LiveReport.{LiveReport}
use Rattle.btr_live.specs.Meaning.{Meaning, Commits, Asks, Holds, Current, Refuses}
use Rattle.btr_live.specs.Lanes.{Offers, Answers, LaneState, begun, RunsLines, in_own_feeds}
use Rattle.btr_live.specs.LaneLaws.{lines_last}
use Rattle.btr_live.specs.RoundsLaws.{rounds_last}
use Rattle.btr_live.specs.Rounds.{MakesRounds}
use Rattle.btr_live.proofs.LandingLemmas.{IsLanding, Landings, rounds_land}
use Rattle.btr_live.specs.OneHistory.{of_lane, lanes_of, lane_lines, times_all}
use Rattle.btr_live.specs.Live.{LastRound, RunsLive}
use Rattle.btr_store.specs.Work.{AddsAllowed}
use Rattle.btr_store.proofs.Allowing.{Allows, allows_none, allows_nothing, allows_sum, allows_both, allows_parts, allows_committed, allows_landed}
use Rattle.btr_store.proofs.DistilLemmas.{refreshes_allowed}

module _ (start : StoreState) (log : LogState) where
  -- ---- a line

  -- An entry that is computed after any history, in its turn.
  pub committed_allowed : (a : List Entry) (e : Entry) (result : Result Receipt StepFault) (own : List ℕ) (next : List Entry) → ((p : List Entry) → IsComputed p e) → CommittedAfter start log a e result own next → AddsAllowed log own
  committed_allowed a e result own next computed is = allows_committed start log is.0 e result own next (computed is.0) is.3

  -- A distillate is that of a plan.
  offers_allowed : (reported : Bool) (a : List Entry) (e : Entry) (reply : LineReply) (own : List ℕ) (next : List Entry) → Offers start log reported a e reply own next → AddsAllowed log own
  offers_allowed reported a (entries.Create id) reply own next is = committed_allowed a (entries.Create id) is.0 own next (λ p. tt) is.1
  offers_allowed reported a (entries.Define id spec) reply own next is = committed_allowed a (entries.Define id spec) is.0 own next (λ p. tt) is.1
  offers_allowed reported a (entries.Commit stream cut added) reply own next is = committed_allowed a (entries.Commit stream cut added) is.0 own next (λ p. tt) is.1
  offers_allowed reported a (entries.Distillate stream cut added reads) reply own next is =
      allows_landed start log a is.0 is.3 own next is.1.of is.4
  offers_allowed reported a (entries.Retire stream first) reply own next is = committed_allowed a (entries.Retire stream first) is.0 own next (λ p. tt) is.1

  idle_allowed : (a : List Entry) (own : List ℕ) (next : List Entry) → IsIdle a own next → AddsAllowed log own
  idle_allowed a own next is = allows_nothing log own is.own

  pub answers_allowed : (reported : Bool) (a : List Entry) (m : Meaning) (reply : LineReply) (own : List ℕ) (next : List Entry) → Answers start log reported a m reply own next → AddsAllowed log own
  answers_allowed reported a (Commits e) reply own next is = offers_allowed reported a e reply own next is
  answers_allowed reported a (Asks query) reply own next is = idle_allowed a own next is.1
  answers_allowed reported a (Holds count) reply own next is = idle_allowed a own next is.1
  answers_allowed reported a (Current version) reply own next is = idle_allowed a own next is.1
  answers_allowed reported a (Refuses reason) reply own next is = idle_allowed a own next is.1

  -- ---- a lane, and a landing

  pub lines_allowed : (batch : ℕ) (old : LaneState) (lines : List (Option Line)) (replies : List LineReply) (own : List ℕ) (new : LaneState) → RunsLines batch start log old lines replies own new → AddsAllowed log own
  lines_allowed batch old [] [] own new is = allows_nothing log own is.0
  lines_allowed batch old [] (reply ∷ replies) own new is = absurd is
  lines_allowed batch old (line ∷ lines) [] own new is = absurd is
  lines_allowed batch old (line ∷ lines) (reply ∷ replies) own new is =
      allows_both log own is.0 is.1 (λ n. ap (times n) is.3 ∙ times_append n is.0 is.1)
      (answers_allowed old.saw_failure is.4.admitted is.4.asked reply is.0 is.2.history is.4.answers)
      (lines_allowed batch is.2 lines replies is.1 new is.5)

  landing_allowed : (low : List Entry) (n : ℕ) → IsLanding start log low n → AddsAllowed log (n ∷ [])
  landing_allowed low n is = allows_landed start log is.at is.plan is.result (n ∷ []) is.next is.planned.of is.landed

  -- What is allowed of each number is allowed of all.
  landings_allowed : (low : List Entry) (own : List ℕ) → Landings start log low own → AddsAllowed log own
  landings_allowed low own lands p e starts listed legal =
      let n : ℕ = length p + 1 in
      let here : 1 ≤ times n (n ∷ []) = let one = one_same n n (λ i. n) in omega (arith, one) in
      landing_allowed low n (lands n listed) p e starts here legal

  pub rounds_allowed : (count : ℕ) (low : List Entry) (own : List ℕ) → MakesRounds start count low log own → AddsAllowed log own
  rounds_allowed count low own is = landings_allowed low own (rounds_land start count log low own is)

  -- ---- the last round

  pub last_allowed : (low : List Entry) (materialize : Bool) (last : Option (Result (List RefreshLine) AllocError)) (own : List ℕ) → LastRound start log low materialize last own → AddsAllowed log own
  last_allowed low false None own is = allows_none log own is
  last_allowed low false (Some result) own is = absurd is
  last_allowed low true None own is = absurd is
  last_allowed low true (Some (Err error)) own is = allows_none log own is
  last_allowed low true (Some (Ok report)) own is = refreshes_allowed start log low report own is

  -- ---- a whole run

  -- What lanes, the rounds beside them, others and the last round add is allowed, if what lanes and others add is.
  pub run_allowed : (middle : LogState) (low : List Entry) (script : List ScriptLine) (materialize : Bool) (report : LiveReport) (mine beside : List (List ℕ)) (others : ℕ → ℕ) (lastly own : List ℕ) → GoesOn start log middle → ((k : ℕ) → MakesRounds start (length script) low middle (slice_index_or beside k [])) → LastRound start log middle.history materialize report.last lastly → ((n : ℕ) → times n own ≡ times_all n mine beside + others n + times n lastly) → ((k : ℕ) → AddsAllowed log (slice_index_or mine k [])) → Allows log others → AddsAllowed log own
  run_allowed middle low script materialize report mine beside others lastly own on rounds last sum lanes other =
      allows_sum log (λ n. times n own) (λ n. times_all n mine beside + others n) (λ n. times n lastly) sum
      (allows_sum log (λ n. times_all n mine beside + others n) (λ n. times_all n mine beside) others (λ n. refl)
      (allows_sum log (λ n. times_all n mine beside) (λ n. total (times n) mine) (λ n. total (times n) beside) (λ n. refl)
      (allows_parts log mine (λ k there. lanes k))
      (allows_parts log beside (λ k there.
      let party : List ℕ = slice_index_or beside k [] in
      rounds_allowed (length script) low party (rounds_last start (length script) log middle low party on (rounds k)))))
      other)
      (last_allowed middle.history materialize report.last lastly last)

-- What lanes, rounds and the last round add is allowed.
pub live_allowed : (batch : ℕ) (materialize : Bool) (start : StoreState) (log : LogState) (low : List Entry) (script : List ScriptLine) (report : LiveReport) (own : List ℕ) → RunsLive (in_own_feeds batch) materialize start log low script report own → AddsAllowed log own
live_allowed batch materialize start log low script report own runs =
    run_allowed start log runs.middle low script materialize report runs.mine runs.beside (λ n. 0) runs.lastly own runs.goes_on runs.lanes.parties runs.last
    (λ n. let sum = runs.numbers n in omega (arith, sum))
    (λ k.
    let lines = lane_lines k script in
    let replies = of_lane k (lanes_of script) report.replies.items in
    let mine : List ℕ = slice_index_or runs.mine k [] in
    let lane = runs.lanes.lanes k in
    lines_allowed start log batch (begun low) lines replies mine lane.0 (lines_last start log runs.middle runs.goes_on batch (begun low) lines replies mine lane.0 lane.1))
    (allows_nothing log [] refl)
