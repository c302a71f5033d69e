-- Each entry that a run with shared buffers adds is allowed after those before it.
use Rattle.std.specs.Prelude.{ℕ, Bool, List, [], ◌∷◌, slice_index_or, Option}
use Rattle.std.proofs.Common.{ap, ◌∙◌, arith, inl, inr}
use Rattle.btr_hist.specs.declared.entry.Entry.{Entry}
use Rattle.btr_text.specs.declared.script.Line.{Line}
use Rattle.btr_text.specs.declared.script.ScriptLine.{ScriptLine}
use Rattle.btr_text.specs.declared.reply.LineReply.{LineReply}
use Rattle.btr_gate.specs.Numbers.{total, times}
use Rattle.btr_gate.proofs.NumberLemmas.{times_append}
use Rattle.btr_hall.specs.GroupBook.{SettledValue, book}
use Rattle.btr_group.specs.Serves.{entry_of_batch, commit_result}
use Rattle.btr_jobs.specs.States.{StoreState, LogState}
use Rattle.btr_live.specs.declared.live.LiveReport.{LiveReport}
use Rattle.btr_live.specs.SharedLanes.{SharedState, begun_shared, RunsSharedLine, RunsSharedLines}
use Rattle.btr_live.specs.SharedLaws.{shared_lane_lasts}
use Rattle.btr_live.specs.OneHistory.{of_lane, lanes_of, lane_lines}
use Rattle.btr_store.specs.Work.{AddsAllowed}
use Rattle.btr_store.specs.Shared.{RunsBatches, RunsInBuffers, has_buffer, views_of}
use Rattle.btr_store.proofs.Allowing.{allows_nothing, allows_both, allows_parts}
use Rattle.btr_store.proofs.BatchLemmas.{batches_last}
use Rattle.btr_store.proofs.LiveAllowing.{committed_allowed, answers_allowed, run_allowed}

module _ (start : StoreState) (log : LogState) where
  batches_allowed : (stream : ℕ) (low : List Entry) (bs : List SettledValue) (own : List ℕ) → RunsBatches start log stream low bs own → AddsAllowed log own
  batches_allowed stream low [] own runs = allows_nothing log own runs
  batches_allowed stream low (b ∷ bs) own runs =
      allows_both log own runs.0 runs.1 (λ n. ap (times n) runs.3 ∙ times_append n runs.0 runs.1)
      (committed_allowed start log low (entry_of_batch stream b.batch) (commit_result b.outcome) runs.0 runs.2 (λ p. tt) runs.4)
      (batches_allowed stream runs.2 bs runs.1 runs.5)

  module _ (has : ℕ → Bool) (threshold : ℕ) where
    line_allowed : (old : SharedState) (line : Option Line) (reply : LineReply) (own : List ℕ) (new : SharedState) → RunsSharedLine has threshold start log old line reply own new → AddsAllowed log own
    line_allowed old line reply own new (inl is) = allows_nothing log own is.at.none
    line_allowed old line reply own new (inr is) =
        answers_allowed start log old.lane.saw_failure is.runs.admitted is.runs.asked reply own new.lane.history is.runs.answers

    shared_lines_allowed : (old : SharedState) (lines : List (Option Line)) (replies : List LineReply) (own : List ℕ) (new : SharedState) → RunsSharedLines has threshold start log old lines replies own new → AddsAllowed log own
    shared_lines_allowed old [] [] own new is = allows_nothing log own is.0
    shared_lines_allowed old [] (reply ∷ replies) own new is = absurd is
    shared_lines_allowed old (line ∷ lines) [] own new is = absurd is
    shared_lines_allowed old (line ∷ lines) (reply ∷ replies) own new is =
        allows_both log own is.0 is.1 (λ n. ap (times n) is.3 ∙ times_append n is.0 is.1)
        (line_allowed old line reply is.0 is.2 is.4)
        (shared_lines_allowed is.2 lines replies is.1 new is.5)

-- What lanes, batches, rounds and the last round add is allowed.
pub shared_allowed : (threshold : ℕ) (materialize : Bool) (start : StoreState) (log : LogState) (low : List Entry) (script : List ScriptLine) (report : LiveReport) (own : List ℕ) → RunsInBuffers threshold materialize start log low script report own → AddsAllowed log own
shared_allowed threshold materialize start log low script report own runs =
    run_allowed start log runs.middle low script materialize report runs.mine runs.beside (λ n. total (times n) runs.batches) runs.lastly own runs.goes_on runs.lanes.parties runs.last
    runs.numbers
    (λ k.
    let lines = lane_lines k script in
    let replies = of_lane k (lanes_of script) report.replies.items in
    let mine : List ℕ = slice_index_or runs.mine k [] in
    let ran = shared_lane_lasts (has_buffer low) threshold start log runs.middle runs.goes_on (views_of runs.befores k) (views_of runs.afters k) low lines replies mine (runs.lanes.lanes k) in
    shared_lines_allowed start log (has_buffer low) threshold (begun_shared low (views_of runs.befores k)) lines replies mine ran.0 ran.1)
    (allows_parts log runs.batches (λ stream there.
    let bs = (book (runs.lists stream)).settled in
    let mine : List ℕ = slice_index_or runs.batches stream [] in
    let count = runs.as_many in
    batches_allowed start log stream low bs mine (batches_last start stream log runs.middle low bs mine runs.goes_on (runs.buffers stream (omega (arith, there, count))).batches)))
