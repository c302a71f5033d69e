-- Lemmas on the jobs of levels: one level more, and what the report says when all are done.
use Rattle.std.specs.Prelude.{◌≡◌, ℕ, ◌+◌, ◌<◌, ◌≤◌, List, [], ◌∷◌, ◌++◌, length, map, take, drop, slice_set}
use Rattle.std.specs.Vec.{with_items}
use Rattle.std.proofs.Common.{suc, get_or, set, refl, sym, ap, ◌∙◌, subst, arith, inl, inr}
use Rattle.std.proofs.lemmas.List.{length-set, get_or-set_same, get_or-set_other, with_items_is, take_all}
use Rattle.btr_disk.specs.declared.disk.Disk.{Ghosts}
use Rattle.btr_hist.specs.declared.entry.Entry.{Entry}
use Rattle.btr_hist.specs.History.{kinds}
use Rattle.btr_hist.proofs.HistoryLemmas.{length-kinds}
use Rattle.btr_engine.specs.Engine.{IsEngineOf}
use Rattle.btr_gate.specs.Prefixes.{StartsWith}
use Rattle.btr_gate.specs.Numbers.{times}
use Rattle.btr_hall.specs.declared.land.LandFault.TheVariants.{Want}
use Rattle.btr_hall.specs.declared.session.Hall.{Hall}
use Rattle.btr_hall.specs.declared.session.Session.{Session}
use Rattle.btr_hall.specs.Trace.{history_of}
use Rattle.btr_hall.specs.Session.{Looks, opening_of, seen_of}
use Rattle.btr_jobs.specs.States.{StoreState, LogState}
use Rattle.btr_jobs.specs.Jobs.{Doing, AllDid, DidInTurn, IsAt, Does}
use Rattle.btr_jobs.proofs.JobLemmas.{all_did_lowers}
use Rattle.btr_jobs.proofs.DoesLemmas.{does_then}
use Rattle.btr_jobs.proofs.RunLemmas.{Lowers, length_after, rest_after, items_more, now_more}
use Rattle.btr_jobs.proofs.InTurnLemmas.{flat, turn_implied, turn_lowers, turn_all, turn_flat, in_turn_none, in_turn_more}
use Rattle.btr_jobs.proofs.TurnLemmas.{look_turn}
use Rattle.btr_work.specs.declared.refreshing.OutputJob.{OutputJob}
use Rattle.btr_work.specs.declared.prepare.Level.{Level}
use Rattle.btr_work.specs.declared.prepare.Work.{Work}
use Rattle.btr_work.specs.declared.report.Refreshed.{Refreshed}
use Rattle.btr_work.specs.declared.report.Refreshed.TheVariants.{Refused}
use Rattle.btr_work.specs.declared.report.RefreshLine.{RefreshLine}
use Rattle.btr_work.specs.Levels.{levels_of, by_levels, outputs}
use Rattle.btr_work.specs.Report.{IsRefreshed, RefreshesEach, RefreshesLevels, Refreshes, RefreshesInTurn}
use Rattle.btr_work.specs.ReportLaws.{done_lasts, done_lowers}
use Rattle.btr_work.specs.Refreshing.{IsDone, outputs_in, jobs_in, groups_in, blank_line, IsPrepared, noted, noted_all, result_at, filled}
use Rattle.btr_work.proofs.MemberLemmas.{IsIn, IsInAny, Distinct, Graded, groups-graded, graded-above, inside-some, levels-length}

-- ---- one level more

-- Of each level this was done, one level after another.
abbrev pub LevelsDone : Doing (List OutputJob) → List Level → List Level → StoreState → LogState → List Entry → List ℕ → Type 0
LevelsDone did before after start log low own = DidInTurn did start log low (jobs_in before) (jobs_in after) own

jobs-snoc : (levels : List Level) (level : Level) → jobs_in levels ++ level.jobs.items ∷ [] ≡ jobs_in (levels ++ level ∷ [])
jobs-snoc [] level = refl
jobs-snoc (l ∷ levels) level = ap (λ js. l.jobs.items ∷ js) (jobs-snoc levels level)

module _ (did : Doing (List OutputJob)) {D : Type 0} {disk : Ghosts D} (hall : Hall D disk) where
  -- No level was done.
  pub levels-none : (s : Session D disk) → Does hall s s (LevelsDone did [] [])
  levels-none s = in_turn_none did hall s

  module _ (lowers : Lowers did) where
    -- One level more was done.
    levels-more : (old mid new : Session D disk) (before after : List Level) (was now : Level) → IsAt hall new → Does hall old mid (LevelsDone did before after) → Does hall mid new (λ start log low own. did start log low was.jobs.items now.jobs.items own) → Does hall old new (LevelsDone did (before ++ was ∷ []) (after ++ now ∷ []))
    levels-more old mid new before after was now at done level =
        subst (λ js. Does hall old new (λ start log low own. DidInTurn did start log low js (jobs_in (after ++ now ∷ [])) own)) (jobs-snoc before was)
        (subst (λ js. Does hall old new (λ start log low own. DidInTurn did start log low (jobs_in before ++ was.jobs.items ∷ []) js own)) (jobs-snoc after now)
        (in_turn_more did hall lowers old mid new (jobs_in before) (jobs_in after) was.jobs.items now.jobs.items at done level))

    -- The level at the index i was done too.
    levels-next : (old mid new : Session D disk) (levels now : List Level) (i : ℕ) (was done : Level) → i < length now → length now ≡ length levels → drop i now ≡ drop i levels → was ≡ get_or now i was → IsAt hall new → Does hall old mid (LevelsDone did (take i levels) (take i now)) → Does hall mid new (λ start log low own. did start log low (get_or now i was).jobs.items done.jobs.items own) → Does hall old new (LevelsDone did (take (i + 1) levels) (take (i + 1) (set now i done)))
    levels-next old mid new levels now i was done inside long rest is at so_far one =
        let level = subst (λ (w : Level). Does hall mid new (λ start log low own. did start log low w.jobs.items done.jobs.items own)) (sym is) one in
        let more = levels-more old mid new (take i levels) (take i now) was done at so_far level in
        let before = items_more levels now i was done inside long rest is in
        let after = now_more levels now i was done inside long rest is in
        subst (λ l. Does hall old new (LevelsDone did (take (i + 1) levels) l)) after (subst (λ l. Does hall old new (LevelsDone did l (take i now ++ done ∷ []))) before more)

all-lowers : Lowers (AllDid IsDone)
all-lowers start log low less was now own starts all =
    all_did_lowers IsDone start log low less (λ w n o. done_lowers start log low less w n o starts) was now own all

turn-lowers : Lowers (DidInTurn IsDone)
turn-lowers start log low less was now own starts turn =
    turn_lowers IsDone start done_lowers log low less was now own starts turn

module _ {D : Type 0} {disk : Ghosts D} (hall : Hall D disk) (workers : ℕ) where
  -- The levels before the index i were done. The others are as they were.
  abbrev pub LevelsDoneTo : Session D disk → Session D disk → ℕ → List Level → List Level → Type 0
  LevelsDoneTo old new i levels now =
      IsAt hall new × (length now ≡ length levels) × (drop i now ≡ drop i levels)
      × Does hall old new (LevelsDone (AllDid IsDone) (take i levels) (take i now))
      × (workers ≤ 1 → Does hall old new (LevelsDone (DidInTurn IsDone) (take i levels) (take i now)))

  pub levels-begin : (s : Session D disk) (levels : List Level) → IsAt hall s → LevelsDoneTo s s 0 levels levels
  levels-begin s levels at = (at, refl, refl, levels-none (AllDid IsDone) hall s, λ few. levels-none (DidInTurn IsDone) hall s)

  pub levels-step : (old mid new : Session D disk) (levels now : List Level) (i : ℕ) (was done : Level) → i < length now → LevelsDoneTo old mid i levels now → was ≡ get_or now i was → IsAt hall new → Does hall mid new (λ start log low own. AllDid IsDone start log low (get_or now i was).jobs.items done.jobs.items own) → (workers ≤ 1 → Does hall mid new (λ start log low own. DidInTurn IsDone start log low (get_or now i was).jobs.items done.jobs.items own)) → LevelsDoneTo old new (i + 1) levels (set now i done)
  levels-step old mid new levels now i was done inside so_far is at all turn =
      let long = so_far.1 in
      let rest = so_far.2 in (
        at,
        length_after levels now i was done inside long rest is,
        rest_after levels now i was done inside long rest is,
        levels-next (AllDid IsDone) hall all-lowers old mid new levels now i was done inside long rest is at so_far.3 all,
        λ few. levels-next (DidInTurn IsDone) hall turn-lowers old mid new levels now i was done inside long rest is at (so_far.4 few) (turn few),
      )

-- The levels before an index at the end or after it are all levels.
pub levels-end : {D : Type 0} {disk : Ghosts D} (did : Doing (List OutputJob)) (hall : Hall D disk) (old new : Session D disk) (i : ℕ) (levels now : List Level) → length now ≡ length levels → length now ≤ i → Does hall old new (LevelsDone did (take i levels) (take i now)) → Does hall old new (LevelsDone did levels now)
levels-end did hall old new i levels now same ends done =
    let long : length levels ≤ i = omega (arith, same, ends) in
    subst (λ l. Does hall old new (LevelsDone did levels l)) (take_all i now ends)
    (subst (λ l. Does hall old new (LevelsDone did l (take i now))) (take_all i levels long) done)

-- ---- from jobs to results

-- The results of jobs are those of their outputs.
abbrev pub Reported : (ℕ → Refreshed) → List OutputJob → Type 0
Reported result [] = Unit {0}
Reported result (job ∷ jobs) = (result job.output ≡ job.result) × Reported result jobs

abbrev pub ReportedAll : (ℕ → Refreshed) → List (List OutputJob) → Type 0
ReportedAll result [] = Unit {0}
ReportedAll result (jobs ∷ levels) = Reported result jobs × ReportedAll result levels

module _ (start : StoreState) (result : ℕ → Refreshed) where
  each-from : (low : List Entry) (log : LogState) (before after : List OutputJob) (own : List ℕ) → AllDid IsDone start log low before after own → Reported result after → RefreshesEach start log low result (outputs_in before) own
  each-from low log [] [] own all reported = all
  each-from low log [] (now ∷ after) own all reported = absurd all
  each-from low log (was ∷ before) [] own all reported = absurd all
  each-from low log (was ∷ before) (now ∷ after) own all reported =
      let is = sym reported.0 ∙ ap result all.2.output in
      (all.0, all.1, subst (λ r. IsRefreshed start log low was.output r all.0) is all.2.refreshed, each-from low log before after all.1 all.3 reported.1, all.4)

  levels-from : (low : List Entry) (before after : List (List OutputJob)) (late : LogState) (own : List ℕ) → DidInTurn (AllDid IsDone) start late low before after own → ReportedAll result after → RefreshesLevels start low result (map outputs_in before) late own
  levels-from low [] [] late own done reported = done
  levels-from low [] (now ∷ after) late own done reported = absurd done
  levels-from low (was ∷ before) [] late own done reported = absurd done
  levels-from low (was ∷ before) (now ∷ after) late own done reported =
      (done.0, done.1, done.2, done.3, done.4, each-from low done.0 was now done.3 done.5 reported.0, levels-from done.0.history before after late done.4 done.6 reported.1, done.7)

  -- The outputs of the jobs are the same.
  each-outputs : (low : List Entry) (log : LogState) (before after : List OutputJob) (own : List ℕ) → AllDid IsDone start log low before after own → outputs_in after ≡ outputs_in before
  each-outputs low log [] [] own all = refl
  each-outputs low log [] (now ∷ after) own all = absurd all
  each-outputs low log (was ∷ before) [] own all = absurd all
  each-outputs low log (was ∷ before) (now ∷ after) own all =
      let rest = each-outputs low log before after all.1 all.3 in
      λ i. all.2.output i ∷ rest i

  levels-outputs : (low : List Entry) (before after : List (List OutputJob)) (late : LogState) (own : List ℕ) → DidInTurn (AllDid IsDone) start late low before after own → map outputs_in after ≡ map outputs_in before
  levels-outputs low [] [] late own done = refl
  levels-outputs low [] (now ∷ after) late own done = absurd done
  levels-outputs low (was ∷ before) [] late own done = absurd done
  levels-outputs low (was ∷ before) (now ∷ after) late own done =
      let first = each-outputs low done.0 was now done.3 done.5 in
      let rest = levels-outputs done.0.history before after late done.4 done.6 in
      λ i. first i ∷ rest i

-- ---- what is noted

noted-length : (results : List Refreshed) (jobs : List OutputJob) → length (noted results jobs) ≡ length results
noted-length results [] = refl
noted-length results (job ∷ jobs) = noted-length (slice_set results job.output job.result) jobs ∙ length-set results job.output job.result

-- An output that is not among those of the jobs keeps its result.
noted-other : (results : List Refreshed) (jobs : List OutputJob) (output : ℕ) → (IsIn output (outputs_in jobs) → ⊥) → result_at (noted results jobs) output ≡ result_at results output
noted-other results [] output not = refl
noted-other results (job ∷ jobs) output not =
    noted-other (slice_set results job.output job.result) jobs output (λ is. not (inr is))
    ∙ get_or-set_other results job.output output job.result (Refused Want) (λ same. not (inl same))

noted_all-other : (results : List Refreshed) (levels : List (List OutputJob)) (output : ℕ) → (IsInAny output (map outputs_in levels) → ⊥) → result_at (noted_all results levels) output ≡ result_at results output
noted_all-other results [] output not = refl
noted_all-other results (jobs ∷ levels) output not =
    noted_all-other (noted results jobs) levels output (λ is. not (inr is)) ∙ noted-other results jobs output (λ is. not (inl is))

reported-jobs : (last results : List Refreshed) (jobs : List OutputJob) → Distinct (outputs_in jobs) → ((output : ℕ) → IsIn output (outputs_in jobs) → output < length results) → ((output : ℕ) → IsIn output (outputs_in jobs) → result_at last output ≡ result_at (noted results jobs) output) → Reported (result_at last) jobs
reported-jobs last results [] distinct inside same = tt
reported-jobs last results (job ∷ jobs) distinct inside same =
    let next = slice_set results job.output job.result in
    let long : length next ≡ length results = length-set results job.output job.result in (
      same job.output (inl refl)
          ∙ noted-other next jobs job.output distinct.0
          ∙ get_or-set_same results job.output job.result (Refused Want) (inside job.output (inl refl)),
      reported-jobs last next jobs distinct.1 (λ output is. omega (arith, inside output (inr is), long)) (λ output is. same output (inr is)),
    )

reported-all : (levels : List ℕ) (base : ℕ) (results : List Refreshed) (jobs : List (List OutputJob)) → Graded levels base (map outputs_in jobs) → ((output : ℕ) → IsInAny output (map outputs_in jobs) → output < length results) → ReportedAll (result_at (noted_all results jobs)) jobs
reported-all levels base results [] graded inside = tt
reported-all levels base results (first ∷ jobs) graded inside =
    let next = noted results first in
    let long : length next ≡ length results = noted-length results first in (
      reported-jobs (noted_all next jobs) results first graded.1 (λ output is. inside output (inl is)) (λ output is.
          noted_all-other next jobs output (λ any. absurd (omega (arith, graded.0 output is, graded-above levels (suc base) (map outputs_in jobs) output graded.2 any)))),
      reported-all levels (suc base) next jobs graded.2 (λ output any. omega (arith, inside output (inr any), long)),
    )

-- ---- the whole

groups-jobs : (levels : List Level) → map outputs_in (jobs_in levels) ≡ groups_in levels
groups-jobs [] = refl
groups-jobs (l ∷ levels) = ap (λ gs. outputs_in l.jobs.items ∷ gs) (groups-jobs levels)

lines-filled : (results : List Refreshed) (outputs : List ℕ) → map (filled results) (map blank_line outputs) ≡ map (λ output. record { output = output; result = result_at results output }) outputs
lines-filled results [] = refl
lines-filled results (output ∷ outputs) = ap (λ ls. record { output = output; result = result_at results output } ∷ ls) (lines-filled results outputs)

-- The results of the jobs are those that are noted.
done-reported : (start : StoreState) (seen : List Entry) (work : Work) (after : List Level) (late : LogState) (own : List ℕ) → IsPrepared seen work → DidInTurn (AllDid IsDone) start late seen (jobs_in work.levels.items) (jobs_in after) own → ReportedAll (result_at (noted_all work.results.items (jobs_in after))) (jobs_in after)
done-reported start seen work after late own prepared done =
    let same : map outputs_in (jobs_in after) ≡ groups_in work.levels.items =
    levels-outputs start (λ _. Refused Want) seen (jobs_in work.levels.items) (jobs_in after) late own done ∙ groups-jobs work.levels.items in
    let graded = subst (Graded (levels_of seen) 1) (sym same) (groups-graded (levels_of seen) (groups_in work.levels.items) prepared.levels) in
    let inside : (output : ℕ) → IsInAny output (map outputs_in (jobs_in after)) → output < length work.results.items = λ output any.
    let known = inside-some (levels_of seen) output (graded-above (levels_of seen) 1 (map outputs_in (jobs_in after)) output graded any) in
    omega (arith, known, levels-length [] (kinds seen), length-kinds seen, prepared.results) in
    reported-all (levels_of seen) 1 work.results.items (jobs_in after) graded inside

-- Work that was prepared and done gives the report.
pub done-refreshes : (start : StoreState) (low seen : List Entry) (work : Work) (after : List Level) (late : LogState) (own : List ℕ) → StartsWith seen low → StartsWith late.history seen → IsPrepared seen work → DidInTurn (AllDid IsDone) start late seen (jobs_in work.levels.items) (jobs_in after) own → Refreshes start late low (map (filled (noted_all work.results.items (jobs_in after))) work.lines.items) own
done-refreshes start low seen work after late own starts before prepared done =
    let last = noted_all work.results.items (jobs_in after) in
    let reported = done-reported start seen work after late own prepared done in
    record {
      seen = seen;
      after = starts;
      before = before;
      levels = groups_in work.levels.items;
      are = prepared.levels;
      result = result_at last;
      lines = ap (map (filled last)) prepared.lines ∙ lines-filled last (outputs seen);
      refreshes =
          subst (λ gs. RefreshesLevels start seen (result_at last) gs late own) (groups-jobs work.levels.items)
          (levels-from start (result_at last) seen (jobs_in work.levels.items) (jobs_in after) late own done reported);
    }

-- ---- one worker

reported-append : (result : ℕ → Refreshed) (a b : List OutputJob) → Reported result a → Reported result b → Reported result (a ++ b)
reported-append result [] b first second = second
reported-append result (job ∷ a) b first second = (first.0, reported-append result a b first.1 second)

reported-flat : (result : ℕ → Refreshed) (jobs : List (List OutputJob)) → ReportedAll result jobs → Reported result (flat jobs)
reported-flat result [] reported = tt
reported-flat result (first ∷ jobs) reported = reported-append result first (flat jobs) reported.0 (reported-flat result jobs reported.1)

outputs-append : (a b : List OutputJob) → outputs_in (a ++ b) ≡ outputs_in a ++ outputs_in b
outputs-append [] b = refl
outputs-append (job ∷ a) b = ap (λ os. job.output ∷ os) (outputs-append a b)

outputs-flat : (levels : List Level) → outputs_in (flat (jobs_in levels)) ≡ by_levels (groups_in levels)
outputs-flat [] = refl
outputs-flat (l ∷ levels) =
    outputs-append l.jobs.items (flat (jobs_in levels)) ∙ ap (λ os. outputs_in l.jobs.items ++ os) (outputs-flat levels)

-- Each job is a level of its own.
turn-from : (start : StoreState) (result : ℕ → Refreshed) (low : List Entry) (before after : List OutputJob) (late : LogState) (own : List ℕ) → DidInTurn IsDone start late low before after own → Reported result after → RefreshesLevels start low result (map (λ output. output ∷ []) (outputs_in before)) late own
turn-from start result low [] [] late own turn reported = turn
turn-from start result low [] (now ∷ after) late own turn reported = absurd turn
turn-from start result low (was ∷ before) [] late own turn reported = absurd turn
turn-from start result low (was ∷ before) (now ∷ after) late own turn reported =
    let done = turn.5 in
    let is = sym reported.0 ∙ ap result done.output in (
      turn.0,
      turn.1,
      turn.2,
      turn.3,
      turn.4,
      (turn.3, [], subst (λ r. IsRefreshed start turn.0 low was.output r turn.3) is done.refreshed, (λ n. refl), λ n. omega arith),
      turn-from start result turn.0.history before after late turn.4 turn.6 reported.1,
      turn.7,
    )

-- Work that was prepared and done by one worker.
pub done-turn : (start : StoreState) (low seen : List Entry) (work : Work) (after : List Level) (late : LogState) (own : List ℕ) → StartsWith seen low → StartsWith late.history seen → IsPrepared seen work → DidInTurn (DidInTurn IsDone) start late seen (jobs_in work.levels.items) (jobs_in after) own → RefreshesInTurn start late low (map (filled (noted_all work.results.items (jobs_in after))) work.lines.items) own
unfolding done-refreshes
done-turn start low seen work after late own starts before prepared turn =
    let result = result_at (noted_all work.results.items (jobs_in after)) in
    let done = turn_implied (DidInTurn IsDone) (AllDid IsDone) start (λ log low was now own t. turn_all IsDone start done_lowers done_lasts log low was now own t) late seen (jobs_in work.levels.items) (jobs_in after) own turn in
    let reported = done-reported start seen work after late own prepared done in
    let all = turn_flat IsDone start done_lowers late seen (jobs_in work.levels.items) (jobs_in after) own turn in
    record {
      refreshes = done-refreshes start low seen work after late own starts before prepared done;
      in_turn =
          subst (λ os. RefreshesLevels start seen result (map (λ output. output ∷ []) os) late own) (outputs-flat work.levels.items)
          (turn-from start result seen (flat (jobs_in work.levels.items)) (flat (jobs_in after)) late own all (reported-flat result (jobs_in after) reported));
    }

module _ {D : Type 0} {disk : Ghosts D} (hall : Hall D disk) where
  -- The report that is made from work that was prepared and done, if this follows of it.
  refreshed-by : (did : Doing (List OutputJob)) (What : StoreState → LogState → List Entry → List RefreshLine → List ℕ → Type 0) → ((start : StoreState) (low seen : List Entry) (work : Work) (after : List Level) (late : LogState) (own : List ℕ) → StartsWith seen low → StartsWith late.history seen → IsPrepared seen work → DidInTurn did start late seen (jobs_in work.levels.items) (jobs_in after) own → What start late low (map (filled (noted_all work.results.items (jobs_in after))) work.lines.items) own) → (old mid new : Session D disk) (work : Work) (before after : List Level) (report : List RefreshLine) → IsAt hall new → Looks hall old mid → ((h : List Entry) → IsEngineOf h (opening_of hall) → IsPrepared (history_of h (seen_of mid)) work) → before ≡ work.levels.items → length after ≡ work.levels.len → Does hall mid new (LevelsDone did before after) → report ≡ map (filled (noted_all work.results.items (jobs_in (with_items work.levels after).items))) work.lines.items → Does hall old new (λ start log low own. What start log low report own)
  refreshed-by did What follows old mid new work before after report at looks prepared same long done is =
      let made = is ∙ ap (λ ls. map (filled (noted_all work.results.items (jobs_in ls))) work.lines.items) (with_items_is work.levels after long) in
      let all = subst (λ ls. Does hall mid new (LevelsDone did ls after)) same done in
      does_then hall old mid new (λ start log low own. (own ≡ []) × StartsWith log.history low × IsPrepared log.history work) (LevelsDone did work.levels.items after) (λ start log low own. What start log low report own) at
      (λ start late early low a b on starts first second.
      subst (λ own. What start late low report (own ++ b)) (sym first.0)
      (subst (λ r. What start late low r b) (sym made)
      (follows start low early.history work after late b starts on.begins first.2 second)))
      (look_turn hall old mid looks (λ h. IsPrepared h work) prepared) all

  module _ (old mid new : Session D disk) (work : Work) (before after : List Level) (report : List RefreshLine) (at : IsAt hall new) (looks : Looks hall old mid) (prepared : (h : List Entry) → IsEngineOf h (opening_of hall) → IsPrepared (history_of h (seen_of mid)) work) (same : before ≡ work.levels.items) (long : length after ≡ work.levels.len) (is : report ≡ map (filled (noted_all work.results.items (jobs_in (with_items work.levels after).items))) work.lines.items) where
    pub all-refreshed : Does hall mid new (LevelsDone (AllDid IsDone) before after) → Does hall old new (λ start log low own. Refreshes start log low report own)
    all-refreshed done = refreshed-by (AllDid IsDone) Refreshes done-refreshes old mid new work before after report at looks prepared same long done is

    pub turn-refreshed : Does hall mid new (LevelsDone (DidInTurn IsDone) before after) → Does hall old new (λ start log low own. RefreshesInTurn start log low report own)
    turn-refreshed done = refreshed-by (DidInTurn IsDone) RefreshesInTurn done-turn old mid new work before after report at looks prepared same long done is

  -- Nothing was added.
  pub none-refreshed : (old new : Session D disk) → Looks hall old new → Does hall old new (λ start log low own. (n : ℕ) → times n own ≡ 0)
  none-refreshed old new looks =
      let turn = look_turn hall old new looks (λ _. Unit {0}) (λ h of. tt) in
      (turn.0, turn.1, λ h of. λ n. ap (times n) (turn.2 h of).0)
