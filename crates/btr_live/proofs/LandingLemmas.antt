-- What rounds add are landings of plans.
use Rattle.std.specs.Prelude.{◌≡◌, ℕ, zero, suc, ◌≤◌, Bool, true, false, List, [], ◌∷◌, Result, Ok, Err, Option, Some, None}
use Rattle.std.specs.declared.alloc.AllocError.{AllocError}
use Rattle.std.proofs.Common.{arith, inl, inr}
use Rattle.std.proofs.lemmas.Bool.{cases_lt}
use Rattle.btr_hist.specs.declared.entry.Entry.{Entry}
use Rattle.btr_distil.specs.Plan.{PlanValue}
use Rattle.btr_plan.specs.Next.{IsNextPlan}
use Rattle.btr_streams.specs.declared.board.Receipt.{Receipt}
use Rattle.btr_gate.specs.Numbers.{times}
use Rattle.btr_gate.specs.Prefixes.{StartsWith}
use Rattle.btr_gate.proofs.PrefixLemmas.{starts_trans}
use Rattle.btr_hall.specs.declared.land.LandFault.{LandFault}
use Rattle.btr_jobs.specs.States.{StoreState, LogState, GoesOn}
use Rattle.btr_jobs.specs.Turns.{LandedAfter}
use Rattle.btr_jobs.specs.TurnLaws.{landed_lasts}
use Rattle.btr_work.specs.declared.report.RefreshLine.{RefreshLine}
use Rattle.btr_work.specs.Report.{Refreshes}
use Rattle.btr_work.proofs.OwnLemmas.{refreshes-number}
use Rattle.btr_live.specs.Rounds.{MakesRound, MakesRounds}
use Rattle.btr_live.specs.Live.{LastRound}

-- The number is that of what the landing of one plan added: the model plans it at a history that begins with `low`, and this is what
-- became of it in a later turn.
pub record IsLanding (start : StoreState) (log : LogState) (low : List Entry) (n : ℕ) : Type 0 where
  pub at : List Entry
  pub after : StartsWith at low
  pub plan : PlanValue
  pub planned : IsNextPlan at plan.stream plan
  pub result : Result Receipt LandFault
  pub next : List Entry
  pub landed : LandedAfter start log at plan result (n ∷ []) next

-- Each of these numbers is that of a landing.
abbrev pub Landings : StoreState → LogState → List Entry → List ℕ → Type 0
Landings start log low own = (n : ℕ) → 1 ≤ times n own → IsLanding start log low n

-- What a landing did is true for ever.
pub landings_last : (start : StoreState) (late early : LogState) → GoesOn start late early → (low : List Entry) (own : List ℕ) → Landings start early low own → Landings start late low own
landings_last start late early on low own are = λ n there.
    let is : IsLanding start early low n = are n there in record {
      at = is.at;
      after = is.after;
      plan = is.plan;
      planned = is.planned;
      result = is.result;
      next = is.next;
      landed = landed_lasts start late early is.at is.plan is.result (n ∷ []) is.next on is.landed;
    }

module _ (start : StoreState) (log : LogState) where
  -- A landing is one after less had been seen.
  pub landings_lower : (low less : List Entry) (own : List ℕ) → StartsWith low less → Landings start log low own → Landings start log less own
  landings_lower low less own starts are = λ n there.
      let is : IsLanding start log low n = are n there in record {
        at = is.at;
        after = starts_trans is.at low less is.after starts;
        plan = is.plan;
        planned = is.planned;
        result = is.result;
        next = is.next;
        landed = is.landed;
      }

  -- No number is that of a landing.
  nothing_lands : (low : List Entry) (own : List ℕ) → ((n : ℕ) → times n own ≡ 0) → Landings start log low own
  nothing_lands low own none = λ n there. absurd (let is = none n in omega (arith, is, there))

  -- What brings outputs up to date adds landings.
  pub refreshes_lands : (low : List Entry) (report : List RefreshLine) (own : List ℕ) → Refreshes start log low report own → Landings start log low own
  refreshes_lands low report own refreshes = λ n there.
      let is = refreshes-number start log low report own refreshes n (omega (arith, there)) in
      record { at = is.0; after = is.4; plan = is.1; planned = is.5; result = is.2; next = is.3; landed = is.6 }

  -- So does a round.
  pub round_lands : (low : List Entry) (own : List ℕ) → MakesRound start log low own → Landings start log low own
  round_lands low own (inl is) = refreshes_lands low is.0 own is.1
  round_lands low own (inr none) = nothing_lands low own none

  -- So does the last round.
  pub last_lands : (low : List Entry) (materialize : Bool) (last : Option (Result (List RefreshLine) AllocError)) (own : List ℕ) → LastRound start log low materialize last own → Landings start log low own
  last_lands low false None own is = nothing_lands low own is
  last_lands low false (Some result) own is = absurd is
  last_lands low true None own is = absurd is
  last_lands low true (Some (Err e)) own is = nothing_lands low own is
  last_lands low true (Some (Ok report)) own is = refreshes_lands low report own is

-- All that rounds add are landings.
pub rounds_land : (start : StoreState) (count : ℕ) (log : LogState) (low : List Entry) (own : List ℕ) → MakesRounds start count low log own → Landings start log low own
rounds_land start zero log low own is = nothing_lands start log low own is.1
rounds_land start (suc count) log low own is = λ n there.
    elim (cases_lt 0 (times n is.3)) [
      | inl first ↦ landings_last start log is.0 is.1 low is.3 (round_lands start is.0 low is.3 is.5) n first
      | inr none ↦
          landings_lower start log is.0.history low is.4 is.2 (rounds_land start count log is.0.history is.4 is.6) n
          (let sum = is.7 n in omega (arith, sum, there, none))
    ]
