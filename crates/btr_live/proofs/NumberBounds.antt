-- Bounds of the numbers of what was added: after the history of the turn, and in the history that is known if nothing failed.
use Rattle.std.specs.Prelude.{◌≡◌, ℕ, Bool, ◌+◌, ◌<◌, ◌≤◌, List, [], ◌∷◌, ◌++◌, length, Option, Some, None, Result, Ok, Err}
use Rattle.std.proofs.Common.{refl, sym, ap, arith, inl, inr, length-append}
use Rattle.std.proofs.lemmas.Bool.{cases_lt, cases_eq}
use Rattle.btr_hist.specs.declared.entry.Entry.{Entry}
use Rattle.btr_hist.specs.declared.entry.Entry.TheVariants as entries
use Rattle.btr_distil.specs.Plan.{PlanValue, entry_of}
use Rattle.btr_streams.specs.declared.board.Receipt.{Receipt}
use Rattle.btr_engine.specs.declared.step.StepFault.{StepFault}
use Rattle.btr_engine.specs.declared.step.StepFault.TheVariants as steps
use Rattle.btr_text.specs.declared.script.Line.{Line}
use Rattle.btr_text.specs.declared.reply.LineReply.{LineReply}
use Rattle.btr_gate.specs.Numbers.{times}
use Rattle.btr_gate.specs.Prefixes.{StartsWith}
use Rattle.btr_gate.proofs.NumberLemmas.{one_other, one_same, times_append}
use Rattle.btr_gate.proofs.PrefixLemmas.{starts_length}
use Rattle.btr_hall.specs.declared.land.LandFault.{LandFault}
use Rattle.btr_hall.specs.declared.land.LandFault.TheVariants as faults
use Rattle.btr_jobs.specs.States.{StoreState, LogState}
use Rattle.btr_jobs.specs.Turns.{IsAdded, IsFailed, IsIdle, Committed, CommittedAfter, Landed, LandedAfter}
use Rattle.btr_live.specs.Meaning.{Meaning, Commits, Asks, Holds, Current, Refuses}
use Rattle.btr_live.specs.Lanes.{Offers, Answers, LaneState, RunsLines}
use Rattle.btr_live.proofs.LandingLemmas.{IsLanding}

only : (n m : ℕ) (own : List ℕ) → own ≡ m ∷ [] → 1 ≤ times n own → n ≡ m
only n m own is some =
    elim (cases_eq n m) [
      | inl same ↦ same
      | inr differs ↦ absurd (omega (arith, some, ap (times n) is, one_other m n (λ e. differs (sym e))))
    ]

nothing : (P : Type 0) (n : ℕ) (own : List ℕ) → own ≡ [] → 1 ≤ times n own → P
nothing P n own is some = absurd (omega (arith, some, ap (times n) is))

no_failure : (P : Type 0) (failed : Option Entry) (e : Entry) → failed ≡ None → failed ≡ Some e → P
no_failure P failed e none some = absurd (cc)

-- The number is after a history, and in the one that is known.
pub record IsWithin (log : LogState) (low : List Entry) (n : ℕ) : Type 0 where
  pub above : length low < n
  pub inside : n ≤ length log.history

module _ (start : StoreState) (log : LogState) (sound : log.failed ≡ None) (n : ℕ) where
  added : (p : List Entry) (e : Entry) (own : List ℕ) (next : List Entry) → IsAdded log p e own next → 1 ≤ times n own → IsWithin log p n
  added p e own next is some =
      let number = only n (length p + 1) own is.own some in
      let long = starts_length log.history (p ++ e ∷ []) is.follows in
      let all = length-append p (e ∷ []) in
      record { above = omega (arith, number); inside = omega (arith, number, long, all) }

  failed : (p : List Entry) (e : Entry) (own : List ℕ) (next : List Entry) → IsFailed log p e own next → IsWithin log p n
  failed p e own next is = no_failure (IsWithin log p n) log.failed e sound is.failed

  idle : (p : List Entry) (own : List ℕ) (next : List Entry) → IsIdle p own next → 1 ≤ times n own → IsWithin log p n
  idle p own next is some = nothing (IsWithin log p n) n own is.own some

  committed : (p : List Entry) (e : Entry) (result : Result Receipt StepFault) (own : List ℕ) (next : List Entry) → Committed start log p e result own next → 1 ≤ times n own → IsWithin log p n
  committed p e (Ok receipt) own next is some = added p e own next is.2 some
  committed p e (Err (steps.Stopped entries)) own next is some = idle p own next is.1 some
  committed p e (Err steps.Sealed) own next is some = idle p own next is.1 some
  committed p e (Err (steps.Rejected why)) own next is some = idle p own next is.1 some
  committed p e (Err steps.Want) own next is some = idle p own next is.1 some
  committed p e (Err (steps.DeviceFull need left)) own next is some = idle p own next is.2 some
  committed p e (Err steps.DeviceFault) own next is some = failed p e own next is.1

  landed : (p : List Entry) (plan : PlanValue) (result : Result Receipt LandFault) (own : List ℕ) (next : List Entry) → Landed start log p plan result own next → 1 ≤ times n own → IsWithin log p n
  landed p plan (Ok receipt) own next is some = added p (entry_of plan) own next is.2 some
  landed p plan (Err (faults.Stopped entries)) own next is some = idle p own next is.1 some
  landed p plan (Err faults.Sealed) own next is some = idle p own next is.1 some
  landed p plan (Err (faults.Superseded version)) own next is some = idle p own next is.3 some
  landed p plan (Err faults.VersionLimit) own next is some = idle p own next is.2 some
  landed p plan (Err (faults.Crowded at)) own next is some = idle p own next is.3 some
  landed p plan (Err (faults.TooManyPoints count)) own next is some = idle p own next is.3 some
  landed p plan (Err faults.Want) own next is some = idle p own next is.2 some
  landed p plan (Err (faults.DeviceFull need left)) own next is some = idle p own next is.3 some
  landed p plan (Err faults.DeviceFault) own next is some = failed p (entry_of plan) own next is.2

  after : (p low : List Entry) → StartsWith p low → IsWithin log p n → IsWithin log low n
  after p low starts is =
      let long = starts_length p low starts in
      record { above = omega (arith, is.above, long); inside = is.inside }

  committed_after : (low : List Entry) (e : Entry) (result : Result Receipt StepFault) (own : List ℕ) (next : List Entry) → CommittedAfter start log low e result own next → 1 ≤ times n own → IsWithin log low n
  committed_after low e result own next is some = after is.0 low is.1 (committed is.0 e result own next is.3 some)

  landed_after : (low : List Entry) (plan : PlanValue) (result : Result Receipt LandFault) (own : List ℕ) (next : List Entry) → LandedAfter start log low plan result own next → 1 ≤ times n own → IsWithin log low n
  landed_after low plan result own next is some = after is.0 low is.1 (landed is.0 plan result own next is.3 some)

  offers_within : (saw_failure : Bool) (low : List Entry) (e : Entry) (reply : LineReply) (own : List ℕ) (next : List Entry) → Offers start log saw_failure low e reply own next → 1 ≤ times n own → IsWithin log low n
  offers_within saw_failure low (entries.Create id) reply own next is some = committed_after low (entries.Create id) is.0 own next is.1 some
  offers_within saw_failure low (entries.Define id spec) reply own next is some = committed_after low (entries.Define id spec) is.0 own next is.1 some
  offers_within saw_failure low (entries.Commit stream cut more) reply own next is some = committed_after low (entries.Commit stream cut more) is.0 own next is.1 some
  offers_within saw_failure low (entries.Distillate stream cut more reads) reply own next is some = landed_after low is.0 is.3 own next is.4 some
  offers_within saw_failure low (entries.Retire stream first) reply own next is some = committed_after low (entries.Retire stream first) is.0 own next is.1 some

  answers_within : (saw_failure : Bool) (low : List Entry) (m : Meaning) (reply : LineReply) (own : List ℕ) (next : List Entry) → Answers start log saw_failure low m reply own next → 1 ≤ times n own → IsWithin log low n
  answers_within saw_failure low (Commits e) reply own next is some = offers_within saw_failure low e reply own next is some
  answers_within saw_failure low (Asks query) reply own next is some = idle low own next is.1 some
  answers_within saw_failure low (Holds count) reply own next is some = idle low own next is.1 some
  answers_within saw_failure low (Current version) reply own next is some = idle low own next is.1 some
  answers_within saw_failure low (Refuses reason) reply own next is some = idle low own next is.1 some

  -- The number of an entry of a line is in the history.
  pub lines_inside : (batch : ℕ) (old : LaneState) (lines : List (Option Line)) (replies : List LineReply) (own : List ℕ) (new : LaneState) → RunsLines batch start log old lines replies own new → 1 ≤ times n own → n ≤ length log.history
  lines_inside batch old [] [] own new is some = nothing (n ≤ length log.history) n own is.0 some
  lines_inside batch old [] (r ∷ rs) own new is some = absurd is
  lines_inside batch old (l ∷ ls) [] own new is some = absurd is
  lines_inside batch old (l ∷ ls) (r ∷ rs) own new is some =
      elim (cases_lt 0 (times n is.0)) [
        | inl first ↦ (answers_within old.saw_failure is.4.admitted is.4.asked r is.0 is.2.history is.4.answers first).inside
        | inr none ↦ lines_inside batch is.2 ls rs is.1 new is.5
            (let all = ap (times n) is.3 in let both = times_append n is.0 is.1 in omega (arith, some, none, all, both))
      ]

  -- So is the number of a landing, which is after the history at which it was planned.
  pub landing_within : (low : List Entry) → IsLanding start log low n → IsWithin log low n
  landing_within low is =
      after is.at low is.after (landed_after is.at is.plan is.result (n ∷ []) is.next is.landed (omega (arith, one_here)))
    where
      one_here : times n (n ∷ []) ≡ 1
      one_here = let here = one_same n n refl in omega (arith, here)
