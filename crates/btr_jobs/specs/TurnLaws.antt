-- The laws of what turns say, which the ghost members of jobs cite: it is true for ever, and also of who had seen less.
use Rattle.std.specs.Prelude.{◌≡◌, ℕ, true, ◌||◌, List, Result, Ok, Err}
use Rattle.std.specs.Option.{is_some}
use Rattle.std.proofs.Common.{refl, sym, ap, ◌∙◌, subst}
use Rattle.std.proofs.lemmas.Bool.{or_right}
use Rattle.btr_hist.specs.declared.entry.Entry.{Entry}
use Rattle.btr_distil.specs.Plan.{PlanValue, entry_of}
use Rattle.btr_streams.specs.declared.board.Receipt.{Receipt}
use Rattle.btr_engine.specs.declared.step.StepFault.{StepFault}
use Rattle.btr_engine.specs.declared.step.StepFault.TheVariants as steps
use Rattle.btr_gate.specs.Prefixes.{StartsWith}
use Rattle.btr_gate.proofs.PrefixLemmas.{starts_refl, starts_trans}
use Rattle.btr_hall.specs.declared.land.LandFault.{LandFault}
use Rattle.btr_hall.specs.declared.land.LandFault.TheVariants as faults
use Rattle.btr_jobs.specs.States.{StoreState, LogState, GoesOn}
use Rattle.btr_jobs.specs.Turns.{IsAdded, IsFailed, IsStopped, IsSealed, Committed, CommittedAfter, Landed, LandedAfter}

-- ---- states of the log

pub goes_refl : (start : StoreState) (log : LogState) → GoesOn start log log
goes_refl start log = record { begins = starts_refl log.history; ends = λ _. refl; sealed = λ _. refl }

pub goes_trans : (start : StoreState) (last late early : LogState) → GoesOn start last late → GoesOn start late early
    → GoesOn start last early
goes_trans start last late early after on = record {
  begins = starts_trans last.history late.history early.history after.begins on.begins;
  ends = λ stopped.
      let same = on.ends stopped in
      after.ends (ap (λ (c : LogState). start.stopped || is_some c.failed) same ∙ stopped) ∙ same;
  sealed = λ sealed. after.sealed sealed ∙ on.sealed sealed;
}

-- The history of a turn still begins a later state of the log.
pub history_later : (start : StoreState) (late early : LogState) (p : List Entry) → GoesOn start late early
    → StartsWith early.history p → StartsWith late.history p
history_later start late early p on starts = starts_trans late.history early.history p on.begins starts

-- ---- what a turn adds, and why it adds nothing

added_lasts : (start : StoreState) (late early : LogState) (p : List Entry) (e : Entry) (own : List ℕ) (next : List Entry)
    → GoesOn start late early → IsAdded early p e own next → IsAdded late p e own next
added_lasts start late early p e own next on is =
    record { follows = history_later start late early _ on is.follows; own = is.own; next = is.next }

failed_lasts : (start : StoreState) (late early : LogState) (p : List Entry) (e : Entry) (own : List ℕ) (next : List Entry)
    → GoesOn start late early → IsFailed early p e own next → IsFailed late p e own next
failed_lasts start late early p e own next on is =
    let failed : is_some early.failed ≡ true = ap is_some is.failed in
    subst (λ c. IsFailed c p e own next) (sym (on.ends (or_right start.stopped (is_some early.failed) failed))) is

stopped_lasts : (start : StoreState) (late early : LogState) (p : List Entry) (entries : ℕ) → GoesOn start late early
    → IsStopped start early p entries → IsStopped start late p entries
stopped_lasts start late early p entries on is = subst (λ c. IsStopped start c p entries) (sym (on.ends is.stopped)) is

sealed_lasts : (start : StoreState) (late early : LogState) (p : List Entry) → GoesOn start late early
    → IsSealed start early p → IsSealed start late p
sealed_lasts start late early p on is = subst (λ c. IsSealed start c p) (sym (on.sealed is.sealed)) is

-- ---- entries

-- What a turn of an entry says, at the history of the turn.
pub committed_still : (start : StoreState) (late early : LogState) (p : List Entry) (e : Entry) (result : Result Receipt StepFault)
    (own : List ℕ) (next : List Entry) → GoesOn start late early
    → Committed start early p e result own next → Committed start late p e result own next
committed_still start late early p e (Ok receipt) own next on is = (is.0, is.1, added_lasts start late early p e own next on is.2)
committed_still start late early p e (Err (steps.Stopped entries)) own next on is =
    (stopped_lasts start late early p entries on is.0, is.1)
committed_still start late early p e (Err steps.Sealed) own next on is = (sealed_lasts start late early p on is.0, is.1)
committed_still start late early p e (Err (steps.Rejected why)) own next on is = is
committed_still start late early p e (Err steps.Want) own next on is = is
committed_still start late early p e (Err (steps.DeviceFull need left)) own next on is = is
committed_still start late early p e (Err steps.DeviceFault) own next on is =
    (is.0, failed_lasts start late early p e own next on is.1)

-- What a turn of an entry says is true for ever.
pub committed_lasts : (start : StoreState) (late early : LogState) (low : List Entry) (e : Entry) (result : Result Receipt StepFault)
    (own : List ℕ) (next : List Entry) → GoesOn start late early
    → CommittedAfter start early low e result own next → CommittedAfter start late low e result own next
committed_lasts start late early low e result own next on is =
    (is.0, is.1, history_later start late early is.0 on is.2, committed_still start late early is.0 e result own next on is.3, is.4)

-- It is true after less had been seen.
pub committed_lowers : (start : StoreState) (log : LogState) (low less : List Entry) (e : Entry) (result : Result Receipt StepFault)
    (own : List ℕ) (next : List Entry) → StartsWith low less
    → CommittedAfter start log low e result own next → CommittedAfter start log less e result own next
committed_lowers start log low less e result own next starts is = (is.0, starts_trans is.0 low less is.1 starts, is.2, is.3, is.4)

-- ---- plans

-- What a turn of a plan says, at the history of the turn.
pub landed_still : (start : StoreState) (late early : LogState) (p : List Entry) (plan : PlanValue) (result : Result Receipt LandFault)
    (own : List ℕ) (next : List Entry) → GoesOn start late early
    → Landed start early p plan result own next → Landed start late p plan result own next
landed_still start late early p plan (Ok receipt) own next on is =
    (is.0, is.1, added_lasts start late early p (entry_of plan) own next on is.2)
landed_still start late early p plan (Err (faults.Stopped entries)) own next on is =
    (stopped_lasts start late early p entries on is.0, is.1)
landed_still start late early p plan (Err faults.Sealed) own next on is = (sealed_lasts start late early p on is.0, is.1)
landed_still start late early p plan (Err (faults.Superseded version)) own next on is = is
landed_still start late early p plan (Err faults.VersionLimit) own next on is = is
landed_still start late early p plan (Err (faults.Crowded at)) own next on is = is
landed_still start late early p plan (Err (faults.TooManyPoints count)) own next on is = is
landed_still start late early p plan (Err faults.Want) own next on is = is
landed_still start late early p plan (Err (faults.DeviceFull need left)) own next on is = is
landed_still start late early p plan (Err faults.DeviceFault) own next on is =
    (is.0, is.1, failed_lasts start late early p (entry_of plan) own next on is.2)

-- What a turn of a plan says is true for ever.
pub landed_lasts : (start : StoreState) (late early : LogState) (low : List Entry) (plan : PlanValue) (result : Result Receipt LandFault)
    (own : List ℕ) (next : List Entry) → GoesOn start late early
    → LandedAfter start early low plan result own next → LandedAfter start late low plan result own next
landed_lasts start late early low plan result own next on is =
    (is.0, is.1, history_later start late early is.0 on is.2, landed_still start late early is.0 plan result own next on is.3, is.4)

-- It is true after less had been seen.
pub landed_lowers : (start : StoreState) (log : LogState) (low less : List Entry) (plan : PlanValue) (result : Result Receipt LandFault)
    (own : List ℕ) (next : List Entry) → StartsWith low less
    → LandedAfter start log low plan result own next → LandedAfter start log less plan result own next
landed_lowers start log low less plan result own next starts is = (is.0, starts_trans is.0 low less is.1 starts, is.2, is.3, is.4)
