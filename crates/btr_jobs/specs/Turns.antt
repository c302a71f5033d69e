-- What the result of one turn says of the history: of an entry that was to be added, and of a plan that was to be landed.
use Rattle.std.specs.Prelude.{◌≡◌, ℕ, ◌+◌, ◌<◌, true, false, ◌||◌, List, [], ◌∷◌, ◌++◌, length, Some, None, Result, Ok, Err}
use Rattle.std.specs.Option.{is_some}
use Rattle.btr_hist.specs.declared.entry.Entry.{Entry}
use Rattle.btr_hist.specs.declared.rejection.Rejection.TheVariants as rejections
use Rattle.btr_hist.specs.History.{latest}
use Rattle.btr_hist.specs.Legal.{rejection, Legal}
use Rattle.btr_hist.specs.Machine.Reply.{Accepted, Superseded, Rejected}
use Rattle.btr_hist.specs.Machine as machine
use Rattle.btr_distil.specs.Plan.{PlanValue, entry_of}
use Rattle.btr_plan.specs.Plan.{IsCurrent, reply_to}
use Rattle.btr_streams.specs.declared.board.Receipt.{Receipt}
use Rattle.btr_engine.specs.declared.step.StepFault.{StepFault}
use Rattle.btr_engine.specs.declared.step.StepFault.TheVariants as steps
use Rattle.btr_engine.specs.Body.{need_of, needs_of}
use Rattle.btr_streams.specs.Stage.{MayLackMemory, IsReceipt}
use Rattle.btr_gate.specs.Prefixes.{StartsWith}
use Rattle.btr_hall.specs.declared.land.LandFault.{LandFault}
use Rattle.btr_hall.specs.declared.land.LandFault.TheVariants as faults
use Rattle.btr_jobs.specs.States.{StoreState, LogState}

-- ---- what a turn adds: `p` is the history when it began, then come the numbers of what it added and the history after it

-- The entry follows the history of the turn, for ever.
pub record IsAdded (log : LogState) (p : List Entry) (e : Entry) (numbers : List ℕ) (after : List Entry) : Type 0 where
  pub follows : StartsWith log.history (p ++ e ∷ [])
  pub own : numbers ≡ (length p + 1) ∷ []
  pub next : after ≡ p ++ e ∷ []

-- The device failed in the step of the entry, and nothing follows the history of the turn.
pub record IsFailed (log : LogState) (p : List Entry) (e : Entry) (numbers : List ℕ) (after : List Entry) : Type 0 where
  pub last : log.history ≡ p
  pub failed : log.failed ≡ Some e
  pub own : numbers ≡ (length p + 1) ∷ []
  pub next : after ≡ p

-- Nothing was added.
pub record IsIdle (p : List Entry) (numbers : List ℕ) (after : List Entry) : Type 0 where
  pub own : numbers ≡ []
  pub next : after ≡ p

-- ---- why nothing was added

-- The store was stopped, with this number of entries: when the hall began, or since the device failed. Nothing follows.
pub record IsStopped (start : StoreState) (log : LogState) (p : List Entry) (count : ℕ) : Type 0 where
  pub stopped : (start.stopped || is_some log.failed) ≡ true
  pub last : log.history ≡ p
  pub entries : count ≡ length p

-- The store was sealed when the hall began, and was not stopped. Its history is as it was then.
pub record IsSealed (start : StoreState) (log : LogState) (p : List Entry) : Type 0 where
  pub sealed : start.sealed ≡ true
  pub runs : (start.stopped || is_some log.failed) ≡ false
  pub last : log.history ≡ p
  pub kept : p ≡ start.history

-- In a sealed store that is not stopped the result is this refusal.
abbrev pub SaysSealed : {F : Type 0} → StoreState → F → Result Receipt F → Type 0
SaysSealed start fault result = start.sealed ≡ true → start.stopped ≡ false → result ≡ Err fault

-- The entry needs more blocks than are left. What is left and what the history needs are together what they were at the start.
pub record IsFull (start : StoreState) (p : List Entry) (e : Entry) (needed room : ℕ) : Type 0 where
  pub need : needed ≡ need_of p e
  pub left : room + needs_of p ≡ start.left + needs_of start.history
  pub short : room < needed

-- ---- entries

-- The result of an entry in a turn.
abbrev pub Committed : StoreState → LogState → List Entry → Entry → Result Receipt StepFault → List ℕ → List Entry → Type 0
Committed start log p e (Ok receipt) own next = (rejection p e ≡ None) × IsReceipt p e receipt × IsAdded log p e own next
Committed start log p e (Err (steps.Stopped entries)) own next = IsStopped start log p entries × IsIdle p own next
Committed start log p e (Err steps.Sealed) own next = IsSealed start log p × IsIdle p own next
Committed start log p e (Err (steps.Rejected why)) own next = (rejection p e ≡ Some why) × IsIdle p own next
Committed start log p e (Err steps.Want) own next = MayLackMemory (rejection p e) × IsIdle p own next
Committed start log p e (Err (steps.DeviceFull need left)) own next =
    (rejection p e ≡ None) × IsFull start p e need left × IsIdle p own next
Committed start log p e (Err steps.DeviceFault) own next = (rejection p e ≡ None) × IsFailed log p e own next

-- The result of an entry, in a turn after all of `low` had been seen.
abbrev pub CommittedAfter : StoreState → LogState → List Entry → Entry → Result Receipt StepFault → List ℕ → List Entry → Type 0
CommittedAfter start log low e result own next =
    (p : List Entry) × StartsWith p low × StartsWith log.history p × Committed start log p e result own next
    × SaysSealed start steps.Sealed result

-- ---- plans

-- The result of a plan in a turn.
abbrev pub Landed : StoreState → LogState → List Entry → PlanValue → Result Receipt LandFault → List ℕ → List Entry → Type 0
Landed start log p plan (Ok receipt) own next =
    (reply_to p plan ≡ Accepted (machine.receipt p (entry_of plan))) × IsReceipt p (entry_of plan) receipt
    × IsAdded log p (entry_of plan) own next
Landed start log p plan (Err (faults.Stopped entries)) own next = IsStopped start log p entries × IsIdle p own next
Landed start log p plan (Err faults.Sealed) own next = IsSealed start log p × IsIdle p own next
Landed start log p plan (Err (faults.Superseded version)) own next =
    (reply_to p plan ≡ Superseded version) × (plan.base < version) × (version ≡ latest p plan.stream) × IsIdle p own next
Landed start log p plan (Err faults.VersionLimit) own next =
    IsCurrent p plan × (reply_to p plan ≡ Rejected rejections.VersionLimit) × IsIdle p own next
Landed start log p plan (Err (faults.Crowded at)) own next =
    IsCurrent p plan × (rejection p (entry_of plan) ≡ Some (rejections.Crowded at)) × (Legal p → ⊥) × IsIdle p own next
Landed start log p plan (Err (faults.TooManyPoints count)) own next =
    IsCurrent p plan × (rejection p (entry_of plan) ≡ Some (rejections.TooManyPoints count)) × (Legal p → ⊥) × IsIdle p own next
Landed start log p plan (Err faults.Want) own next =
    IsCurrent p plan × MayLackMemory (rejection p (entry_of plan)) × IsIdle p own next
Landed start log p plan (Err (faults.DeviceFull need left)) own next =
    IsCurrent p plan × (rejection p (entry_of plan) ≡ None) × IsFull start p (entry_of plan) need left × IsIdle p own next
Landed start log p plan (Err faults.DeviceFault) own next =
    IsCurrent p plan × (rejection p (entry_of plan) ≡ None) × IsFailed log p (entry_of plan) own next

-- The result of a plan, in a turn after all of `low` had been seen.
abbrev pub LandedAfter : StoreState → LogState → List Entry → PlanValue → Result Receipt LandFault → List ℕ → List Entry → Type 0
LandedAfter start log low plan result own next =
    (p : List Entry) × StartsWith p low × StartsWith log.history p × Landed start log p plan result own next
    × SaysSealed start faults.Sealed result
