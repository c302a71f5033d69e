-- What the turn of a plan does: which item it adds to the list, and what its result says of the history.
use Rattle.std.specs.Prelude.{◌≡◌, ◌+◌, ◌<◌, true, false, List, [], ◌∷◌, ◌++◌, length, Some, None}
use Rattle.std.specs.Prelude.{option_to_list, Result, Ok, Err}
use Rattle.btr_disk.specs.declared.disk.Disk.{Ghosts}
use Rattle.btr_hist.specs.declared.entry.Entry.{Entry}
use Rattle.btr_hist.specs.declared.rejection.Rejection.TheVariants as rejections
use Rattle.btr_hist.specs.History.{latest}
use Rattle.btr_hist.specs.Legal.{rejection, Legal}
use Rattle.btr_hist.specs.Machine.Reply.{Accepted, Superseded, Rejected}
use Rattle.btr_hist.specs.Machine as machine
use Rattle.btr_distil.specs.Plan.{PlanValue, entry_of}
use Rattle.btr_plan.specs.Plan.{IsCurrent, reply_to, landed_after}
use Rattle.btr_engine.specs.declared.engine.Engine.{Engine}
use Rattle.btr_streams.specs.declared.board.Receipt.{Receipt}
use Rattle.btr_engine.specs.declared.step.StepFault.{StepFault}
use Rattle.btr_engine.specs.declared.step.StepFault.TheVariants as steps
use Rattle.btr_engine.specs.Body.{need_of, needs_after}
use Rattle.btr_engine.specs.Engine.{room_of, is_sealed, IsEngineOf}
use Rattle.btr_streams.specs.Stage.{MayLackMemory, IsReceipt}
use Rattle.btr_engine.specs.Step.{HasResult}
use Rattle.btr_gate.specs.Prefixes.{StartsWith}
use Rattle.btr_hall.specs.declared.item.Item.{Item}
use Rattle.btr_hall.specs.declared.land.LandFault.{LandFault}
use Rattle.btr_hall.specs.declared.land.LandFault.TheVariants as faults
use Rattle.btr_hall.specs.declared.session.Hall.{Hall}
use Rattle.btr_hall.specs.declared.session.Session.{Session}
use Rattle.btr_hall.specs.Trace.{IsTraceOf, engine_after, entries_in, stopped_in, history_of}
use Rattle.btr_hall.specs.Session.{IsAlone, HasTurns, opening_of, seen_of, mine_of, engine_of}
use Rattle.btr_hall.specs.Commit.{item_by, number_by}

-- The fault of the step of a landing. There was no step if the plan was superseded.
abbrev pub step_fault : LandFault → StepFault
step_fault (faults.Stopped entries) = steps.Stopped entries
step_fault faults.Sealed = steps.Sealed
step_fault (faults.Superseded version) = steps.Want
step_fault faults.VersionLimit = steps.Rejected rejections.VersionLimit
step_fault (faults.Crowded start) = steps.Rejected (rejections.Crowded start)
step_fault (faults.TooManyPoints count) = steps.Rejected (rejections.TooManyPoints count)
step_fault faults.Want = steps.Want
step_fault (faults.DeviceFull need left) = steps.DeviceFull need left
step_fault faults.DeviceFault = steps.DeviceFault

-- The result of the step of a landing.
abbrev pub step_result : Result Receipt LandFault → Result Receipt StepFault
step_result (Ok receipt) = Ok receipt
step_result (Err fault) = Err (step_fault fault)

module _ {D : Type 0} {disk : Ghosts D} where
  -- What the result of a landing says of the history h, to which the list `before` leads from the engine `x`, which is of `first`: the
  -- model's reply, or why the device or the memory refused.
  abbrev pub LandingReplies : Engine D disk → List Entry → List (Item D disk) → List Entry → PlanValue → Result Receipt LandFault → Type 0
  LandingReplies x first before h p (Ok receipt) =
      (reply_to h p ≡ Accepted (machine.receipt h (entry_of p))) × (landed_after h p ≡ h ++ entry_of p ∷ [])
      × IsReceipt h (entry_of p) receipt × (receipt.number ≡ length before + 1)
  LandingReplies x first before h p (Err (faults.Stopped entries)) = (stopped_in x before ≡ true) × (entries ≡ length h)
  LandingReplies x first before h p (Err faults.Sealed) = (stopped_in x before ≡ false) × (is_sealed x ≡ true)
  LandingReplies x first before h p (Err (faults.Superseded version)) =
      (reply_to h p ≡ Superseded version) × (p.base < version) × (version ≡ latest h p.stream)
  LandingReplies x first before h p (Err faults.VersionLimit) = IsCurrent h p × (reply_to h p ≡ Rejected rejections.VersionLimit)
  LandingReplies x first before h p (Err (faults.Crowded start)) =
      IsCurrent h p × (rejection h (entry_of p) ≡ Some (rejections.Crowded start)) × (Legal h → ⊥)
  LandingReplies x first before h p (Err (faults.TooManyPoints count)) =
      IsCurrent h p × (rejection h (entry_of p) ≡ Some (rejections.TooManyPoints count)) × (Legal h → ⊥)
  LandingReplies x first before h p (Err faults.Want) = IsCurrent h p × MayLackMemory (rejection h (entry_of p))
  LandingReplies x first before h p (Err (faults.DeviceFull need left)) =
      IsCurrent h p × (rejection h (entry_of p) ≡ None) × (need ≡ need_of h (entry_of p))
      × (left + needs_after first (entries_in before) ≡ room_of x) × (left < need)
  LandingReplies x first before h p (Err faults.DeviceFault) = IsCurrent h p × (rejection h (entry_of p) ≡ None)

  -- The turn of a plan, which may be followed by another that brings the log back. `before` is the list when it began, which begins with
  -- all that the session had seen. The session has then seen this list, and the item that the turn added, whose number is its own. What an
  -- engine promises of a step holds of this item, since the list is a trace. The engine is as after a step with this result, also if it is
  -- of no history.
  pub record Lands (hall : Hall D disk) (old new : Session D disk) (p : PlanValue) (result : Result Receipt LandFault) : Type 0 where
    pub turn : HasTurns old new
    pub before : List (Item D disk)
    pub grows : StartsWith before (seen_of old)
    pub alone : IsAlone old → before ≡ seen_of old
    pub trace : IsTraceOf (opening_of hall) (seen_of new)
    pub seen : seen_of new ≡ before ++ option_to_list (item_by (step_result result) (entry_of p) (engine_of hall new))
    pub mine : mine_of new ≡ mine_of old ++ option_to_list (number_by (step_result result) (length (seen_of new)))
    pub effect : HasResult (engine_after (opening_of hall) before) (engine_of hall new) (entry_of p) (step_result result)
    pub stopped : stopped_in (opening_of hall) before ≡ true
        → (h : List Entry) → IsEngineOf h (opening_of hall) → result ≡ Err (faults.Stopped (length (history_of h before)))
    pub sealed : stopped_in (opening_of hall) before ≡ false → is_sealed (opening_of hall) ≡ true → result ≡ Err faults.Sealed
    pub replies : (h : List Entry) → IsEngineOf h (opening_of hall)
        → LandingReplies (opening_of hall) h before (history_of h before) p result
