-- What the private functions promise that land a plan: whether it is superseded, and what is said of the result of its step.
use Rattle.std.specs.Prelude.{◌≡◌, ℕ, ◌<◌, ◌≤◌, false, List, Option, Some, None, Result, Ok, Err}
use Rattle.btr_disk.specs.declared.disk.Disk.{Ghosts}
use Rattle.btr_hist.specs.declared.entry.Entry.{Entry}
use Rattle.btr_hist.specs.History.{latest}
use Rattle.btr_hist.specs.declared.rejection.Rejection.{Rejection}
use Rattle.btr_hist.specs.declared.rejection.Rejection.TheVariants as rejections
use Rattle.btr_distil.specs.Plan.{PlanValue, entry_of}
use Rattle.btr_streams.specs.declared.board.Receipt.{Receipt}
use Rattle.btr_engine.specs.declared.step.StepFault.{StepFault}
use Rattle.btr_engine.specs.declared.step.StepFault.TheVariants as steps
use Rattle.btr_engine.specs.Engine.{is_stopped, is_sealed, IsEngineOf}
use Rattle.btr_hall.specs.declared.item.Item.{Item}
use Rattle.btr_hall.specs.declared.land.LandFault.{LandFault}
use Rattle.btr_hall.specs.declared.land.LandFault.TheVariants as faults
use Rattle.btr_hall.specs.declared.land.LandFault.TheVariants.{Superseded}
use Rattle.btr_hall.specs.declared.store.Store.{Store}
use Rattle.btr_hall.specs.Commit.{Adds}

-- What is said of a rejection: its name, if the plan of a history can meet it. Of the others, which never come if there is a history, it
-- is said that memory ran out.
abbrev pub said_rejection : Rejection → LandFault
said_rejection rejections.VersionLimit = faults.VersionLimit
said_rejection (rejections.Crowded start) = faults.Crowded start
said_rejection (rejections.TooManyPoints count) = faults.TooManyPoints count
said_rejection why = faults.Want

-- What is said of the fault of a step.
abbrev pub said_fault : StepFault → LandFault
said_fault (steps.Stopped entries) = faults.Stopped entries
said_fault steps.Sealed = faults.Sealed
said_fault (steps.Rejected why) = said_rejection why
said_fault steps.Want = faults.Want
said_fault (steps.DeviceFull need left) = faults.DeviceFull need left
said_fault steps.DeviceFault = faults.DeviceFault

-- What is said of the result of a step.
abbrev pub said_result : Result Receipt StepFault → Result Receipt LandFault
said_result (Ok receipt) = Ok receipt
said_result (Err fault) = Err (said_fault fault)

module _ {D : Type 0} {disk : Ghosts D} where
  -- The output has no version above the one that the plan follows, unless the engine is stopped or sealed.
  abbrev pub IsNotSuperseded : Store D disk → PlanValue → Type 0
  IsNotSuperseded s p =
      is_stopped s.engine ≡ false → is_sealed s.engine ≡ false
      → (h : List Entry) → IsEngineOf h s.engine → latest h p.stream ≤ p.base

  -- The latest version of the output, if it is above the one that the plan follows and the engine is not stopped nor sealed.
  abbrev pub IsSupersededBy : Store D disk → PlanValue → Option ℕ → Type 0
  IsSupersededBy s p None = IsNotSuperseded s p
  IsSupersededBy s p (Some version) =
      (is_stopped s.engine ≡ false) × (is_sealed s.engine ≡ false) × (p.base < version)
      × ((h : List Entry) → IsEngineOf h s.engine → latest h p.stream ≡ version)

  -- The plan was superseded, and nothing changed. Or the engine did the step of its entry, of whose result this is said.
  abbrev pub StoreLands : Store D disk → Store D disk → PlanValue → Option (Item D disk) → Result Receipt LandFault → Type 0
  StoreLands old new p added (Err (Superseded version)) =
      (new ≡ old) × (added ≡ None) × IsSupersededBy old p (Some version)
  StoreLands old new p added result =
      (step : Result Receipt StepFault) × Adds old new (entry_of p) step added × IsNotSuperseded old p × (result ≡ said_result step)
