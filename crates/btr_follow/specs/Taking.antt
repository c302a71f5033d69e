-- Private promises: why an entry is not taken, and what taking it does to an engine.
use Rattle.std.specs.Prelude.{◌≡◌, ◌+◌, false, true, List, length, Result, Ok, Err, IfOk, IfErr, IsFalse}
use Rattle.btr_disk.specs.declared.disk.Disk.{Ghosts}
use Rattle.btr_hist.specs.declared.entry.Entry.{Entry}
use Rattle.btr_hist.specs.Legal.{Allowed}
use Rattle.btr_engine.specs.declared.engine.Engine.{Engine}
use Rattle.btr_engine.specs.declared.step.StepFault.{StepFault}
use Rattle.btr_engine.specs.declared.step.StepFault.TheVariants.{Stopped, Sealed, Rejected, DeviceFault}
use Rattle.btr_engine.specs.Engine.{is_stopped, is_sealed, is_home, IsEngineOf}
use Rattle.btr_engine.specs.Step.{HasResult, IsStep}
use Rattle.btr_follow.specs.declared.heard.Heard.{Heard}
use Rattle.btr_follow.specs.declared.heard.Heard.TheVariants as heard
use Rattle.btr_follow.specs.declared.taking.Refused.{Refused}
use Rattle.btr_follow.specs.declared.taking.Refused.TheVariants.{Foreign, Fault}
use Rattle.btr_follow.specs.Follower.{TakeCause, StepsWith}

-- What the follower returns for an entry that is not taken.
abbrev pub outcome_of : Refused → Result Heard StepFault
outcome_of Foreign = Ok heard.Foreign
outcome_of (Fault fault) = Err fault

module _ {D : Type 0} {disk : Ghosts D} where
  -- The engine adds nothing for this cause, and says so without a call of its device.
  abbrev pub IsQuiet : Engine D disk → Entry → StepFault → Type 0
  IsQuiet engine e (Rejected why) = ⊥
  IsQuiet engine e DeviceFault = ⊥
  IsQuiet engine e fault = HasResult engine engine e (Err fault)

  -- The engine is not sealed, unless this says that it is, or that it is stopped.
  abbrev pub TellsSeal : Engine D disk → StepFault → Type 0
  TellsSeal engine (Stopped entries) = Unit {0}
  TellsSeal engine Sealed = Unit {0}
  TellsSeal engine fault = is_sealed engine ≡ false

  -- An entry is not taken for this cause, also if the engine is of no history.
  abbrev pub IsRefusal : Engine D disk → Entry → Refused → Type 0
  IsRefusal engine e Foreign = (is_stopped engine ≡ false) × (is_sealed engine ≡ false)
  IsRefusal engine e (Fault fault) = IsQuiet engine e fault

  -- Why it is not taken if the engine is of this history.
  abbrev pub RefusalCause : List Entry → Engine D disk → Entry → Refused → Type 0
  RefusalCause h engine e Foreign = Allowed h e → ⊥
  RefusalCause h engine e (Fault fault) = TakeCause h engine engine e fault

  -- What is said of an entry if the engine is of this history.
  abbrev pub TakeAnswer : List Entry → Engine D disk → Entry → Heard → Type 0
  TakeAnswer h engine e (heard.Stale entries) = ⊥
  TakeAnswer h engine e (heard.Early entries) = ⊥
  TakeAnswer h engine e heard.Garbled = ⊥
  TakeAnswer h engine e heard.Foreign = IsFalse (is_stopped engine) × IsFalse (is_sealed engine) × (Allowed h e → ⊥)
  TakeAnswer h engine e (heard.Taken number) =
      IsFalse (is_stopped engine) × IsFalse (is_sealed engine) × Allowed h e × (number ≡ length h + 1)

  -- What was done with the engine.
  abbrev pub TakeStep : Engine D disk → Engine D disk → Entry → Result Heard StepFault → Type 0
  TakeStep old new e (Ok (heard.Taken number)) = StepsWith old new e number
  TakeStep old new e (Ok answer) = new ≡ old
  TakeStep old new e (Err (Rejected why)) = ⊥
  TakeStep old new e (Err DeviceFault) = IsStep old new e (Err DeviceFault)
  TakeStep old new e (Err fault) = new ≡ old

  -- What taking an entry with this result did.
  pub record IsTaking (old new : Engine D disk) (e : Entry) (result : Result Heard StepFault) : Type 0 where
    pub home : is_home new ≡ true
    pub answer : (h : List Entry) → IsEngineOf h old → IfOk result (TakeAnswer h old e)
    pub cause : (h : List Entry) → IsEngineOf h old → IfErr result (TakeCause h old new e)
    pub step : TakeStep old new e result
