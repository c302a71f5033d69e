-- What contracts see of a follower, and what a frame does to it.
use Rattle.std.specs.Prelude.{◌≡◌, ◌⊎◌, ℕ, ◌<◌, Bool, false, List, [], length, Result, Ok, Err, IfOk, IfErr, OnOk, IsTrue, IsFalse}
use Rattle.btr_disk.specs.declared.disk.Disk.{Ghosts}
use Rattle.btr_disk.specs.Bytes.{Image}
use Rattle.btr_hist.specs.declared.entry.Entry.{Entry}
use Rattle.btr_hist.specs.Legal.{Allowed}
use Rattle.btr_entry.specs.Grammar.{IsEntry}
use Rattle.btr_streams.specs.declared.board.Receipt.{Receipt}
use Rattle.btr_engine.specs.declared.engine.Engine.{Engine}
use Rattle.btr_engine.specs.declared.step.StepFault.{StepFault}
use Rattle.btr_engine.specs.declared.step.StepFault.TheVariants.{Stopped, Sealed, Rejected, Want, DeviceFull, DeviceFault}
use Rattle.btr_engine.specs.Body.{need_of}
use Rattle.btr_engine.specs.Holds.{HoldsHistory}
use Rattle.btr_engine.specs.Engine.{device, entries_of, room_of, is_stopped, is_sealed, IsEngineOf, IsAtRest, IsDurable, EngineLeaves}
use Rattle.btr_engine.specs.Step.{CanStep, StopsByFault, IsStep}
use Rattle.btr_follow.specs.declared.follower.Follower.{Follower}
use Rattle.btr_follow.specs.declared.frame.Frame.{Frame}
use Rattle.btr_follow.specs.declared.heard.Heard.{Heard}
use Rattle.btr_follow.specs.declared.heard.Heard.TheVariants.{Stale, Early, Garbled, Foreign, Taken}
use Rattle.btr_follow.specs.Hears.{IsNextFrame, Brings, BringsAllowed, Hears}

-- These answers are returned only if the engine is not stopped and the store is not sealed.
abbrev pub RunsFor : Heard → Bool → Bool → Type 0
RunsFor (Stale entries) stopped sealed = Unit {0}
RunsFor (Early entries) stopped sealed = Unit {0}
RunsFor Garbled stopped sealed = Unit {0}
RunsFor Foreign stopped sealed = IsFalse stopped × IsFalse sealed
RunsFor (Taken number) stopped sealed = IsFalse stopped × IsFalse sealed

-- The image holds the history with the entry of the frame, which is allowed.
pub record HoldsTaken (size : ℕ) (h : List Entry) (f : Frame) (image : Image) : Type 0 where
  pub after : List Entry
  pub allowed : BringsAllowed h f after
  pub holds : HoldsHistory size image after

-- The image holds the history, or the history with the entry of the frame.
abbrev pub IsTornBy : ℕ → List Entry → Frame → Image → Type 0
IsTornBy size h f image = HoldsHistory size image h ⊎ HoldsTaken size h f image

module _ {D : Type 0} {disk : Ghosts D} where
  -- ---- what is seen of a follower

  -- Its engine.
  abbrev pub engine_of : Follower D disk → Engine D disk
  engine_of f = f.engine

  -- It follows this history.
  abbrev pub IsFollowerOf : List Entry → Follower D disk → Type 0
  IsFollowerOf h f = IsEngineOf h (engine_of f)

  -- The number of entries that it has acknowledged.
  abbrev pub acked_of : Follower D disk → ℕ
  acked_of f = entries_of (engine_of f)

  -- The device holds the history that it follows, and a crash from now on leaves no less than the entries that it has acknowledged.
  pub record HasAcknowledged (f : Follower D disk) : Type 0 where
    pub history : List Entry
    pub at_rest : IsAtRest history (engine_of f)
    pub durable : IsDurable history (disk.calls (device (engine_of f))) (acked_of f) (engine_of f) []

  -- ---- what an entry does to its engine

  -- There is less room than the entry needs, and the engine is not stopped nor the store sealed.
  pub record IsFullFor (h : List Entry) (engine : Engine D disk) (e : Entry) (need left : ℕ) : Type 0 where
    pub runs : is_stopped engine ≡ false
    pub unsealed : is_sealed engine ≡ false
    pub needs : need ≡ need_of h e
    pub leaves : left ≡ room_of engine
    pub less : left < need

  -- Why an entry is not answered if the engine is of this history.
  abbrev pub TakeCause : List Entry → Engine D disk → Engine D disk → Entry → StepFault → Type 0
  TakeCause h old new e (Stopped entries) = IsTrue (is_stopped old) × (entries ≡ length h)
  TakeCause h old new e Sealed = IsFalse (is_stopped old) × IsTrue (is_sealed old)
  TakeCause h old new e (Rejected why) = ⊥
  TakeCause h old new e Want = Unit {0}
  TakeCause h old new e (DeviceFull need left) = Allowed h e × IsFullFor h old e need left
  TakeCause h old new e DeviceFault = Allowed h e × CanStep h old e × StopsByFault old new e

  -- The engine made a step with the entry. Its receipt has this number.
  pub record StepsWith (old new : Engine D disk) (e : Entry) (number : ℕ) : Type 0 where
    pub receipt : Receipt
    pub numbered : receipt.number ≡ number
    pub step : IsStep old new e (Ok receipt)

  -- ---- what a frame does to a follower

  -- A follower of this history answers this to the frame, and follows what the answer leads to.
  pub record HasHeard (h : List Entry) (old new : Follower D disk) (f : Frame) (answer : Heard) : Type 0 where
    pub after : List Entry
    pub hears : Hears h f answer after
    pub of : IsFollowerOf after new
    pub runs : RunsFor answer (is_stopped (engine_of old)) (is_sealed (engine_of old))

  -- Why a frame is not answered if the follower follows this history. It has the number of the next entry, and there was not enough memory,
  -- or its bytes spell an entry that is not answered.
  abbrev pub HearCause : List Entry → Follower D disk → Follower D disk → Frame → StepFault → Type 0
  HearCause h old new f Want = IsNextFrame h f
  HearCause h old new f fault = (e : Entry) × Brings h f e × TakeCause h (engine_of old) (engine_of new) e fault

  -- Whatever history the follower was of, an answer to the frame is the one of that history.
  abbrev pub AnswersFrame : Follower D disk → Follower D disk → Frame → Result Heard StepFault → Type 0
  AnswersFrame old new f result = (h : List Entry) → IsFollowerOf h old → IfOk result (HasHeard h old new f)

  -- Whatever history the follower was of, a frame without an answer has its cause.
  abbrev pub FailsWithCause : Follower D disk → Follower D disk → Frame → Result Heard StepFault → Type 0
  FailsWithCause old new f result = (h : List Entry) → IsFollowerOf h old → IfErr result (HearCause h old new f)

  -- If the device tells its contents and held a history at rest, after an answer it holds all that the follower has acknowledged.
  abbrev pub AnswersAcknowledged : Follower D disk → Follower D disk → Result Heard StepFault → Type 0
  AnswersAcknowledged old new result =
      disk.is_observable → (h : List Entry) → IsAtRest h (engine_of old) → OnOk result (HasAcknowledged new)

  -- What a frame with this result did to the engine, also if the follower follows no history: it is as before, or made a step with the
  -- entry that the bytes spell, which succeeded or in which the device failed.
  abbrev pub IsHearing : Follower D disk → Follower D disk → Frame → Result Heard StepFault → Type 0
  IsHearing old new f (Ok (Taken number)) =
      (e : Entry) × IsEntry f.bytes e × StepsWith (engine_of old) (engine_of new) e number
  IsHearing old new f (Ok answer) = engine_of new ≡ engine_of old
  IsHearing old new f (Err (Rejected why)) = ⊥
  IsHearing old new f (Err DeviceFault) =
      (e : Entry) × IsEntry f.bytes e × IsStep (engine_of old) (engine_of new) e (Err DeviceFault)
  IsHearing old new f (Err fault) = engine_of new ≡ engine_of old

  -- If the device held this history at rest, a crash at any moment leaves it, or it with the entry of the frame.
  abbrev pub LeavesTorn : List Entry → Follower D disk → Follower D disk → Frame → Type 0
  LeavesTorn h old new f =
      IsAtRest h (engine_of old) → EngineLeaves (engine_of old) (engine_of new) (IsTornBy (disk.size (device (engine_of old))) h f)
