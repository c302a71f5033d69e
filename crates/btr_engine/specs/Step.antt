-- What a step promises: when each result comes, and what the engine is then.
use Rattle.std.specs.Prelude.{◌≡◌, ◌⊎◌, ℕ, ◌+◌, ◌<◌, ◌≤◌, false, true, List, [], ◌∷◌, ◌++◌, length}
use Rattle.std.specs.Prelude.{Some, None, IsTrue, IsFalse, Result, Ok, Err, IfOk, IfErr, OnOk}
use Rattle.btr_disk.specs.declared.disk.Disk.{Ghosts}
use Rattle.btr_disk.specs.Bytes.{Image}
use Rattle.btr_disk.specs.Causes.{Rose}
use Rattle.btr_hist.specs.declared.entry.Entry.{Entry}
use Rattle.btr_hist.specs.Legal.{rejection}
use Rattle.btr_engine.specs.declared.engine.Engine.{Engine}
use Rattle.btr_streams.specs.declared.board.Receipt.{Receipt}
use Rattle.btr_engine.specs.declared.step.StepFault.{StepFault}
use Rattle.btr_engine.specs.declared.step.StepFault.TheVariants.{Stopped, Sealed, Rejected, Want, DeviceFull, DeviceFault}
use Rattle.btr_streams.specs.Stage.{MayLackMemory, IsReceipt}
use Rattle.btr_engine.specs.Body.{need_of}
use Rattle.btr_engine.specs.Holds.{HoldsHistory}
use Rattle.btr_engine.specs.Raise.{raise_for, super_after, CountsWrite, most_calls}
use Rattle.btr_engine.specs.Engine.{device, board_of, entries_of, tail_of, room_of, super_of, is_stopped, is_sealed, is_home}
use Rattle.btr_engine.specs.Engine.{IsEngineOf, IsAtRest, IsDurable, EngineLeaves, KeepsOpening}

-- An image at a moment of a step holds the history, or the history with this entry.
abbrev pub IsBeforeOrAfter : ℕ → List Entry → Entry → Image → Type 0
IsBeforeOrAfter size h e image = HoldsHistory size image h ⊎ HoldsHistory size image (h ++ e ∷ [])

-- The history after a step with this entry.
abbrev pub history_after : Result Receipt StepFault → List Entry → Entry → List Entry
history_after (Ok receipt) h e = h ++ e ∷ []
history_after (Err fault) h e = h

-- The entry that a crash may leave after the history: after a step in which the device failed its entry, else the one before.
abbrev pub in_flight_after : Result Receipt StepFault → List Entry → Entry → List Entry
in_flight_after (Err DeviceFault) more e = e ∷ []
in_flight_after result more e = more

module _ {D : Type 0} {disk : Ghosts D} where
  -- The engine is not stopped nor sealed, the entry may follow this history, and there is room for it.
  pub record CanStep (h : List Entry) (engine : Engine D disk) (e : Entry) : Type 0 where
    pub runs : is_stopped engine ≡ false
    pub unsealed : is_sealed engine ≡ false
    pub allowed : rejection h e ≡ None
    pub fits : need_of h e ≤ room_of engine

  -- The engine, which was of this history, is of the history with this entry at its end. It is not stopped, the superblock is that of the
  -- raise, if the entry needed one, and the device counted the calls of a step with it.
  pub record IsStepped (h : List Entry) (old new : Engine D disk) (e : Entry) (receipt : Receipt) : Type 0 where
    pub could : CanStep h old e
    pub of : IsEngineOf (h ++ e ∷ []) new
    pub tail : tail_of new ≡ tail_of old + need_of h e
    pub runs : is_stopped new ≡ false
    pub chosen : super_of new ≡ super_after (super_of old) (raise_for (super_of old) e)
    pub called : CountsWrite (raise_for (super_of old) e) (disk.calls (device old)) (disk.calls (device new))
    pub is_receipt : IsReceipt h e receipt

  -- The device has failed, within the calls of a step with this entry, and the engine is stopped. Its board is as before, and so is the
  -- superblock that it says, also if the device has that of the raise: a stopped engine uses it no more.
  pub record StopsByFault (old new : Engine D disk) (e : Entry) : Type 0 where
    pub called : Rose (disk.calls (device old)) (disk.calls (device new))
    pub at_most : disk.calls (device new) ≤ disk.calls (device old) + most_calls (raise_for (super_of old) e)
    pub rose : Rose (disk.faults (device old)) (disk.faults (device new))
    pub stopped : is_stopped new ≡ true
    pub board : board_of new ≡ board_of old
    pub tail : tail_of new ≡ tail_of old
    pub chosen : super_of new ≡ super_of old

  -- A stopped engine returns its number of entries, and stays as it is.
  pub record StaysStopped (old new : Engine D disk) (result : Result Receipt StepFault) : Type 0 where
    pub returned : result ≡ Err (Stopped (entries_of old))
    pub same : new ≡ old

  -- A sealed engine that is not stopped says that it is sealed, and stays as it is.
  pub record StaysSealed (old new : Engine D disk) (result : Result Receipt StepFault) : Type 0 where
    pub returned : result ≡ Err Sealed
    pub same : new ≡ old

  -- An engine that ran and was not sealed has one entry more, this one, whose number the receipt says. It still runs, the superblock is
  -- that of the raise, if the entry needed one, and the device counted the calls of a step with it.
  pub record AddsOne (old new : Engine D disk) (e : Entry) (receipt : Receipt) : Type 0 where
    pub ran : is_stopped old ≡ false
    pub unsealed : is_sealed old ≡ false
    pub runs : is_stopped new ≡ false
    pub entries : entries_of new ≡ entries_of old + 1
    pub number : receipt.number ≡ entries_of new
    pub chosen : super_of new ≡ super_after (super_of old) (raise_for (super_of old) e)
    pub called : CountsWrite (raise_for (super_of old) e) (disk.calls (device old)) (disk.calls (device new))

  -- What a step with this entry and this result did to the engine, also if the engine is of no history.
  abbrev pub HasResult : Engine D disk → Engine D disk → Entry → Result Receipt StepFault → Type 0
  HasResult old new e (Ok receipt) = AddsOne old new e receipt
  HasResult old new e (Err (Stopped entries)) = (is_stopped old ≡ true) × (entries ≡ entries_of old) × (new ≡ old)
  HasResult old new e (Err Sealed) = (is_stopped old ≡ false) × (is_sealed old ≡ true) × (new ≡ old)
  HasResult old new e (Err (Rejected why)) = (is_stopped old ≡ false) × (new ≡ old)
  HasResult old new e (Err Want) = (is_stopped old ≡ false) × (new ≡ old)
  HasResult old new e (Err (DeviceFull need left)) = (is_stopped old ≡ false) × (left ≡ room_of old) × (left < need) × (new ≡ old)
  HasResult old new e (Err DeviceFault) = (is_stopped old ≡ false) × StopsByFault old new e

  -- What a step with this entry did to the engine, also if the engine is of no history: a stopped one only says that it is stopped,
  -- and a sealed one that it is sealed.
  pub record HasEffect (old new : Engine D disk) (e : Entry) (result : Result Receipt StepFault) : Type 0 where
    pub stopped : IsTrue (is_stopped old) → StaysStopped old new result
    pub sealed : IsFalse (is_stopped old) → IsTrue (is_sealed old) → StaysSealed old new result
    pub has_result : HasResult old new e result

  -- Why a step refuses an entry if the engine is of this history, and what the engine is then.
  abbrev pub StepCause : List Entry → Engine D disk → Engine D disk → Entry → StepFault → Type 0
  StepCause h old new e (Stopped entries) =
      IsTrue (is_stopped old) × (entries ≡ length h) × (new ≡ old)
  StepCause h old new e Sealed = IsFalse (is_stopped old) × IsTrue (is_sealed old) × (new ≡ old)
  StepCause h old new e (Rejected why) =
      IsFalse (is_stopped old) × (rejection h e ≡ Some why) × (new ≡ old)
  StepCause h old new e Want =
      IsFalse (is_stopped old) × MayLackMemory (rejection h e) × (new ≡ old)
  StepCause h old new e (DeviceFull need left) =
      IsFalse (is_stopped old) × (rejection h e ≡ None)
      × (need ≡ need_of h e) × (left ≡ room_of old) × (left < need) × (new ≡ old)
  StepCause h old new e DeviceFault = CanStep h old e × StopsByFault old new e

  -- The second engine is the first one after a step with this entry, which returned this. Its log is at home.
  pub record IsStep (old new : Engine D disk) (e : Entry) (result : Result Receipt StepFault) : Type 0 where
    pub home : is_home new ≡ true
    pub effect : HasEffect old new e result
    pub cause : (h : List Entry) → IsEngineOf h old → IfErr result (StepCause h old new e)
    pub stepped : (h : List Entry) → IsEngineOf h old → IfOk result (IsStepped h old new e)
    pub kept : KeepsOpening old new
    pub at_rest : disk.is_observable → (h : List Entry) → IsAtRest h old → OnOk result (IsAtRest (h ++ e ∷ []) new)
    pub moments : disk.is_observable → (h : List Entry) → IsAtRest h old
        → EngineLeaves old new (IsBeforeOrAfter (disk.size (device old)) h e)
    pub acknowledged : disk.is_observable → (h : List Entry) → IsAtRest h old
        → OnOk result (IsDurable (h ++ e ∷ []) (disk.calls (device new)) (length h + 1) new [])
    pub durable : disk.is_observable → (h more : List Entry) (calls entries : ℕ)
        → (is_stopped old ≡ false → IsAtRest h old) → IsDurable h calls entries old more
        → IsDurable (history_after result h e) calls entries new (in_flight_after result more e)
