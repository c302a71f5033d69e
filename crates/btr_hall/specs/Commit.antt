-- What the turn of an entry does: which item it adds to the list, and what its result says of the history.
use Rattle.std.specs.Prelude.{◌≡◌, ℕ, ◌+◌, ◌<◌, Bool, true, false, ◌||◌, List, ◌++◌, length}
use Rattle.std.specs.Prelude.{Option, Some, None, option_to_list, Result, Ok, Err}
use Rattle.std.specs.declared.snapshot.Snapshot.{Snapshot}
use Rattle.btr_disk.specs.declared.disk.Disk.{Ghosts}
use Rattle.btr_hist.specs.declared.entry.Entry.{Entry}
use Rattle.btr_hist.specs.declared.entry.Entry.TheVariants as entries
use Rattle.btr_hist.specs.Legal.{rejection}
use Rattle.btr_engine.specs.declared.engine.Engine.{Engine}
use Rattle.btr_streams.specs.declared.board.Receipt.{Receipt}
use Rattle.btr_engine.specs.declared.step.StepFault.{StepFault}
use Rattle.btr_engine.specs.declared.step.StepFault.TheVariants.{Stopped, Sealed, Rejected, Want, DeviceFull, DeviceFault}
use Rattle.btr_engine.specs.Body.{need_of, needs_after}
use Rattle.btr_engine.specs.Engine.{room_of, is_sealed, IsEngineOf}
use Rattle.btr_streams.specs.Stage.{MayLackMemory, IsReceipt}
use Rattle.btr_engine.specs.Step.{IsStep}
use Rattle.btr_gate.specs.Prefixes.{StartsWith}
use Rattle.btr_hall.specs.declared.item.Item.{Item}
use Rattle.btr_hall.specs.declared.item.Item.TheVariants.{Added, Halted}
use Rattle.btr_hall.specs.declared.store.Store.{Store}
use Rattle.btr_hall.specs.declared.session.Hall.{Hall}
use Rattle.btr_hall.specs.declared.session.Session.{Session}
use Rattle.btr_hall.specs.Trace.{IsTraceOf, engine_after, entries_in, stopped_in, history_of}
use Rattle.btr_hall.specs.Session.{IsAlone, HasTurns, opening_of, seen_of, mine_of, engine_of}

-- A value, as an item has it.
abbrev pub shown : {A : Type 0} → A → Snapshot A
shown x = record { marker = record {}; value = x }

-- The entry is a distillate.
abbrev pub is_distillate : Entry → Bool
is_distillate (entries.Create id) = false
is_distillate (entries.Define id spec) = false
is_distillate (entries.Commit stream cut added) = false
is_distillate (entries.Distillate stream cut added reads) = true
is_distillate (entries.Retire stream first) = false

-- The device failed in the step.
abbrev pub has_failed : Result Receipt StepFault → Bool
has_failed (Ok receipt) = false
has_failed (Err DeviceFault) = true
has_failed (Err fault) = false

-- The number of the item that a step added, if it added one.
abbrev pub number_by : Result Receipt StepFault → ℕ → Option ℕ
number_by (Ok receipt) number = Some number
number_by (Err DeviceFault) number = Some number
number_by (Err fault) number = None

module _ {D : Type 0} {disk : Ghosts D} where
  -- The item that a step adds to the list, if it adds one. The step had this entry, led to this engine, and returned this. An item
  -- is added if the entry was accepted or the device failed.
  abbrev pub item_by : Result Receipt StepFault → Entry → Engine D disk → Option (Item D disk)
  item_by (Ok receipt) e engine = Some (Added (shown e) (shown engine))
  item_by (Err DeviceFault) e engine = Some (Halted (shown e) (shown engine))
  item_by (Err fault) e engine = None

  -- The store after a step with this entry, and the item that it adds.
  pub record Adds (old new : Store D disk) (e : Entry) (result : Result Receipt StepFault) (added : Option (Item D disk)) : Type 0 where
    pub step : IsStep old.engine new.engine e result
    pub opening : new.opening.value ≡ old.opening.value
    pub halted : new.halted ≡ (old.halted || has_failed result)
    pub item : added ≡ item_by result e new.engine

  -- What the result of an entry says of the history h, to which the list `before` leads from the engine `x`, which is of `first`.
  abbrev pub CommitReplies : Engine D disk → List Entry → List (Item D disk) → List Entry → Entry → Result Receipt StepFault → Type 0
  CommitReplies x first before h e (Ok receipt) = (rejection h e ≡ None) × IsReceipt h e receipt × (receipt.number ≡ length before + 1)
  CommitReplies x first before h e (Err (Stopped entries)) = (stopped_in x before ≡ true) × (entries ≡ length h)
  CommitReplies x first before h e (Err Sealed) = (stopped_in x before ≡ false) × (is_sealed x ≡ true)
  CommitReplies x first before h e (Err (Rejected why)) = rejection h e ≡ Some why
  CommitReplies x first before h e (Err Want) = MayLackMemory (rejection h e)
  CommitReplies x first before h e (Err (DeviceFull need left)) =
      (rejection h e ≡ None) × (need ≡ need_of h e) × (left + needs_after first (entries_in before) ≡ room_of x) × (left < need)
  CommitReplies x first before h e (Err DeviceFault) = rejection h e ≡ None

  -- The turn of an entry, which may be followed by another that brings the log back. `before` is the list when it began, which begins with
  -- all that the session had seen. The engine at its end does the step. The session has then seen this list, and the item that the step
  -- added, whose number is its own.
  pub record Commits (hall : Hall D disk) (old new : Session D disk) (e : Entry) (result : Result Receipt StepFault) : Type 0 where
    pub turn : HasTurns old new
    pub before : List (Item D disk)
    pub grows : StartsWith before (seen_of old)
    pub alone : IsAlone old → before ≡ seen_of old
    pub trace : IsTraceOf (opening_of hall) before
    pub step : IsStep (engine_after (opening_of hall) before) (engine_of hall new) e result
    pub seen : seen_of new ≡ before ++ option_to_list (item_by result e (engine_of hall new))
    pub mine : mine_of new ≡ mine_of old ++ option_to_list (number_by result (length (seen_of new)))
    pub stopped : stopped_in (opening_of hall) before ≡ true
        → (h : List Entry) → IsEngineOf h (opening_of hall) → result ≡ Err (Stopped (length (history_of h before)))
    pub sealed : stopped_in (opening_of hall) before ≡ false → is_sealed (opening_of hall) ≡ true → result ≡ Err Sealed
    pub replies : (h : List Entry) → IsEngineOf h (opening_of hall)
        → CommitReplies (opening_of hall) h before (history_of h before) e result
