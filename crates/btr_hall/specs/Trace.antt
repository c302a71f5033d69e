-- The list of a hall: each entry that was added since the hall began, with the engine after its step.
use Rattle.std.specs.Prelude.{◌≡◌, Bool, true, false, ◌||◌, List, [], ◌∷◌, ◌++◌, Ok, Err, replicate}
use Rattle.btr_disk.specs.declared.disk.Disk.{Ghosts}
use Rattle.btr_hist.specs.declared.entry.Entry.{Entry}
use Rattle.btr_engine.specs.declared.engine.Engine.{Engine}
use Rattle.btr_streams.specs.declared.board.Receipt.{Receipt}
use Rattle.btr_engine.specs.declared.step.StepFault.TheVariants.{DeviceFault}
use Rattle.btr_engine.specs.Engine.{entries_of, is_stopped}
use Rattle.btr_engine.specs.Step.{IsStep}
use Rattle.btr_hall.specs.declared.item.Item.{Item}
use Rattle.btr_hall.specs.declared.item.Item.TheVariants.{Earlier, Added, Halted}

module _ {D : Type 0} {disk : Ghosts D} where
  -- The engine after the last item that has one, or the engine at the beginning.
  abbrev pub engine_after : Engine D disk → List (Item D disk) → Engine D disk
  engine_after x [] = x
  engine_after x (Earlier ∷ l) = engine_after x l
  engine_after x (Added entry engine ∷ l) = engine_after engine.value l
  engine_after x (Halted entry engine ∷ l) = engine_after engine.value l

  -- The entries that were added, in order.
  abbrev pub entries_in : List (Item D disk) → List Entry
  entries_in [] = []
  entries_in (Earlier ∷ l) = entries_in l
  entries_in (Added entry engine ∷ l) = entry.value ∷ entries_in l
  entries_in (Halted entry engine ∷ l) = entries_in l

  -- The entry that a crash may leave after the history: that of the halt, if there is one, else the one before the hall began.
  abbrev pub in_flight_in : List Entry → List (Item D disk) → List Entry
  in_flight_in more [] = more
  in_flight_in more (Earlier ∷ l) = in_flight_in more l
  in_flight_in more (Added entry engine ∷ l) = in_flight_in more l
  in_flight_in more (Halted entry engine ∷ l) = in_flight_in (entry.value ∷ []) l

  -- Whether the device failed in a step.
  abbrev pub has_halt : List (Item D disk) → Bool
  has_halt [] = false
  has_halt (Earlier ∷ l) = has_halt l
  has_halt (Added entry engine ∷ l) = has_halt l
  has_halt (Halted entry engine ∷ l) = true

  -- Each item is a step of the engine after the item before it.
  abbrev pub IsTrace : Engine D disk → List (Item D disk) → Type 0
  IsTrace x [] = Unit {0}
  IsTrace x (Earlier ∷ l) = ⊥
  IsTrace x (Added entry engine ∷ l) =
      ((receipt : Receipt) × IsStep x engine.value entry.value (Ok receipt)) × IsTrace engine.value l
  IsTrace x (Halted entry engine ∷ l) =
      IsStep x engine.value entry.value (Err DeviceFault) × IsTrace engine.value l

  -- The list of a hall that began with this engine: its earlier entries, and then the steps.
  pub record IsTraceOf (x : Engine D disk) (l : List (Item D disk)) : Type 0 where
    pub steps : List (Item D disk)
    pub is : l ≡ replicate (entries_of x) Earlier ++ steps
    pub trace : IsTrace x steps

  -- Whether the engine is stopped at the end of a list, if the hall began with this engine.
  abbrev pub stopped_in : Engine D disk → List (Item D disk) → Bool
  stopped_in x l = is_stopped x || has_halt l

  -- The history of a list, if the hall began with this history.
  abbrev pub history_of : List Entry → List (Item D disk) → List Entry
  history_of h l = h ++ entries_in l
