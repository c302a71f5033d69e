-- What has happened in a hall: the history, and the entry in whose step the device failed.
use Rattle.std.specs.Prelude.{◌≡◌, ℕ, Bool, true, ◌||◌, List, [], ◌∷◌, Option, Some, None}
use Rattle.std.specs.Option.{is_some}
use Rattle.btr_disk.specs.declared.disk.Disk.{Ghosts}
use Rattle.btr_hist.specs.declared.entry.Entry.{Entry}
use Rattle.btr_engine.specs.declared.engine.Engine.{Engine}
use Rattle.btr_engine.specs.Engine.{is_stopped, is_sealed, room_of}
use Rattle.btr_gate.specs.Prefixes.{StartsWith}
use Rattle.btr_hall.specs.declared.item.Item.{Item}
use Rattle.btr_hall.specs.declared.item.Item.TheVariants.{Earlier, Added, Halted}
use Rattle.btr_hall.specs.declared.session.Hall.{Hall}
use Rattle.btr_hall.specs.declared.session.Session.{Session}
use Rattle.btr_hall.specs.Trace.{history_of}
use Rattle.btr_hall.specs.Session.{opening_of, seen_of}

-- A store when its hall began: its history, the blocks that were left, whether it was stopped, and whether it was sealed.
pub record StoreState : Type 0 where
  pub history : List Entry
  pub left : ℕ
  pub stopped : Bool
  pub sealed : Bool

-- What has happened in a hall: its history, and the entry in whose step the device failed, if it did.
pub record LogState : Type 0 where
  pub history : List Entry
  pub failed : Option Entry

-- The second state of the log is an earlier one of a hall that began so: the later history begins with the earlier one. Nothing follows if
-- the store was stopped or sealed when the hall began, or after a failure.
pub record GoesOn (start : StoreState) (late early : LogState) : Type 0 where
  pub begins : StartsWith late.history early.history
  pub ends : (start.stopped || is_some early.failed) ≡ true → late ≡ early
  pub sealed : start.sealed ≡ true → late ≡ early

module _ {D : Type 0} {disk : Ghosts D} where
  -- The entry of the first halt of a list.
  abbrev pub failed_in : List (Item D disk) → Option Entry
  failed_in [] = None
  failed_in (Earlier ∷ l) = failed_in l
  failed_in (Added entry engine ∷ l) = failed_in l
  failed_in (Halted entry engine ∷ l) = Some entry.value

  -- An engine of this history, as the store with which a hall begins.
  abbrev pub start_with : List Entry → Engine D disk → StoreState
  start_with h x = record { history = h; left = room_of x; stopped = is_stopped x; sealed = is_sealed x }

  -- What a session has seen happen, if the hall began with this history.
  abbrev pub log_seen : List Entry → Session D disk → LogState
  log_seen h s = record { history = history_of h (seen_of s); failed = failed_in (seen_of s) }

  -- The store with which a hall began, if it was of this history.
  abbrev pub start_of : List Entry → Hall D disk → StoreState
  start_of h hall = start_with h (opening_of hall)
