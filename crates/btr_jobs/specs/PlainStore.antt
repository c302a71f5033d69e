-- A plain store on a device: entries are offered to it one after another, and each is added if the model accepts it and there is room.
use Rattle.std.specs.Prelude.{◌≡◌, ℕ, ◌+◌, ◌-◌, ◌≤◌, nat_lt, false, List, [], ◌∷◌, ◌++◌, if◌then◌else◌, Option, Some, None, Result, Ok, Err}
use Rattle.btr_hist.specs.declared.entry.Entry.{Entry}
use Rattle.btr_hist.specs.declared.rejection.Rejection.{Rejection}
use Rattle.btr_hist.specs.Legal.{rejection}
use Rattle.btr_hist.specs.Machine as machine
use Rattle.btr_streams.specs.declared.board.Receipt.{Receipt}
use Rattle.btr_engine.specs.declared.step.StepFault.{StepFault}
use Rattle.btr_engine.specs.declared.step.StepFault.TheVariants as steps
use Rattle.btr_engine.specs.Body.{need_of, needs_of}
use Rattle.btr_jobs.specs.States.{StoreState, LogState}

-- What the store has: a history, and the blocks that are left.
pub record PlainStore : Type 0 where
  pub history : List Entry
  pub left : ℕ

-- What becomes of an entry: it is added, with this receipt; the model rejects it, with this rejection; or it needs more blocks, the first
-- number, than are left, the second.
pub data TakeResult : Type 0 where
  Taken : Receipt → TakeResult
  Rejected : Rejection → TakeResult
  Full : ℕ → ℕ → TakeResult

-- The model's receipt of an entry that follows h.
abbrev pub receipt_of : List Entry → Entry → Receipt
receipt_of h e = record {
  number = (machine.receipt h e).number;
  stream = (machine.receipt h e).stream;
  version = (machine.receipt h e).version;
}

-- What becomes of an entry, by the model's rejection of it.
abbrev pub take_result_by : PlainStore → Entry → Option Rejection → TakeResult
take_result_by c e (Some why) = Rejected why
take_result_by c e None =
    if nat_lt c.left (need_of c.history e) then Full (need_of c.history e) c.left else Taken (receipt_of c.history e)

-- What the store has after an entry of which this became.
abbrev pub store_by : PlainStore → Entry → TakeResult → PlainStore
store_by c e (Taken receipt) = record { history = c.history ++ e ∷ []; left = c.left - need_of c.history e }
store_by c e (Rejected why) = c
store_by c e (Full need left) = c

-- What becomes of an entry that is offered.
abbrev pub take_result : PlainStore → Entry → TakeResult
take_result c e = take_result_by c e (rejection c.history e)

-- What the store has after it.
abbrev pub store_after : PlainStore → Entry → PlainStore
store_after c e = store_by c e (take_result c e)

-- The result of an entry of which this became.
abbrev pub result_of : TakeResult → Result Receipt StepFault
result_of (Taken receipt) = Ok receipt
result_of (Rejected why) = Err (steps.Rejected why)
result_of (Full need left) = Err (steps.DeviceFull need left)

-- What a store had when its hall began.
abbrev pub first_store : StoreState → PlainStore
first_store start = record { history = start.history; left = start.left }

-- The store was not stopped nor sealed, and the device did not fail. The entries need no more blocks than there were.
pub record RunsThrough (start : StoreState) (log : LogState) : Type 0 where
  pub runs : start.stopped ≡ false
  pub unsealed : start.sealed ≡ false
  pub whole : log.failed ≡ None
  pub fits : needs_of log.history ≤ start.left + needs_of start.history
