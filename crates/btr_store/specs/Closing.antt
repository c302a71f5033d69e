-- How work at a hall begins and ends: the store was opened on a device, and the hall is closed.
use Rattle.std.specs.Prelude.{ℕ, List}
use Rattle.btr_disk.specs.declared.disk.Disk.{Ghosts}
use Rattle.btr_hist.specs.declared.entry.Entry.{Entry}
use Rattle.btr_open.specs.Opening.{IsOpenedEngine, IsOpenedOn}
use Rattle.btr_hall.specs.declared.session.Hall.{Hall}
use Rattle.btr_hall.specs.declared.session.Session.{Session}
use Rattle.btr_hall.specs.Session.{Begins, opening_of}
use Rattle.btr_jobs.specs.States.{log_seen, start_of}
use Rattle.btr_jobs.specs.Jobs.{Goes}
use Rattle.btr_store.specs.Work.{Works}

module _ {D : Type 0} (disk : Ghosts D) where
  -- The hall has just begun, with an engine that was opened on this device. The session is its only one.
  pub record BeginsOn (old : D) (hall : Hall D disk) (session : Session D disk) : Type 0 where
    pub opened : IsOpenedEngine disk old (opening_of hall)
    pub begins : Begins (opening_of hall) hall session

  -- Work at the hall, from the session with which it began to this one, left the device `new` as it says, for each history on which the
  -- store was opened.
  abbrev pub WorkedAt : D → Hall D disk → Session D disk → D → Type 0
  WorkedAt old hall session new =
      (begun : Session D disk) (own : List ℕ) → Begins (opening_of hall) hall begun → Goes begun session own
      → (h : List Entry) → IsOpenedOn disk h (opening_of hall) → Works disk (start_of h hall) (log_seen h session) own old new
