-- Private promises: what lanes with shared buffers did in a session, and what was said of it.
use Rattle.std.specs.Prelude.{◌≡◌, ℕ, nat_lt, Bool, List, [], length, Option, Some, None, Result, Ok, Err}
use Rattle.std.specs.List.{AllByRecursion}
use Rattle.std.specs.declared.alloc.AllocError.{AllocError}
use Rattle.std.specs.declared.vec.Vec.{Vec}
use Rattle.std.specs.declared.alloc.Global.{Global}
use Rattle.btr_disk.specs.declared.disk.Disk.{Ghosts}
use Rattle.btr_hist.specs.declared.entry.Entry.{Entry}
use Rattle.btr_text.specs.declared.script.ScriptLine.{ScriptLine}
use Rattle.btr_text.specs.declared.reply.LineReply.{LineReply}
use Rattle.btr_gate.specs.Prefixes.{StartsWith}
use Rattle.btr_gate.specs.Numbers.{total, times}
use Rattle.btr_hall.specs.declared.session.Hall.{Hall}
use Rattle.btr_hall.specs.declared.session.Session.{Session}
use Rattle.btr_hall.specs.GroupCalls.{no_items}
use Rattle.btr_group.specs.declared.group.Group.{Group}
use Rattle.btr_group.specs.declared.group.Seat.{Seat}
use Rattle.btr_group.specs.Seats.{items_at_start}
use Rattle.btr_group.specs.Sets.{view_at_place}
use Rattle.btr_jobs.specs.States.{StoreState, LogState}
use Rattle.btr_jobs.specs.Jobs.{Does}
use Rattle.btr_live.specs.declared.live.LiveReport.{LiveReport}
use Rattle.btr_live.specs.SharedLines.{Views}
use Rattle.btr_live.specs.OneHistory.{RunsAll}
use Rattle.btr_store.specs.declared.transcript.Transcript.{Transcript}
use Rattle.btr_store.specs.Live.{SaysScript}
use Rattle.btr_store.specs.Shared.{in_buffers, RunsInBuffers, RunsInBuffersIf}

module _ {D : Type 0} {disk : Ghosts D} where
  -- The last seat of each group has seen the whole list, of which each lane has seen a beginning, and has the items of all lanes.
  pub record HaveMet (afters : List Views) (seats : List (Seat D disk)) : Type 0 where
    pub seen : (place : ℕ) → AllByRecursion (λ (v : Views). StartsWith (view_at_place seats place).seen (v place).seen) afters
    pub own : (place n : ℕ) → times n (view_at_place seats place).own ≡ total (λ (v : Views). times n (v place).own) afters
    pub start : AllByRecursion (λ (s : Seat D disk). items_at_start s ≡ 0) seats

  -- The lines of a script ran in a session, in lanes that share these groups, and then their seats met.
  pub record LanesRan (hall : Hall D disk) (groups : List (Group D disk)) (threshold : ℕ) (materialize : Bool)
      (script : List ScriptLine) (old new : Session D disk) (replies : List LineReply) (seats : List (Seat D disk)) : Type 0 where
    pub each : length replies ≡ length script
    pub befores : List Views
    pub afters : List Views
    pub fresh : AllByRecursion (λ (v : Views). (stream : ℕ) → v stream ≡ no_items) befores
    pub met : HaveMet afters seats
    pub runs : Does hall old new (λ start log low own. RunsAll
        (in_buffers (λ stream. nat_lt stream (length groups)) threshold befores afters)
        materialize start log low script replies own)

  -- Or memory ran out before any line: the session is as before, and nothing was put into the buffers.
  abbrev pub LanesShared : Hall D disk → List (Group D disk) → ℕ → Bool → List ScriptLine → Session D disk → Session D disk
      → Result (Vec LineReply Global) AllocError → List (Seat D disk) → Type 0
  LanesShared hall groups threshold materialize script old new (Ok replies) seats =
      LanesRan hall groups threshold materialize script old new replies.items seats
  LanesShared hall groups threshold materialize script old new (Err error) seats =
      (new ≡ old) × ((place : ℕ) → (view_at_place seats place).seen ≡ []) × AllByRecursion (λ (s : Seat D disk). items_at_start s ≡ 0) seats

  -- A script ran in a session with shared buffers, and the rounds after it.
  abbrev pub RunsInSession : ℕ → Bool → List ScriptLine → Hall D disk → Session D disk → Session D disk → LiveReport → Type 0
  RunsInSession threshold materialize script hall old new report =
      Does hall old new (λ start log low own. RunsInBuffers threshold materialize start log low script report own)

-- A script ran in a session that had seen `low`, and this was said of it. `own` are the numbers of what was added.
pub record SharesFrom (threshold : ℕ) (materialize : Bool) (script : List ScriptLine) (start : StoreState) (log : LogState)
    (low : List Entry) (said : Result Transcript AllocError) (own : List ℕ) : Type 0 where
  pub report : Option LiveReport
  pub runs : RunsInBuffersIf threshold materialize start log low script report own
  pub says : SaysScript log report said
