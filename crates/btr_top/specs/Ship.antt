-- The command `ship`: what it writes before it ends, and why it ends so.
use Rattle.std.specs.Prelude.{◌≡◌, ℕ, zero, suc, List, Result, Ok, Err, IfOk, IfErr, OnErr}
use Rattle.btr_io.specs.declared.sink.Sink.{Ghosts as SinkGhosts}
use Rattle.btr_disk.specs.declared.disk.Disk.{Ghosts}
use Rattle.btr_hist.specs.declared.entry.Entry.{Entry}
use Rattle.btr_engine.specs.Holds.{HoldsHistory}
use Rattle.btr_open.specs.Opening.{KeepsDisk}
use Rattle.btr_follow.specs.declared.shipping.ShipFault.{ShipFault}
use Rattle.btr_follow.specs.declared.shipping.ShipFault.TheVariants as fault
use Rattle.btr_follow.specs.Shipping.{ShipsStore, StopsStore, ShipsDurable, ShipsHistory, ShipCause, CountsShipped}
use Rattle.btr_top.specs.declared.ending.Ending.{Ending}
use Rattle.btr_top.specs.declared.ending.Ending.TheVariants.{OutOfMemory, NoDevice, NoStore, Damaged, Shipped, CutShort}
use Rattle.btr_top.specs.Command.{HoldsStoreWith}

-- How `ship` ends with this result, if so many frames were written. After a frame there is no line, and none after the sink failed.
abbrev pub ending_of_ship : ℕ → Result ℕ ShipFault → Ending
ending_of_ship frames (Ok count) = Shipped count
ending_of_ship zero (Err fault.NotAStore) = NoStore
ending_of_ship zero (Err (fault.Damaged block)) = Damaged block
ending_of_ship zero (Err fault.Fault) = NoDevice
ending_of_ship zero (Err fault.SinkFault) = CutShort fault.SinkFault
ending_of_ship zero (Err fault.Want) = OutOfMemory
ending_of_ship (suc frames) (Err why) = CutShort why

module _ {K D : Type 0} (sink : SinkGhosts K) (disk : Ghosts D) where
  -- The log of the device was shipped to the sink with this result: its frames, or a prefix of them. Nothing was written on the device, and
  -- no crash loses an entry that was shipped.
  pub record ShipsLogOf (from : ℕ) (before sent : K) (old new : D) (result : Result ℕ ShipFault) : Type 0 where
    pub kept : KeepsDisk disk old new
    pub durable : disk.is_observable → ShipsDurable disk sink new before sent result
    pub log : disk.is_observable → IfOk result (ShipsStore disk sink from old before sent)
    pub part : disk.is_observable → OnErr result (StopsStore disk sink from old before sent)
    pub history : disk.is_observable → (h : List Entry) → HoldsHistory (disk.size old) (disk.contents old) h
        → ShipsHistory sink from h before sent result
    pub cause : IfErr result (ShipCause disk sink from old new before sent)

  -- What `ship` wrote before it ended so, and why it ended so. `before` and `sent` are the sink before it and then. So many whole frames
  -- were written: if there was none, and the sink did not fail, nothing was written before the line.
  pub record ShipEnds (from : ℕ) (before sent : K) (old new : D) (e : Ending) : Type 0 where
    pub result : Result ℕ ShipFault
    pub frames : ℕ
    pub ships : ShipsLogOf from before sent old new result
    pub counts : CountsShipped disk sink from old before sent frames result
    pub ends : e ≡ ending_of_ship frames result

module _ {D : Type 0} (disk : Ghosts D) where
  -- The device holds a store.
  abbrev pub CanShip : D → Type 0
  CanShip old = HoldsStoreWith disk (λ store. Unit {0}) old
