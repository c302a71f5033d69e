-- Why `ship` ends so: its status is 5 only if the device failed, and if nothing fails on a device that holds a store, it is 0 or 9.
use Rattle.std.specs.Prelude.{◌≡◌, ℕ, zero, suc, List, Result, Ok, Err, IfErr}
use Rattle.std.proofs.Common.{refl, sym, ap, subst, ◌∙◌, arith, inl, inr}
use Rattle.btr_io.specs.declared.sink.Sink.{Ghosts as SinkGhosts}
use Rattle.btr_io.specs.Faults.{Rose as StreamRose}
use Rattle.btr_disk.specs.declared.disk.Disk.{Ghosts}
use Rattle.btr_disk.specs.Causes.{Rose}
use Rattle.btr_hist.specs.declared.entry.Entry.{Entry}
use Rattle.btr_engine.specs.Holds.{HoldsHistory}
use Rattle.btr_follow.specs.declared.shipping.ShipFault.{ShipFault}
use Rattle.btr_follow.specs.declared.shipping.ShipFault.TheVariants as fault
use Rattle.btr_follow.specs.Shipping.{ShipCause, ShipsHistory}
use Rattle.btr_top.specs.declared.ending.Ending.{Ending}
use Rattle.btr_top.specs.Ending.{status_of, status_of_cut}
use Rattle.btr_top.specs.Ship.{ending_of_ship, ShipEnds, CanShip}
use Rattle.btr_top.specs.Run.{IsPlainStatus}

-- The status that a result asks for.
abbrev code_of_result : Result ℕ ShipFault → ℕ
code_of_result (Ok count) = 0
code_of_result (Err why) = status_of_cut why

-- It is that of the ending, with frames or without.
same_code : (frames : ℕ) (result : Result ℕ ShipFault) → status_of (ending_of_ship frames result) ≡ code_of_result result
same_code zero (Ok count) = refl
same_code zero (Err fault.NotAStore) = refl
same_code zero (Err (fault.Damaged block)) = refl
same_code zero (Err fault.Fault) = refl
same_code zero (Err fault.SinkFault) = refl
same_code zero (Err fault.Want) = refl
same_code (suc frames) (Ok count) = refl
same_code (suc frames) (Err why) = refl

module _ {K D : Type 0} (sink : SinkGhosts K) (disk : Ghosts D) (from : ℕ) (before sent : K) (old new : D) where
  five_result : (result : Result ℕ ShipFault) → IfErr result (ShipCause disk sink from old new before sent) → code_of_result result ≡ 5 → Rose (disk.faults old) (disk.faults new)
  five_result (Ok count) cause five = absurd (omega (arith, five))
  five_result (Err fault.NotAStore) cause five = absurd (omega (arith, five))
  five_result (Err (fault.Damaged block)) cause five = absurd (omega (arith, five))
  five_result (Err fault.Fault) cause five = cause
  five_result (Err fault.SinkFault) cause five = absurd (omega (arith, five))
  five_result (Err fault.Want) cause five = absurd (omega (arith, five))

  pub ship_fault : (e : Ending) → ShipEnds sink disk from before sent old new e → status_of e ≡ 5 → Rose (disk.faults old) (disk.faults new)
  ship_fault e ends five =
      five_result ends.result ends.ships.cause (sym (same_code ends.frames ends.result) ∙ sym (ap status_of ends.ends) ∙ five)

  module _ (h : List Entry) (sink_works : StreamRose (sink.faults before) (sink.faults sent) → ⊥) (device_works : Rose (disk.faults old) (disk.faults new) → ⊥) where
    plain_result : (result : Result ℕ ShipFault) → IfErr result (ShipCause disk sink from old new before sent) → ShipsHistory sink from h before sent result → IsPlainStatus (code_of_result result)
    plain_result (Ok count) cause ships = inl refl
    plain_result (Err fault.NotAStore) cause ships = absurd ships.0
    plain_result (Err (fault.Damaged block)) cause ships = absurd ships.0
    plain_result (Err fault.Fault) cause ships = absurd (device_works cause)
    plain_result (Err fault.SinkFault) cause ships = absurd (sink_works cause)
    plain_result (Err fault.Want) cause ships = inr (inr refl)

  pub benign_ship : CanShip disk old → disk.is_observable → (StreamRose (sink.faults before) (sink.faults sent) → ⊥) → (Rose (disk.faults old) (disk.faults new) → ⊥) → (e : Ending) → ShipEnds sink disk from before sent old new e → IsPlainStatus (status_of e)
  benign_ship can reported sink_works device_works e ends =
      let held : HoldsHistory (disk.size old) (disk.contents old) can.history = record { blocks = can.blocks; tail = can.tail; holds = can.holds } in
      subst IsPlainStatus (sym (ap status_of ends.ends ∙ same_code ends.frames ends.result))
      (plain_result can.history sink_works device_works ends.result ends.ships.cause (ends.ships.history reported can.history held))
