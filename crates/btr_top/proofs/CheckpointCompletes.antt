-- If the device holds a store with room for a checkpoint, and nothing fails, one is added, or memory runs out.
use Rattle.std.proofs.Common.{refl, arith, inl, inr}
use Rattle.btr_disk.specs.declared.disk.Disk.{Ghosts}
use Rattle.btr_disk.specs.Causes.{Rose}
use Rattle.btr_engine.specs.Holds.{HoldsHistory}
use Rattle.btr_open.specs.Laws.{HeldIsSound}
use Rattle.btr_top.specs.declared.checkpoint.CheckpointKind.{CheckpointKind}
use Rattle.btr_top.specs.declared.ending.Ending.{Ending}
use Rattle.btr_top.specs.declared.ending.Ending.TheVariants.{Usage, NoSource, TooLong, OutOfMemory, NoDevice, NoStore, Damaged, Occupied, TooSmall, Formatted, Checkpointed, Sealed, Unsealed, Stands, Full, Shipped, CutShort, NoSink, Replied}
use Rattle.btr_top.specs.Ending.{status_of}
use Rattle.btr_top.specs.Checkpoint.{CheckpointEnds, CanCheckpoint}
use Rattle.btr_top.specs.Run.{IsPlainStatus}

module _ {D : Type 0} (disk : Ghosts D) (kind : CheckpointKind) (old new : D) (sound : HeldIsSound) (can : CanCheckpoint disk kind old) (reported : disk.is_observable) (device_works : Rose (disk.faults old) (disk.faults new) → ⊥) where
  held : HoldsHistory (disk.size old) (disk.contents old) can.history
  held = record { blocks = can.blocks; tail = can.tail; holds = can.holds }

  pub benign_checkpoint : (e : Ending) → CheckpointEnds disk kind old new e → IsPlainStatus (status_of e)
  benign_checkpoint Usage why = absurd why.0
  benign_checkpoint NoSource why = absurd why.0
  benign_checkpoint TooLong why = absurd why.0
  benign_checkpoint OutOfMemory why = inr (inr refl)
  benign_checkpoint NoDevice why = absurd (device_works why.0)
  benign_checkpoint NoStore why = absurd ((sound (disk.size old) 0 (disk.contents old) can.history held).0 (why.0 reported))
  benign_checkpoint (Damaged block) why = absurd ((sound (disk.size old) block (disk.contents old) can.history held).1 (why.0 reported))
  benign_checkpoint Occupied why = absurd why.0
  benign_checkpoint (TooSmall asked has) why = absurd why.0
  benign_checkpoint (Formatted blocks) why = absurd why.0
  benign_checkpoint (Checkpointed done entries) why = inl refl
  benign_checkpoint Sealed why = inr (inl refl)
  benign_checkpoint Unsealed why = absurd why.0
  benign_checkpoint NoSink why = absurd why.0
  benign_checkpoint (Stands entries) why = absurd why.0
  benign_checkpoint (Full need room) why =
      let is = why.3 reported can.history can.blocks can.tail can.holds in
      absurd (omega (arith, why.1, is.1, is.2, can.fits))
  benign_checkpoint (Shipped frames) why = absurd why.0
  benign_checkpoint (CutShort cut) why = absurd why.0
  benign_checkpoint (Replied transcript) why = absurd why.0
