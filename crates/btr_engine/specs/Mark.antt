-- What a checkpoint promises: the bytes of its extent, the superblock that names it, and what the engine is then.
use Rattle.std.specs.Prelude.{◌≡◌, ◌⊎◌, ℕ, ◌+◌, ◌-◌, ◌<◌, ◌≤◌, false, true, List, [], ◌∷◌, ◌++◌, length}
use Rattle.std.specs.Prelude.{Result, Err, IfErr, IfOk, OnOk}
use Rattle.btr_disk.specs.declared.disk.Disk.{Ghosts}
use Rattle.btr_disk.specs.Bytes.{Image}
use Rattle.btr_disk.specs.Causes.{Rose, CountedTimes}
use Rattle.btr_disk.specs.Gate.{zeros}
use Rattle.btr_log.specs.Head.{content_blocks, head_bytes, checkpoint_head}
use Rattle.btr_super.specs.declared.superblock.Super.{Super}
use Rattle.btr_hist.specs.declared.entry.Entry.{Entry}
use Rattle.btr_roll.specs.Roll.{RollStreamValue, roll_bytes}
use Rattle.btr_engine.specs.declared.engine.Engine.{Engine}
use Rattle.btr_engine.specs.declared.step.StepFault.{StepFault}
use Rattle.btr_engine.specs.declared.step.StepFault.TheVariants.{Stopped, Sealed, Rejected, Want, DeviceFull, DeviceFault}
use Rattle.btr_streams.specs.Board.{Kept}
use Rattle.btr_streams.specs.Rolling.{rolled}
use Rattle.btr_engine.specs.Body.{padding, prefix_to, no_extents, IsCheckpointOf, LeadTo}
use Rattle.btr_engine.specs.Roots.{IsRootOf}
use Rattle.btr_engine.specs.Holds.{HoldsHistoryTo, HoldsHistory}
use Rattle.btr_engine.specs.Engine.{device, board_of, entries_of, tail_of, blocks_of, room_of, super_of, is_stopped, is_sealed, is_home}
use Rattle.btr_engine.specs.Engine.{IsAtRest, IsDurable, EngineLeaves, KeepsOpening}

-- ---- the extent

-- The body, in this format, of a checkpoint with these streams after this number of entries: its head, its content, and zeros up to the
-- end of the last block.
unfoldable pub body_of_roll : ℕ → ℕ → List RollStreamValue → List ℕ
body_of_roll format number streams =
    let content = roll_bytes format streams in
    head_bytes (checkpoint_head format number (length content)) ++ (content ++ zeros (padding (length content)))

-- The body, in this format, of a checkpoint of a board, and one block of zeros.
abbrev pub run_of_board : ℕ → Kept → List ℕ
run_of_board format b = body_of_roll format b.entries (rolled b) ++ zeros 4096

-- The blocks that a checkpoint of a board needs in this format: those of its content, and the gate after them.
abbrev pub need_of_board : ℕ → Kept → ℕ
need_of_board format b = content_blocks (length (roll_bytes format (rolled b))) + 1

-- ---- the superblock

-- The superblock that follows another one and names a checkpoint: it is on the other side and has the next number. It has the gate of
-- the checkpoint, and the gate after the checkpoint, and this format.
abbrev pub next_super : Super → ℕ → ℕ → ℕ → Super
next_super s checkpoint tail format =
    record { seq = s.seq + 1; side = 1 - s.side; blocks = s.blocks; tail = tail; checkpoint = checkpoint; format = format }

-- A device of `size` blocks with these bytes holds a store with this history, and the superblock that is chosen has this format and names a
-- checkpoint of the whole history: the last extent is that of the checkpoint, in the same format, and the log is read from the gate after
-- it, which is the tail. In format 4 the store is sealed.
pub record IsNamed (size : ℕ) (image : Image) (blocks tail : ℕ) (h : List Entry) (format : ℕ) : Type 0 where
  pub holds : HoldsHistoryTo size image blocks tail h
  pub in_format : holds.super.format ≡ format
  pub before : List (List ℕ)
  pub body : List ℕ
  pub last : holds.bodies ≡ before ++ body ∷ []
  pub leads : LeadTo IsRootOf no_extents before (prefix_to holds.super.checkpoint h holds.leads.roots holds.leads.pages)
  pub is : IsCheckpointOf (prefix_to holds.super.checkpoint h holds.leads.roots holds.leads.pages) body
  pub same_format : is.format ≡ format
  pub from_tail : holds.super.tail ≡ tail

-- The format of a checkpoint under a superblock: that of the superblock, or that of a sealed store.
abbrev pub MayMark : Super → ℕ → Type 0
MayMark s format = (format ≡ s.format) ⊎ (format ≡ 4)

-- ---- the engine

-- The calls of the device that make a checkpoint: four append it, and five or seven replace the superblock.
abbrev pub CountsMark : ℕ → ℕ → Type 0
CountsMark old new = CountedTimes 9 old new ⊎ CountedTimes 11 old new

module _ {D : Type 0} {disk : Ghosts D} where
  -- A stopped engine returns its number of entries, and stays as it is.
  pub record MarksNothing (old new : Engine D disk) (result : Result ℕ StepFault) : Type 0 where
    pub returned : result ≡ Err (Stopped (entries_of old))
    pub same : new ≡ old

  -- A sealed engine that is not stopped says that it is sealed, and stays as it is.
  pub record MarksNoMore (old new : Engine D disk) (result : Result ℕ StepFault) : Type 0 where
    pub returned : result ≡ Err Sealed
    pub same : new ≡ old

  -- The engine, which ran and was not sealed, had room for a checkpoint of its board, and has one more, in this format. It has the same
  -- board, it still runs, and the next superblock, of this format, which names the checkpoint, is chosen. The device counted the calls of a
  -- checkpoint. The number is that of the entries.
  pub record IsCheckpointed (format : ℕ) (old new : Engine D disk) (number : ℕ) : Type 0 where
    pub entries : number ≡ entries_of old
    pub ran : is_stopped old ≡ false
    pub unsealed : is_sealed old ≡ false
    pub runs : is_stopped new ≡ false
    pub board : board_of new ≡ board_of old
    pub fits : need_of_board format (board_of old) ≤ room_of old
    pub tail : tail_of new ≡ tail_of old + need_of_board format (board_of old)
    pub chosen : super_of new ≡ next_super (super_of old) (tail_of old) (tail_of new) format
    pub called : CountsMark (disk.calls (device old)) (disk.calls (device new))

  -- The device has failed, within the calls of a checkpoint, and the engine is stopped. Its board is as before, and so is its superblock.
  pub record StopsByMark (old new : Engine D disk) : Type 0 where
    pub called : Rose (disk.calls (device old)) (disk.calls (device new))
    pub at_most : disk.calls (device new) ≤ disk.calls (device old) + 11
    pub rose : Rose (disk.faults (device old)) (disk.faults (device new))
    pub stopped : is_stopped new ≡ true
    pub board : board_of new ≡ board_of old
    pub chosen : super_of new ≡ super_of old

  -- Why a checkpoint is not made in this format, and what the engine is then.
  abbrev pub CheckpointCause : ℕ → Engine D disk → Engine D disk → StepFault → Type 0
  CheckpointCause format old new (Stopped entries) = (is_stopped old ≡ true) × (entries ≡ entries_of old) × (new ≡ old)
  CheckpointCause format old new Sealed = (is_stopped old ≡ false) × (is_sealed old ≡ true) × (new ≡ old)
  CheckpointCause format old new (Rejected why) = ⊥
  CheckpointCause format old new Want = (is_stopped old ≡ false) × (new ≡ old)
  CheckpointCause format old new (DeviceFull need left) =
      (is_stopped old ≡ false)
      × (need ≡ need_of_board format (board_of old))
      × (left ≡ room_of old)
      × (left < need)
      × (new ≡ old)
  CheckpointCause format old new DeviceFault =
      (is_stopped old ≡ false) × (need_of_board format (board_of old) ≤ room_of old) × StopsByMark old new

  -- What a checkpoint in this format did to the engine, which returned this. Its log is at home. Of an engine at rest of a history the
  -- device holds that history at each moment, and after `Ok` the superblock names a checkpoint of the whole of it.
  pub record Marks (format : ℕ) (old new : Engine D disk) (result : Result ℕ StepFault) : Type 0 where
    pub home : is_home new ≡ true
    pub stopped : is_stopped old ≡ true → MarksNothing old new result
    pub sealed : is_stopped old ≡ false → is_sealed old ≡ true → MarksNoMore old new result
    pub cause : IfErr result (CheckpointCause format old new)
    pub marked : IfOk result (IsCheckpointed format old new)
    pub kept : KeepsOpening old new
    pub at_rest : disk.is_observable → (h : List Entry) → IsAtRest h old → OnOk result (IsAtRest h new)
    pub named : disk.is_observable → (h : List Entry) → IsAtRest h old → OnOk result ((c : Image) → disk.images_now (device new) c
        → IsNamed (disk.size (device new)) c (blocks_of new) (tail_of new) h format)
    pub moments : disk.is_observable → (h : List Entry) → IsAtRest h old
        → EngineLeaves old new (λ c. HoldsHistory (disk.size (device old)) c h)
    pub durable : disk.is_observable → (h more : List Entry) (calls entries : ℕ)
        → (is_stopped old ≡ false → IsAtRest h old) → IsDurable h calls entries old more → IsDurable h calls entries new more
