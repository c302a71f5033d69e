-- How a run ends: its status, and what it writes.
use Rattle.std.specs.Prelude.{◌≡◌, ◌⊎◌, ℕ, ◌≤◌, List, [], ◌∷◌, ◌++◌, length, take, codes, decimal}
use Rattle.btr_io.specs.declared.sink.Sink.{Ghosts}
use Rattle.btr_io.specs.Faults.{Rose}
use Rattle.btr_text.specs.Text.{line_text}
use Rattle.btr_top.specs.declared.ending.Ending.{Ending}
use Rattle.btr_top.specs.declared.ending.Ending.TheVariants.{Usage, NoSource, TooLong, OutOfMemory, NoDevice, NoStore}
use Rattle.btr_top.specs.declared.ending.Ending.TheVariants.{Damaged, Occupied, TooSmall, Formatted, Checkpointed, Sealed, Unsealed}
use Rattle.btr_top.specs.declared.ending.Ending.TheVariants.{Stands, Full, Shipped, CutShort, NoSink, Replied}
use Rattle.btr_top.specs.declared.checkpoint.CheckpointKind.TheVariants.{Plain, Seal}
use Rattle.btr_top.specs.declared.command.TheConstants.{MAX_INPUT}
use Rattle.btr_store.specs.Status.{code_of}
use Rattle.btr_follow.specs.declared.shipping.ShipFault.{ShipFault}
use Rattle.btr_follow.specs.declared.shipping.ShipFault.TheVariants as fault

-- The status of a run that ended by this fault after a frame, or in one.
abbrev pub status_of_cut : ShipFault → ℕ
status_of_cut fault.NotAStore = 6
status_of_cut (fault.Damaged block) = 7
status_of_cut fault.Fault = 5
status_of_cut fault.SinkFault = 4
status_of_cut fault.Want = 9

-- The status of an ending whose text is written.
abbrev pub status_of : Ending → ℕ
status_of Usage = 2
status_of NoSource = 3
status_of TooLong = 10
status_of OutOfMemory = 9
status_of NoDevice = 5
status_of NoStore = 6
status_of (Damaged block) = 7
status_of Occupied = 6
status_of (TooSmall asked blocks) = 8
status_of (Formatted blocks) = 0
status_of (Checkpointed kind entries) = 0
status_of Sealed = 1
status_of Unsealed = 1
status_of (Stands entries) = 0
status_of (Full need left) = 8
status_of (Shipped frames) = 0
status_of (CutShort why) = status_of_cut why
status_of NoSink = 4
status_of (Replied transcript) = code_of transcript.status

-- The line of a sealed store.
abbrev pub sealed_line : List ℕ
sealed_line = line_text (codes "no" ∷ codes "sealed" ∷ [])

-- The text of an ending: one line, or the replies, or nothing after frames and after a reply that the sink did not take.
abbrev pub text_of : Ending → List ℕ
text_of Usage = line_text (codes "no" ∷ codes "usage" ∷ [])
text_of NoSource = line_text (codes "no" ∷ codes "source" ∷ [])
text_of TooLong = line_text (codes "no" ∷ codes "long" ∷ decimal MAX_INPUT ∷ [])
text_of OutOfMemory = line_text (codes "no" ∷ codes "memory" ∷ [])
text_of NoDevice = line_text (codes "no" ∷ codes "device" ∷ [])
text_of NoStore = line_text (codes "no" ∷ codes "store" ∷ [])
text_of (Damaged block) = line_text (codes "no" ∷ codes "damaged" ∷ decimal block ∷ [])
text_of Occupied = line_text (codes "no" ∷ codes "occupied" ∷ [])
text_of (TooSmall asked blocks) = line_text (codes "no" ∷ codes "small" ∷ decimal asked ∷ decimal blocks ∷ [])
text_of (Formatted blocks) = line_text (codes "formatted" ∷ decimal blocks ∷ [])
text_of (Checkpointed Plain entries) = line_text (codes "checkpoint" ∷ decimal entries ∷ [])
text_of (Checkpointed Seal entries) = line_text (codes "sealed" ∷ decimal entries ∷ [])
text_of Sealed = sealed_line
text_of Unsealed = line_text (codes "no" ∷ codes "unsealed" ∷ [])
text_of (Stands entries) = line_text (codes "stands" ∷ decimal entries ∷ [])
text_of (Full need left) = line_text (codes "no" ∷ codes "full" ∷ decimal need ∷ decimal left ∷ [])
text_of (Shipped frames) = []
text_of (CutShort why) = []
text_of NoSink = []
text_of (Replied transcript) = transcript.text.items

-- The line of an ending is made for it, which takes memory. The replies of a script are there already, and so is the line of a device
-- that failed. After frames, and after a reply that the sink did not take, there is none.
abbrev pub NeedsLine : Ending → Type 0
NeedsLine NoDevice = ⊥
NeedsLine (Shipped frames) = ⊥
NeedsLine (CutShort why) = ⊥
NeedsLine NoSink = ⊥
NeedsLine (Replied transcript) = ⊥
NeedsLine e = Unit {0}

module _ {K : Type 0} (sink : Ghosts K) where
  -- The sink took a prefix of the text, or all of it.
  abbrev pub WrotePrefix : List ℕ → K → K → Type 0
  WrotePrefix text old new = (n : ℕ) × (n ≤ length text) × (sink.written new ≡ sink.written old ++ take n text)

  -- The sink took the whole text and passed it on, and no call of it failed. The status is the one that goes with the text.
  pub record WritesAll (text : List ℕ) (wanted : ℕ) (old new : K) (status : ℕ) : Type 0 where
    pub same_status : status ≡ wanted
    pub no_fault : sink.faults new ≡ sink.faults old
    pub all : sink.is_observable → sink.written new ≡ sink.written old ++ text
    pub passed : sink.is_observable → sink.passed_on new ≡ sink.written new

  -- A call of the sink failed, in the text or in the flush after it. The status is 4.
  pub record FailsToWrite (text : List ℕ) (old new : K) (status : ℕ) : Type 0 where
    pub same_status : status ≡ 4
    pub rose : Rose (sink.faults old) (sink.faults new)
    pub part : sink.is_observable → WrotePrefix text old new

  abbrev pub Writes : List ℕ → ℕ → K → K → ℕ → Type 0
  Writes text wanted old new status = WritesAll text wanted old new status ⊎ FailsToWrite text old new status

  -- The text of the ending was written, or that there was no memory for its line.
  abbrev pub Shows : Ending → K → K → ℕ → Type 0
  Shows e old new status =
      Writes (text_of e) (status_of e) old new status ⊎ (NeedsLine e × Writes (text_of OutOfMemory) 9 old new status)
