-- Which frames a store ships, of its history and of its log, and why not all.
use Rattle.std.specs.Prelude.{◌≡◌, ◌⊎◌, ℕ, ◌+◌, ◌<◌, ◌≤◌, ◌==◌, nat_le, Bool, ◌&&◌, List, [], ◌∷◌, ◌++◌, map, length, take, drop}
use Rattle.std.specs.Prelude.{Result, Ok, Err, IfOk, IfErr}
use Rattle.std.specs.List.{filter, flat_map}
use Rattle.btr_disk.specs.declared.disk.Disk.{Ghosts}
use Rattle.btr_disk.specs.Bytes.{Image}
use Rattle.btr_disk.specs.Gate.{IsClosed}
use Rattle.btr_disk.specs.Causes.{Rose}
use Rattle.btr_disk.specs.Images.{Only}
use Rattle.btr_io.specs.declared.sink.Sink.{Ghosts as Sinking}
use Rattle.btr_io.specs.Faults.{Rose as SinkRose}
use Rattle.btr_log.specs.declared.head.Head.{Head}
use Rattle.btr_log.specs.declared.found.ExtentFault.{ExtentFault}
use Rattle.btr_log.specs.declared.found.ExtentFault.TheVariants as extent
use Rattle.btr_log.specs.Head.{head_at}
use Rattle.btr_log.specs.Extents.{need, IsExtent, Extents, first_gate}
use Rattle.btr_log.specs.Found.{IsDamagedExtent}
use Rattle.btr_super.specs.declared.superblock.Super.{Super}
use Rattle.btr_super.specs.Choose.{HasNoSuper, IsChosen, IsDamagedSuper}
use Rattle.btr_hist.specs.declared.entry.Entry.{Entry}
use Rattle.btr_entry.specs.Grammar.{spelling}
use Rattle.btr_engine.specs.Holds.{HoldsHistory}
use Rattle.btr_follow.specs.declared.frame.Frame.{Frame}
use Rattle.btr_follow.specs.declared.shipping.ShipFault.{ShipFault}
use Rattle.btr_follow.specs.declared.shipping.ShipFault.TheVariants.{NotAStore, Damaged, Fault, SinkFault, Want}
use Rattle.btr_follow.specs.Frames.{frame_bytes}

-- ---- the frames of a history

-- The frames of entries that are numbered from this number on.
abbrev pub frames_numbered : ℕ → List Entry → List Frame
frames_numbered number [] = []
frames_numbered number (e ∷ h) = record { number = number; bytes = spelling e } ∷ frames_numbered (number + 1) h

-- The number of a frame is at least `from`.
abbrev pub is_from : ℕ → Frame → Bool
is_from from f = nat_le from f.number

-- The frames of the entries of a history with number at least `from`. The first entry has number 1.
abbrev pub frames_from : ℕ → List Entry → List Frame
frames_from from h = filter (is_from from) (frames_numbered 1 h)

-- ---- the frames of a log

-- The head of a body.
abbrev pub head_in : List ℕ → Head
head_in body = head_at (take 64 body)

-- The frame of a body: the number in its head, and its content.
abbrev pub frame_in : List ℕ → Frame
frame_in body = record { number = (head_in body).number; bytes = take (head_in body).length (drop 64 body) }

-- The body is that of an entry with number at least `from`, and not that of a checkpoint.
abbrev pub is_sent : ℕ → List ℕ → Bool
is_sent from body = (head_in body).kind == 1 && is_from from (frame_in body)

-- The frames of bodies.
abbrev pub frames_in : ℕ → List (List ℕ) → List Frame
frames_in from bodies = map frame_in (filter (is_sent from) bodies)

-- The bytes of these frames.
abbrev pub bytes_in : ℕ → List (List ℕ) → List ℕ
bytes_in from bodies = flat_map frame_bytes (frames_in from bodies)

-- ---- what was written

-- A prefix of these bytes was written.
pub record HasSentPart (bytes before now : List ℕ) : Type 0 where
  pub sent : List ℕ
  pub more : List ℕ
  pub parts : bytes ≡ sent ++ more
  pub written : now ≡ before ++ sent

-- Without a frame the sink was not called; nor was it before a fault that is not its own.
abbrev pub SendsNothingElse : {K : Type 0} → K → K → Result ℕ ShipFault → Type 0
SendsNothingElse old new result =
    IfOk result (λ n. n ≡ 0 → new ≡ old) × IfErr result (λ why. (why ≡ SinkFault → ⊥) → new ≡ old)

-- The sink did not fail in a frame.
abbrev pub IsNoSinkFault : Result ℕ ShipFault → Type 0
IsNoSinkFault result = result ≡ Err SinkFault → ⊥

-- Why the frame of a body was not written.
abbrev pub BodyCause : ℕ → ℕ → ShipFault → Type 0
BodyCause before after NotAStore = ⊥
BodyCause before after (Damaged block) = ⊥
BodyCause before after Fault = ⊥
BodyCause before after SinkFault = SinkRose before after
BodyCause before after Want = Unit {0}

-- What a fault of the log means.
abbrev pub fault_of_extent : ExtentFault → ShipFault
fault_of_extent (extent.Damaged block) = Damaged block
fault_of_extent extent.Fault = Fault
fault_of_extent extent.Want = Want

-- All entries before the checkpoint of a superblock have lower numbers than `from`: the extent of the checkpoint, which says how many they
-- are, stands after its gate, and the gate after it is the tail of the superblock.
pub record IsAfterCheckpoint (image : Image) (s : Super) (from : ℕ) : Type 0 where
  pub some : 0 < s.checkpoint
  pub body : List ℕ
  pub head : Head
  pub extent : IsExtent image s.checkpoint body head
  pub kind : head.kind ≡ 2
  pub lower : head.number < from
  pub next : s.tail ≡ s.checkpoint + need body

-- A log is shipped from its first gate, or from the gate after the checkpoint of the superblock, if all entries before that have lower
-- numbers.
abbrev pub IsShipStart : Image → Super → ℕ → ℕ → Type 0
IsShipStart image s from start = (start ≡ first_gate) ⊎ ((start ≡ s.tail) × IsAfterCheckpoint image s from)

-- In a log of this many blocks that is read from this gate on, this block is the first one that keeps it from being read further.
pub record IsFirstDamage (image : Image) (blocks start block : ℕ) : Type 0 where
  pub bodies : List (List ℕ)
  pub gate : ℕ
  pub extents : Extents image start bodies gate
  pub damage : IsDamagedExtent image blocks gate block

-- This block keeps the log of a chosen superblock from being shipped further.
pub record IsLogDamage (size : ℕ) (image : Image) (from block : ℕ) : Type 0 where
  pub super : Super
  pub chosen : IsChosen size image super
  pub start : ℕ
  pub begins : IsShipStart image super from start
  pub damage : IsFirstDamage image super.blocks start block

-- This block keeps a store from being shipped further: the body of an open superblock, or the first damaged one of what is read of the log.
abbrev pub IsShipDamage : ℕ → Image → ℕ → ℕ → Type 0
IsShipDamage size image from block = IsDamagedSuper size image block ⊎ IsLogDamage size image from block

-- The fault names no block, and no store that is missing.
abbrev pub IsNoDamage : ShipFault → Type 0
IsNoDamage NotAStore = ⊥
IsNoDamage (Damaged block) = ⊥
IsNoDamage Fault = Unit {0}
IsNoDamage SinkFault = Unit {0}
IsNoDamage Want = Unit {0}

module _ {K : Type 0} (sink : Sinking K) where
  -- The sink took all frames of this history from this number on, and the count is their number; or it took a prefix of them.
  abbrev pub ShipsHistory : ℕ → List Entry → K → K → Result ℕ ShipFault → Type 0
  ShipsHistory from h old new (Ok count) =
      (count ≡ length (frames_from from h))
      × (sink.is_observable → sink.written new ≡ sink.written old ++ flat_map frame_bytes (frames_from from h))
  ShipsHistory from h old new (Err why) =
      IsNoDamage why
      × (sink.is_observable → HasSentPart (flat_map frame_bytes (frames_from from h)) (sink.written old) (sink.written new))

module _ {D : Type 0} (disk : Ghosts D) where
  -- Why no superblock was chosen.
  abbrev pub ChoiceCause : D → D → ShipFault → Type 0
  ChoiceCause old new NotAStore = disk.is_observable → HasNoSuper (disk.size old) (disk.contents old)
  ChoiceCause old new (Damaged block) = disk.is_observable → IsDamagedSuper (disk.size old) (disk.contents old) block
  ChoiceCause old new Fault = Rose (disk.faults old) (disk.faults new)
  ChoiceCause old new SinkFault = ⊥
  ChoiceCause old new Want = ⊥

  -- Why it was not found where to start.
  abbrev pub GateCause : D → D → ShipFault → Type 0
  GateCause old new NotAStore = ⊥
  GateCause old new (Damaged block) = ⊥
  GateCause old new Fault = Rose (disk.faults old) (disk.faults new)
  GateCause old new SinkFault = ⊥
  GateCause old new Want = Unit {0}

  module _ {K : Type 0} (sink : Sinking K) where
    -- The log was shipped from one gate to another: the extents of these bodies are between them, and the sink took the frames of their
    -- entries, as many as the count says.
    pub record ShipsTo (from start : ℕ) (d : D) (old new : K) (gate count : ℕ) : Type 0 where
      pub bodies : List (List ℕ)
      pub extents : Extents (disk.contents d) start bodies gate
      pub counted : count ≡ length (frames_in from bodies)
      pub sent : sink.is_observable → sink.written new ≡ sink.written old ++ bytes_in from bodies

    -- The log was shipped from this gate on, up to a closed gate.
    pub record ShipsLog (from start : ℕ) (d : D) (old new : K) (count : ℕ) : Type 0 where
      pub gate : ℕ
      pub ships : ShipsTo from start d old new gate count
      pub closed : IsClosed (disk.contents d) gate

    -- The log was shipped in part: the sink took a prefix of the frames of the extents up to a gate.
    pub record StopsIn (from start : ℕ) (d : D) (old new : K) : Type 0 where
      pub bodies : List (List ℕ)
      pub gate : ℕ
      pub extents : Extents (disk.contents d) start bodies gate
      pub sent : sink.is_observable → HasSentPart (bytes_in from bodies) (sink.written old) (sink.written new)

    -- So many whole frames were sent of a log, from this gate on. If there was none, and the sink did not fail, the sink was not called.
    pub record CountsSent (from start : ℕ) (d : D) (old new : K) (count : ℕ) (result : Result ℕ ShipFault) : Type 0 where
      pub all : (n : ℕ) → result ≡ Ok n → n ≡ count
      pub later : sink.faults old ≤ sink.faults new
      pub none : IsNoSinkFault result → count ≡ 0 → new ≡ old
      pub some : disk.is_observable → IsNoSinkFault result → (gate : ℕ) × ShipsTo from start d old new gate count

    -- The log of the chosen superblock was shipped.
    pub record ShipsStore (from : ℕ) (d : D) (old new : K) (count : ℕ) : Type 0 where
      pub super : Super
      pub chosen : IsChosen (disk.size d) (disk.contents d) super
      pub start : ℕ
      pub begins : IsShipStart (disk.contents d) super from start
      pub ships : ShipsLog from start d old new count

    -- It was shipped in part.
    pub record StopsInStore (from : ℕ) (d : D) (old new : K) : Type 0 where
      pub super : Super
      pub chosen : IsChosen (disk.size d) (disk.contents d) super
      pub start : ℕ
      pub begins : IsShipStart (disk.contents d) super from start
      pub stops : StopsIn from start d old new

    -- So many whole frames of the log of the chosen superblock were shipped, up to a gate.
    pub record ShipsSome (from : ℕ) (d : D) (old new : K) (count : ℕ) : Type 0 where
      pub super : Super
      pub chosen : IsChosen (disk.size d) (disk.contents d) super
      pub start : ℕ
      pub begins : IsShipStart (disk.contents d) super from start
      pub gate : ℕ
      pub ships : ShipsTo from start d old new gate count

    -- So many whole frames were shipped of a store. If there was none, and the sink did not fail, the sink was not called. If there was
    -- one or more, they are those of the log, in order from its first one on, and the sink took nothing else.
    pub record CountsShipped (from : ℕ) (d : D) (old new : K) (count : ℕ) (result : Result ℕ ShipFault) : Type 0 where
      pub all : (n : ℕ) → result ≡ Ok n → n ≡ count
      pub later : sink.faults old ≤ sink.faults new
      pub none : IsNoSinkFault result → count ≡ 0 → new ≡ old
      pub some : disk.is_observable → IsNoSinkFault result → 0 < count → ShipsSome from d old new count

    -- Nothing was written to the sink, or a log was shipped in part.
    abbrev pub StopsStore : ℕ → D → K → K → Type 0
    StopsStore from d old new = (sink.is_observable → sink.written new ≡ sink.written old) ⊎ StopsInStore from d old new

    -- If the device tells its contents and holds a history, the sink took the frames of that, or a prefix of them.
    abbrev pub ShipsHeld : ℕ → D → K → K → Result ℕ ShipFault → Type 0
    ShipsHeld from d old new result =
        disk.is_observable → (h : List Entry) → HoldsHistory (disk.size d) (disk.contents d) h → ShipsHistory sink from h old new result

    -- A crash leaves what a read returns, or nothing was written to the sink and there was a fault.
    abbrev pub ShipsDurable : D → K → K → Result ℕ ShipFault → Type 0
    ShipsDurable d old new (Ok count) = Only (disk.contents d) (disk.images_now d)
    ShipsDurable d old new (Err why) =
        (sink.is_observable → sink.written new ≡ sink.written old) ⊎ Only (disk.contents d) (disk.images_now d)

    -- Why a log of this many blocks was not shipped whole from this gate on.
    abbrev pub SendCause : ℕ → ℕ → D → D → K → K → ShipFault → Type 0
    SendCause blocks start old new before after NotAStore = ⊥
    SendCause blocks start old new before after (Damaged block) =
        disk.is_observable → IsFirstDamage (disk.contents old) blocks start block
    SendCause blocks start old new before after Fault = Rose (disk.faults old) (disk.faults new)
    SendCause blocks start old new before after SinkFault = SinkRose (sink.faults before) (sink.faults after)
    SendCause blocks start old new before after Want = Unit {0}

    -- Why a store was not shipped whole.
    abbrev pub ShipCause : ℕ → D → D → K → K → ShipFault → Type 0
    ShipCause from old new before after NotAStore = disk.is_observable → HasNoSuper (disk.size old) (disk.contents old)
    ShipCause from old new before after (Damaged block) =
        disk.is_observable → IsShipDamage (disk.size old) (disk.contents old) from block
    ShipCause from old new before after Fault = Rose (disk.faults old) (disk.faults new)
    ShipCause from old new before after SinkFault = SinkRose (sink.faults before) (sink.faults after)
    ShipCause from old new before after Want = Unit {0}
