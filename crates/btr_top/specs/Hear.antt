-- The command `hear`: what it does with the frames of its input, what it says of them, and why it ends so.
use Rattle.std.specs.Prelude.{◌≡◌, ◌⊎◌, ℕ, ◌+◌, ◌<◌, ◌≤◌, ◌==◌, ◌&&◌, List, [], ◌∷◌, length, take, slice_get, codes, decimal}
use Rattle.std.specs.Prelude.{Bool, true, false, if◌then◌else◌, Option, Some, None, Result, Ok, Err, IfOk}
use Rattle.std.specs.List.{AllByRecursion}
use Rattle.std.specs.declared.alloc.AllocError.{AllocError}
use Rattle.btr_io.specs.declared.source.Source.{Ghosts as SourceGhosts}
use Rattle.btr_disk.specs.declared.disk.Disk.{Ghosts}
use Rattle.btr_hist.specs.declared.entry.Entry.{Entry}
use Rattle.btr_hist.specs.Legal.{Allowed}
use Rattle.btr_engine.specs.declared.step.StepFault.{StepFault}
use Rattle.btr_engine.specs.declared.step.StepFault.TheVariants.{Sealed, DeviceFull, DeviceFault}
use Rattle.btr_engine.specs.declared.engine.Engine.{Engine}
use Rattle.btr_engine.specs.Body.{need_of, needs_of}
use Rattle.btr_engine.specs.Engine.{is_sealed}
use Rattle.btr_text.specs.Text.{line_text}
use Rattle.btr_hall.specs.declared.item.Item.{Item}
use Rattle.btr_hall.specs.Trace.{IsTraceOf, engine_after, has_halt, history_of}
use Rattle.btr_jobs.specs.States.{StoreState, LogState, start_with, failed_in}
use Rattle.btr_store.specs.declared.status.Status.{Status}
use Rattle.btr_store.specs.declared.status.Status.TheVariants.{Done, Refused, Full}
use Rattle.btr_store.specs.declared.transcript.Transcript.{Transcript}
use Rattle.btr_follow.specs.declared.frame.Frame.{Frame}
use Rattle.btr_follow.specs.declared.frame.Frames.{Frames}
use Rattle.btr_follow.specs.declared.heard.Heard.{Heard}
use Rattle.btr_follow.specs.declared.heard.Heard.TheVariants.{Stale, Early, Garbled, Foreign, Taken}
use Rattle.btr_follow.specs.declared.follower.Follower.{Follower}
use Rattle.btr_follow.specs.Frames.{AreRead}
use Rattle.btr_follow.specs.Follower.{engine_of, IsFollowerOf}
use Rattle.btr_follow.specs.Hears.{Brings, Hears}
use Rattle.btr_top.specs.declared.hear.FrameCounts.{FrameCounts}
use Rattle.btr_top.specs.declared.ending.Ending.{Ending}
use Rattle.btr_top.specs.declared.ending.Ending.TheVariants.{OutOfMemory, NoDevice, Replied}
use Rattle.btr_top.specs.Ending.{sealed_line}
use Rattle.btr_top.specs.Command.{HoldsStoreWith, IsWithinLimit, IsKept, CommandCause}
use Rattle.btr_top.specs.Work.{IfReplied, WorkCause}

-- ---- the numbers of frames

abbrev pub no_frames : FrameCounts
no_frames = record { taken = 0; stale = 0; early = 0; bad = 0 }

-- The numbers with one frame more, which was answered so. It is bad if its bytes spell no entry, or one that is not allowed.
abbrev pub count_frame : FrameCounts → Heard → FrameCounts
count_frame n (Stale entries) = record { taken = n.taken; stale = n.stale + 1; early = n.early; bad = n.bad }
count_frame n (Early entries) = record { taken = n.taken; stale = n.stale; early = n.early + 1; bad = n.bad }
count_frame n Garbled = record { taken = n.taken; stale = n.stale; early = n.early; bad = n.bad + 1 }
count_frame n Foreign = record { taken = n.taken; stale = n.stale; early = n.early; bad = n.bad + 1 }
count_frame n (Taken number) = record { taken = n.taken + 1; stale = n.stale; early = n.early; bad = n.bad }

-- The numbers after these answers, the first of them first.
abbrev pub counts_after : FrameCounts → List Heard → FrameCounts
counts_after n [] = n
counts_after n (answer ∷ answers) = counts_after (count_frame n answer) answers

abbrev pub counts_of : List Heard → FrameCounts
counts_of answers = counts_after no_frames answers

-- The line of these numbers. `rest` is the number of bytes of the input after its last whole frame.
abbrev pub heard_line : FrameCounts → ℕ → List ℕ
heard_line n rest =
    line_text (codes "heard" ∷ decimal n.taken ∷ codes "stale" ∷ decimal n.stale ∷ codes "early" ∷ decimal n.early
    ∷ codes "bad" ∷ decimal n.bad ∷ codes "rest" ∷ decimal rest ∷ [])

-- The status that the line asks for: nothing is early or bad, and no byte is left.
abbrev pub heard_status : FrameCounts → ℕ → Status
heard_status n rest = if n.early == 0 && (n.bad == 0 && rest == 0) then Done else Refused

-- The line of a device without room.
abbrev pub full_line : ℕ → ℕ → List ℕ
full_line need left = line_text (codes "no" ∷ codes "full" ∷ decimal need ∷ decimal left ∷ [])

-- ---- frames in their order

-- A follower of the history `h` answers these frames so, in their order, and follows then the history `after`. Each entry of `after`
-- beyond `h` is that of one frame that is answered `Taken`: they are in the order of the frames, and none is there twice.
abbrev pub HearsAll : List Entry → List Frame → List Heard → List Entry → Type 0
HearsAll h [] [] after = after ≡ h
HearsAll h [] (answer ∷ answers) after = ⊥
HearsAll h (f ∷ frames) [] after = ⊥
HearsAll h (f ∷ frames) (answer ∷ answers) after = (mid : List Entry) × Hears h f answer mid × HearsAll mid frames answers after

-- The first of these frames, as many as there are answers, were answered so.
abbrev pub HearsFirst : List Entry → List Frame → List Heard → List Entry → Type 0
HearsFirst h frames answers after = HearsAll h (take (length answers) frames) answers after

-- The answers that a sealed store has: it answers no frame that another store would take, or find not allowed.
abbrev pub IsSealedAnswer : Heard → Type 0
IsSealedAnswer (Stale entries) = Unit {0}
IsSealedAnswer (Early entries) = Unit {0}
IsSealedAnswer Garbled = Unit {0}
IsSealedAnswer Foreign = ⊥
IsSealedAnswer (Taken number) = ⊥

-- The frame after those that were answered brings this entry, which is allowed after this history.
pub record BringsNext (frames : List Frame) (answers : List Heard) (h : List Entry) (e : Entry) : Type 0 where
  pub frame : Frame
  pub at : slice_get frames (length answers) ≡ Some frame
  pub brings : Brings h frame e
  pub allowed : Allowed h e

-- If the device failed in the step of an entry, it is that of the frame after those that were answered.
abbrev pub FailsInNext : List Frame → List Heard → List Entry → Option Entry → Type 0
FailsInNext frames answers h None = Unit {0}
FailsInNext frames answers h (Some e) = BringsNext frames answers h e

-- The store was sealed, and the frame after those that were answered brings an entry, which may be one that is not allowed.
pub record MeetsSeal (frames : List Frame) (answers : List Heard) (start : StoreState) (h : List Entry) : Type 0 where
  pub sealed : start.sealed ≡ true
  pub frame : Frame
  pub at : slice_get frames (length answers) ≡ Some frame
  pub entry : Entry
  pub brings : Brings h frame entry

-- ---- what is said

-- All frames were answered, and the transcript is the line of their numbers.
pub record SaysHeard (frames : Frames) (answers : List Heard) (t : Transcript) : Type 0 where
  pub all : length answers ≡ length frames.frames
  pub same_text : t.text.items ≡ heard_line (counts_of answers) frames.rest
  pub same_status : t.status ≡ heard_status (counts_of answers) frames.rest

-- The transcript is the line of a device without room.
pub record SaysFull (need left : ℕ) (t : Transcript) : Type 0 where
  pub same_text : t.text.items ≡ full_line need left
  pub same_status : t.status ≡ Full

-- The transcript is the line of a sealed store.
pub record SaysStoreSealed (t : Transcript) : Type 0 where
  pub same_text : t.text.items ≡ sealed_line
  pub same_status : t.status ≡ Refused

-- The frame after those that were answered brings an entry for which too few blocks are left, and the transcript says so. The store was not
-- sealed.
pub record LacksRoomForNext (frames : List Frame) (answers : List Heard) (start : StoreState) (h : List Entry) (t : Transcript)
    : Type 0 where
  pub unsealed : start.sealed ≡ false
  pub entry : Entry
  pub next : BringsNext frames answers h entry
  pub room : ℕ
  pub same_room : room + needs_of h ≡ start.left + needs_of start.history
  pub less : room < need_of h entry
  pub says : SaysFull (need_of h entry) room t

-- What is said of the frames. If there was no memory, nothing is; and after a failure of the device nothing but that is.
abbrev pub SaysHearing : Frames → List Heard → StoreState → LogState → Result Transcript AllocError → Type 0
SaysHearing frames answers start log (Ok t) =
    (log.failed ≡ None)
    × (SaysHeard frames answers t ⊎ LacksRoomForNext frames.frames answers start log.history t
    ⊎ (MeetsSeal frames.frames answers start log.history × SaysStoreSealed t))
SaysHearing frames answers start log (Err error) = Unit {0}

-- What `hear` did with these frames on a store that held the history of the start: it answered them in order, up to the first for which it
-- found no room or no memory, or in which the device failed, or which a sealed store does not answer.
pub record HearsFrames (frames : Frames) (start : StoreState) (log : LogState) (said : Result Transcript AllocError) : Type 0 where
  pub answers : List Heard
  pub heard : HearsFirst start.history frames.frames answers log.history
  pub sealed : start.sealed ≡ true → AllByRecursion IsSealedAnswer answers
  pub failed : FailsInNext frames.frames answers log.history log.failed
  pub says : SaysHearing frames answers start log said

-- What is said on each device: a line with some numbers of all frames, or that of a device without room, or of a sealed store.
abbrev pub SaysSomeHearing : Frames → Transcript → Type 0
SaysSomeHearing frames t =
    ((answers : List Heard) × SaysHeard frames answers t) ⊎ ((need : ℕ) × (left : ℕ) × SaysFull need left t) ⊎ SaysStoreSealed t

-- ---- the command

-- There is room for each entry that a frame brings after those that were answered.
abbrev pub HasRoomForFrames : List Frame → StoreState → Type 0
HasRoomForFrames frames store =
    (answers : List Heard) (h : List Entry) (e : Entry) → HearsFirst store.history frames answers h → BringsNext frames answers h e
    → needs_of h + need_of h e ≤ store.left + needs_of store.history

module _ {D : Type 0} (disk : Ghosts D) where
  -- Why `hear` ends so, after its frames were read.
  abbrev pub FramesCause : Frames → D → D → Ending → Type 0
  FramesCause frames old new e =
      WorkCause disk (λ said start log own. HearsFrames frames start log said) old new e × IfReplied (SaysSomeHearing frames) e

  -- Why `hear` ends so, after its input was read: there was no memory for the frames, and nothing was done; or the frames were heard.
  abbrev pub HearingCause : List ℕ → D → D → Ending → Type 0
  HearingCause input old new e =
      ((e ≡ OutOfMemory) × IsKept disk old new) ⊎ ((frames : Frames) × AreRead input frames × FramesCause frames old new e)

module _ {S D : Type 0} (source : SourceGhosts S) (disk : Ghosts D) where
  -- Why `hear` ends so.
  abbrev pub HearEnds : S → S → D → D → Ending → Type 0
  HearEnds given rest old new e = CommandCause source (HearingCause disk) given rest old new e

  -- The device holds a store with room for the entries of the frames, and the input is within the limit.
  abbrev pub CanHear : S → D → Type 0
  CanHear given old = IsWithinLimit source given
      × ((frames : Frames) → AreRead (source.left given) frames → HoldsStoreWith disk (HasRoomForFrames frames.frames) old)

-- ---- private promises

-- The device failed in the step of a frame's entry.
abbrev pub is_device_fault : Result FrameCounts StepFault → Bool
is_device_fault (Err DeviceFault) = true
is_device_fault result = false

-- The frame after those that were answered brings an entry that needs more blocks than there are. The store was not sealed.
pub record IsFullForNext (frames : List Frame) (answers : List Heard) (start : StoreState) (h : List Entry) (need room : ℕ) : Type 0 where
  pub unsealed : start.sealed ≡ false
  pub entry : Entry
  pub next : BringsNext frames answers h entry
  pub needs : need ≡ need_of h entry
  pub same_room : room + needs_of h ≡ start.left + needs_of start.history
  pub less : room < need

-- The transcript is the line of these numbers.
pub record SaysCounts (n : FrameCounts) (rest : ℕ) (t : Transcript) : Type 0 where
  pub same_text : t.text.items ≡ heard_line n rest
  pub same_status : t.status ≡ heard_status n rest

-- How `hear` ends with this result of its frames. Memory may run out for its line.
abbrev pub EndsHearing : Result FrameCounts StepFault → ℕ → Ending → Type 0
EndsHearing (Ok n) rest e = (e ≡ OutOfMemory) ⊎ ((t : Transcript) × (e ≡ Replied t) × SaysCounts n rest t)
EndsHearing (Err (DeviceFull need left)) rest e = (e ≡ OutOfMemory) ⊎ ((t : Transcript) × (e ≡ Replied t) × SaysFull need left t)
EndsHearing (Err Sealed) rest e = (e ≡ OutOfMemory) ⊎ ((t : Transcript) × (e ≡ Replied t) × SaysStoreSealed t)
EndsHearing (Err DeviceFault) rest e = e ≡ NoDevice
EndsHearing (Err why) rest e = e ≡ OutOfMemory

module _ {D : Type 0} {disk : Ghosts D} where
  -- What a follower of the history `h` did with these frames: its engine, which was `x`, has made the steps of these items since.
  pub record HeardAfter (h : List Entry) (frames : List Frame) (answers : List Heard) (items : List (Item D disk)) (x : Engine D disk)
      (result : Result FrameCounts StepFault) : Type 0 where
    pub heard : HearsFirst h frames answers (history_of h items)
    pub unstepped : is_sealed x ≡ true → AllByRecursion IsSealedAnswer answers
    pub failed : FailsInNext frames answers (history_of h items) (failed_in items)
    pub full : (need room : ℕ) → result ≡ Err (DeviceFull need room)
        → IsFullForNext frames answers (start_with h x) (history_of h items) need room
    pub sealed : result ≡ Err Sealed → MeetsSeal frames answers (start_with h x) (history_of h items)

  -- What a follower did with these frames, with this result: its engine made a step for each entry that was taken, and one more if the
  -- device failed in it.
  pub record HeardEach (frames : List Frame) (old new : Follower D disk) (result : Result FrameCounts StepFault) : Type 0 where
    pub answers : List Heard
    pub items : List (Item D disk)
    pub counted : IfOk result (λ n. (length answers ≡ length frames) × (n ≡ counts_of answers))
    pub trace : IsTraceOf (engine_of old) items
    pub engine : engine_of new ≡ engine_after (engine_of old) items
    pub halted : has_halt items ≡ is_device_fault result
    pub heard : (h : List Entry) → IsFollowerOf h old → HeardAfter h frames answers items (engine_of old) result
