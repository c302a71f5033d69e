-- What work at a hall of a store leaves on the device: at its end, after each entry, and after a crash at any moment.
use Rattle.std.specs.Prelude.{◌≡◌, ◌⊎◌, ℕ, ◌+◌, ◌≤◌, Bool, true, false, List, [], ◌∷◌, ◌++◌, length, take}
use Rattle.std.specs.Prelude.{Option, Some, None, option_to_list, Result, IfOk}
use Rattle.std.specs.declared.alloc.AllocError.{AllocError}
use Rattle.std.specs.Option.{is_some}
use Rattle.btr_disk.specs.declared.disk.Disk.{Ghosts}
use Rattle.btr_disk.specs.Bytes.{Image}
use Rattle.btr_disk.specs.Images.{Only}
use Rattle.btr_disk.specs.Causes.{Rose}
use Rattle.btr_disk.specs.Moments.{Leaves, IsUnwritten}
use Rattle.btr_log.specs.Extents.{left}
use Rattle.btr_super.specs.Super.{has_seal}
use Rattle.btr_hist.specs.declared.entry.Entry.{Entry}
use Rattle.btr_hist.specs.Legal.{Legal, Follows, Allowed}
use Rattle.btr_hist.specs.Laws.{Right}
use Rattle.btr_engine.specs.Holds.{HoldsHistory, HoldsHistoryTo}
use Rattle.btr_engine.specs.Raise.{CountsEntry, most_calls_of}
use Rattle.btr_engine.specs.Step.{IsBeforeOrAfter}
use Rattle.btr_open.specs.Damage.{IsUndamaged}
use Rattle.btr_gate.specs.Numbers.{one, times, given}
use Rattle.btr_gate.specs.Prefixes.{StartsWith}
use Rattle.btr_engine.specs.Body.{needs_of}
use Rattle.btr_jobs.specs.States.{StoreState, LogState}
use Rattle.btr_store.specs.declared.status.Status.TheVariants.{DeviceFault}
use Rattle.btr_store.specs.declared.transcript.Transcript.{Transcript}

-- ---- entries and who added them

-- The greatest number that was given: that of the last entry, or of the one in whose step the device failed.
abbrev pub last_number : LogState → ℕ
last_number log = length log.history + one (is_some log.failed)

-- These are the numbers of all that was added since the hall began, each once.
abbrev pub OwnsEachOnce : StoreState → LogState → List ℕ → Type 0
OwnsEachOnce first log own = (n : ℕ) → times n own ≡ given (length first.history) (last_number log) n

-- The entries of the history, and then the one in whose step the device failed, if it did.
abbrev pub all_entries : LogState → List Entry
all_entries log = log.history ++ option_to_list log.failed

-- Each entry with one of these numbers, also the one in whose step the device failed, is allowed after those before it, if they are
-- legal.
abbrev pub AddsAllowed : LogState → List ℕ → Type 0
AddsAllowed log own =
    (p : List Entry) (e : Entry) → StartsWith (all_entries log) (p ++ e ∷ []) → 1 ≤ times (length p + 1) own → Legal p → Allowed p e

-- A crash may leave the entry in whose step the device failed after all others. The history with it at its end is legal, and each
-- version of each output is right.
abbrev pub IsRightInFlight : LogState → Type 0
IsRightInFlight log =
    (e : Entry) → log.failed ≡ Some e → Legal (log.history ++ e ∷ []) × Right (log.history ++ e ∷ [])

-- ---- images

-- The image holds the whole history, and then the entry in whose step the device failed.
abbrev pub HoldsOneMore : ℕ → LogState → Image → Type 0
HoldsOneMore size log image = (e : Entry) × (log.failed ≡ Some e) × HoldsHistory size image (log.history ++ e ∷ [])

-- The image holds a prefix of the history with at least this many entries; or all of it and the entry in whose step the device failed.
abbrev pub HoldsPrefix : ℕ → ℕ → LogState → Image → Type 0
HoldsPrefix size least log image =
    ((n : ℕ) × (least ≤ n) × HoldsHistory size image (take n log.history)) ⊎ HoldsOneMore size log image

-- The image holds the whole history, and perhaps the entry in whose step the device failed.
abbrev pub HoldsLog : ℕ → LogState → Image → Type 0
HoldsLog size log image = HoldsHistory size image log.history ⊎ HoldsOneMore size log image

module _ {D : Type 0} (disk : Ghosts D) where
  -- The device, as it reads, holds the history of this start, with the blocks that are left, and is sealed exactly if the start is.
  pub record HoldsStart (d : D) (first : StoreState) : Type 0 where
    pub blocks : ℕ
    pub tail : ℕ
    pub holds : HoldsHistoryTo (disk.size d) (disk.contents d) blocks tail first.history
    pub same_left : first.left ≡ left blocks tail
    pub same_seal : first.sealed ≡ has_seal holds.super

  -- The device, as it reads, holds the history, and a crash leaves nothing else.
  pub record HoldsSafely (d : D) (h : List Entry) : Type 0 where
    pub holds : HoldsHistory (disk.size d) (disk.contents d) h
    pub only : Only (disk.contents d) (disk.images_now d)

  -- The device was `d` when the history was `h`, and work went on to the device `new` and to this state of the log. A crash at `d` leaves
  -- just the history `h`. A crash at any moment from `d` to `new` leaves a prefix of the last history that has all entries of `h`.
  pub record KeepsHistory (log : LogState) (new d : D) (h : List Entry) : Type 0 where
    pub now : (c : Image) → disk.images_now d c → HoldsHistory (disk.size new) c h
    pub since : Leaves disk.calls disk.images_since d new (HoldsPrefix (disk.size new) (length h) log)

  -- What was done to the device after the last entry, with which the history was `h`: nothing; or, if the device failed in the step of
  -- an entry, one call or more and at most those of a step with it, in which a crash leaves the history without that entry, or with it.
  abbrev pub EndsAt : Option Entry → D → D → List Entry → Type 0
  EndsAt None new d h = new ≡ d
  EndsAt (Some e) new d h =
      Rose (disk.calls d) (disk.calls new) × (disk.calls new ≤ disk.calls d + most_calls_of e)
      × Leaves disk.calls disk.images_since d new (IsBeforeOrAfter (disk.size new) h e)

  -- There is a device after each of these entries, which were added after the history `h` and the device `d`. The calls of a step with it
  -- commit an entry: four, or five or seven more if its format is above 1 and the superblock is raised for it. A crash in them leaves the
  -- history without the entry, or with it. From then on a crash keeps the entry.
  abbrev pub KeepsEach : LogState → D → D → List Entry → List Entry → Type 0
  KeepsEach log new d h [] = KeepsHistory log new d h × EndsAt log.failed new d h
  KeepsEach log new d h (e ∷ more) =
      KeepsHistory log new d h × (c : D) × CountsEntry e (disk.calls d) (disk.calls c)
      × Leaves disk.calls disk.images_since d c (IsBeforeOrAfter (disk.size new) h e) × KeepsEach log new c (h ++ e ∷ []) more

  -- What a crash leaves of work from the device `old` to the device `new`, which began with `first` and went on to this state of the log.
  pub record CrashLeavesLog (first : StoreState) (log : LogState) (old new : D) : Type 0 where
    -- The opening of the store left the device so, and wrote nothing.
    pub opened : D
    pub opening : IsUnwritten disk.calls disk.contents disk.images_now disk.images_since old opened
    -- At each moment of the run a crash leaves a prefix of the history with all entries from before, or what it might have left before.
    pub moments : Leaves disk.calls disk.images_since old new
        (λ c. disk.images_now old c ⊎ HoldsPrefix (disk.size new) (length first.history) log c)
    -- From the opening on, and from each entry on, a crash keeps the entries so far.
    pub each_entry : (more : List Entry) × (log.history ≡ first.history ++ more) × KeepsEach log new opened first.history more
    -- At the end a crash leaves the whole history.
    pub now : (c : Image) → disk.images_now new c → HoldsLog (disk.size new) log c

  -- Work at a hall that began with `first` and went on to this state of the log, from the device `old` to the device `new`. Each entry may
  -- follow those before it. If the device failed in a step, its count of faults rose. If the first history is legal, and each entry that
  -- was added is allowed, each version of each output is right at the end, also with the entry in whose step the device failed.
  pub record Works (first : StoreState) (log : LogState) (own : List ℕ) (old new : D) : Type 0 where
    pub same_size : disk.size new ≡ disk.size old
    pub begins : StartsWith log.history first.history
    pub follows : Follows log.history
    pub not_stopped : first.stopped ≡ false
    pub each_once : OwnsEachOnce first log own
    -- The entries, with the one in whose step the device failed, need no more blocks than there were.
    pub fits : needs_of (all_entries log) ≤ first.left + needs_of first.history
    pub legal : AddsAllowed log own → Legal first.history → Legal log.history
    pub right : AddsAllowed log own → Legal first.history → Right log.history
    pub in_flight : AddsAllowed log own → Legal first.history → IsRightInFlight log
    pub before : disk.is_observable → HoldsStart old first
    pub after : disk.is_observable → log.failed ≡ None → HoldsSafely new log.history
    pub failed : is_some log.failed ≡ true → Rose (disk.faults old) (disk.faults new)
    pub crash : disk.is_observable → CrashLeavesLog first log old new

  -- Work on the device `old`, of whose start, log and numbers this is true, left the device `new`. Each entry that was added is
  -- allowed: if the history was legal before, it is so still, and each version of each output is right. So it is with the entry in
  -- whose step the device failed, which a crash may leave after the others. `failed` says whether the device failed in a step.
  pub record DoesRightly (What : StoreState → LogState → List ℕ → Type 0) (failed : Bool) (old new : D) : Type 0 where
    pub first : StoreState
    pub log : LogState
    pub own : List ℕ
    pub works : Works first log own old new
    pub what : What first log own
    pub same_failed : failed ≡ is_some log.failed
    pub legal : Legal first.history → Legal log.history
    pub right : Legal first.history → Right log.history
    pub in_flight : Legal first.history → IsRightInFlight log

  -- If the device can be observed and holds a history, this is so. Of other devices, as a real file, nothing is said.
  abbrev pub IfHolds : D → Type 0 → Type 0
  IfHolds d P = disk.is_observable → (h : List Entry) → HoldsHistory (disk.size d) (disk.contents d) h → P

  -- The device, if it can be observed, had a store, and no block of it was damaged.
  abbrev pub WasSound : D → Type 0
  WasSound old = disk.is_observable → IsUndamaged (disk.size old) (disk.contents old)

  -- What is so of work on each device, also on one that holds no history, or that cannot be observed. The store was sound before. The
  -- device has as many blocks. If the status or `failed` says that it failed, its count of faults rose.
  pub record IsPlainWork (old : D) (said : Result Transcript AllocError) (failed : Bool) (new : D) : Type 0 where
    pub sound : WasSound old
    pub same_size : disk.size new ≡ disk.size old
    pub faulted : IfOk said (λ t. t.status ≡ DeviceFault → Rose (disk.faults old) (disk.faults new))
    pub stopped : failed ≡ true → Rose (disk.faults old) (disk.faults new)
