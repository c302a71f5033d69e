-- What an append promises: which runs it takes, when each result comes, and what the log is then.
use Rattle.std.specs.Prelude.{◌≡◌, ◌⊎◌, ℕ, ◌+◌, ◌-◌, ◌*◌, ◌<◌, ◌≤◌, false, true, List, [], ◌∷◌, ◌++◌, length, take}
use Rattle.std.specs.Prelude.{IsTrue, IsFalse, Result, Err}
use Rattle.btr_disk.specs.declared.disk.Disk.{Ghosts}
use Rattle.btr_disk.specs.Bytes.{Image}
use Rattle.btr_disk.specs.Causes.{Rose, CountedTimes}
use Rattle.btr_disk.specs.Gate.{gate_block, zeros}
use Rattle.btr_disk.specs.Publish.{Published}
use Rattle.btr_log.specs.declared.head.Head.{Head}
use Rattle.btr_log.specs.declared.log.Log.{Log}
use Rattle.btr_log.specs.declared.append.AppendFault.{AppendFault}
use Rattle.btr_log.specs.declared.append.AppendFault.TheVariants.{Full, Fault, Stopped}
use Rattle.btr_log.specs.Extents.{IsBody, need, IsLog, first_gate}
use Rattle.btr_log.specs.Log.{log_device, log_tail, log_room, extents_of, is_log_stopped}

-- The body in a run: all but its last block.
abbrev pub body_in_run : List ℕ → List ℕ
body_in_run run = take (length run - 4096) run

-- A body, and then a block of zeros, which will be the next gate.
pub record IsAppendRun (run : List ℕ) : Type 0 where
  pub body : (head : Head) × IsBody (body_in_run run) head
  pub closed_after : run ≡ body_in_run run ++ zeros 4096

-- The image is the log of these bodies, or of these and one more.
abbrev pub IsLogOrMore : List (List ℕ) → List ℕ → Image → Type 0
IsLogOrMore bodies body image =
    IsLog image first_gate bodies ⊎ IsLog image first_gate (bodies ++ body ∷ [])

-- An image at a moment of an append: all below the gate at the tail is as before, and the image is the log of these bodies,
-- or of these and one more.
pub record IsMoment (old : Image) (tail : ℕ) (bodies : List (List ℕ)) (body : List ℕ) (image : Image) : Type 0 where
  pub below : (k : ℕ) → k < 4096 * tail → image k ≡ old k
  pub log : IsLogOrMore bodies body image

module _ {D : Type 0} {disk : Ghosts D} where
  -- There are fewer blocks after the tail than the run needs.
  abbrev pub IsTooLong : Log D disk → List ℕ → Type 0
  IsTooLong log run = log_room log < need (body_in_run run)

  -- An image at a moment of an append of the run to a log that was at rest with these bodies.
  abbrev pub IsAppendMoment : Log D disk → List (List ℕ) → List ℕ → Image → Type 0
  IsAppendMoment log bodies run = IsMoment (disk.contents (log_device log)) (log_tail log) bodies (body_in_run run)

  -- What an append returns if the log is stopped, and what if it is not and the run is too long.
  pub record RefusesAppend {T : Type 0} (log : Log D disk) (run : List ℕ) (result : Result T AppendFault) : Type 0 where
    pub stopped : IsTrue (is_log_stopped log) → result ≡ Err (Stopped (extents_of log))
    pub full : IsFalse (is_log_stopped log) → IsTooLong log run → result ≡ Err (Full (need (body_in_run run)) (log_room log))

  -- The device has failed, within one to four calls. The log is stopped, and has the extents that it had.
  pub record LogStopsByFault (old new : Log D disk) : Type 0 where
    pub rose : Rose (disk.faults (log_device old)) (disk.faults (log_device new))
    pub called : Rose (disk.calls (log_device old)) (disk.calls (log_device new))
    pub at_most : disk.calls (log_device new) ≤ disk.calls (log_device old) + 4
    pub stopped : is_log_stopped new ≡ true
    pub tail : log_tail new ≡ log_tail old
    pub extents : extents_of new ≡ extents_of old

  -- Why an append fails, and what the log is then.
  abbrev pub AppendCause : Log D disk → Log D disk → List ℕ → AppendFault → Type 0
  AppendCause old new run (Full needed room) =
      IsFalse (is_log_stopped old) × IsTooLong old run × (needed ≡ need (body_in_run run)) × (room ≡ log_room old) × (new ≡ old)
  AppendCause old new run Fault = IsFalse (is_log_stopped old) × LogStopsByFault old new
  AppendCause old new run (Stopped extents) =
      IsTrue (is_log_stopped old) × (extents ≡ extents_of old) × (new ≡ old)

  -- The log has one more extent, by four calls of the device, which has the run and the open gate before it.
  pub record IsAppended (old new : Log D disk) (run : List ℕ) : Type 0 where
    pub tail : log_tail new ≡ log_tail old + need (body_in_run run)
    pub extents : extents_of new ≡ extents_of old + 1
    pub calls : CountedTimes 4 (disk.calls (log_device old)) (disk.calls (log_device new))
    pub ran : is_log_stopped old ≡ false
    pub runs : is_log_stopped new ≡ false
    pub written : disk.is_observable
        → Published (disk.contents (log_device old)) (4096 * (log_tail old + 1)) run (4096 * log_tail old) gate_block
        (disk.contents (log_device new))
