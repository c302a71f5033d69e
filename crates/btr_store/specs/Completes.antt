-- When no line asks for the status of a full device or of a failed one: there is room, and the device does not fail.
use Rattle.std.specs.Prelude.{◌≡◌, ◌⊎◌, ℕ, ◌+◌, ◌≤◌, List, [], ◌∷◌, ◌++◌, length, Result, IfOk}
use Rattle.std.specs.List.{AllByRecursion}
use Rattle.std.specs.declared.alloc.AllocError.{AllocError}
use Rattle.btr_hist.specs.declared.entry.Entry.{Entry}
use Rattle.btr_hist.specs.History.{latest}
use Rattle.btr_hist.specs.Legal.{Follows}
use Rattle.btr_distil.specs.Plan.{PlanValue, entry_of}
use Rattle.btr_plan.specs.Next.{IsNextPlan}
use Rattle.btr_plan.specs.Plan.{IsCurrent}
use Rattle.btr_rows.specs.Streams.{RowListValue}
use Rattle.btr_gate.specs.Prefixes.{StartsWith}
use Rattle.btr_engine.specs.Body.{needs_of}
use Rattle.btr_jobs.specs.States.{StoreState}
use Rattle.btr_store.specs.declared.report_line.ReportLine.{ReportLine}
use Rattle.btr_load.specs.Fits.{rows_need}
use Rattle.btr_store.specs.declared.status.Status.{Status}
use Rattle.btr_store.specs.declared.status.Status.TheVariants.{Done, Refused, OutOfMemory}
use Rattle.btr_store.specs.declared.transcript.Transcript.{Transcript}
use Rattle.btr_store.specs.Status.{status_of_line}
use Rattle.btr_store.specs.Transcript.{SaysLines}

-- ---- the statuses that are left

-- All was done, or something was refused for a reason of the store, or there was no memory for it.
abbrev pub IsBenign : Status → Type 0
IsBenign status = (status ≡ Done) ⊎ (status ≡ Refused) ⊎ (status ≡ OutOfMemory)

-- The transcript has these lines, and each of them asks for such a status. So does the transcript.
pub record HasBenignLines (transcript : Transcript) : Type 0 where
  pub lines : List ReportLine
  pub says : SaysLines lines transcript
  pub each : AllByRecursion (λ line. IsBenign (status_of_line line)) lines
  pub status : IsBenign transcript.status

-- Each line asks for such a status. Memory may run out for the lines.
abbrev pub SaysBenign : Result Transcript AllocError → Type 0
SaysBenign said = IfOk said HasBenignLines

-- ---- room for rows

-- All blocks that the rows need are left: those of their creates and batches.
abbrev pub HasRoomForRows : StoreState → RowListValue → ℕ → Type 0
HasRoomForRows start rows batch = rows_need start.history batch rows.streams ≤ start.left

-- ---- room for outputs

-- The entry is what the model plans for an output. It planned after a history that `p` begins with, and that begins with `low`. No
-- other version of the output has followed up to `p`: so each plan is landed once.
pub record IsPlannedSince (low p : List Entry) (e : Entry) : Type 0 where
  pub at : List Entry
  pub since : StartsWith at low
  pub before : StartsWith p at
  pub plan : PlanValue
  pub planned : IsNextPlan at plan.stream plan
  pub current : IsCurrent p plan
  pub entry : e ≡ entry_of plan

-- The history goes on from `low` by landings alone, of each output at most this number of times: each entry after `low` is what the
-- model plans for an output, and it may follow the entries before it.
pub record LandsSince (most : ℕ) (low h : List Entry) : Type 0 where
  pub begins : StartsWith h low
  pub follows : Follows h
  pub planned : (p : List Entry) (e : Entry) → StartsWith h (p ++ e ∷ []) → length low ≤ length p → IsPlannedSince low p e
  pub few : (stream : ℕ) → latest h stream ≤ latest low stream + most

-- Whatever is landed after the history `low`, of each output at most this number of times, its blocks were left at the start.
abbrev pub HasRoomSince : ℕ → StoreState → List Entry → Type 0
HasRoomSince most start low = (h : List Entry) → LandsSince most low h → needs_of h ≤ start.left + needs_of start.history

-- There is room for one landing of each output. A call that brings each output up to date once lands no output more often.
abbrev pub HasRoomForOutputs : StoreState → Type 0
HasRoomForOutputs start = HasRoomSince 1 start start.history
