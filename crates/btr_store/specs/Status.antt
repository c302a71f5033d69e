-- The status that lines ask for: the greatest of theirs, by an order of the statuses.
use Rattle.std.specs.Prelude.{ℕ, nat_lt, List, [], ◌∷◌, if◌then◌else◌}
use Rattle.btr_text.specs.declared.reply.Reason.{Reason}
use Rattle.btr_text.specs.declared.reply.Reason.TheVariants as reasons
use Rattle.btr_store.specs.declared.report_line.ReportLine.{ReportLine}
use Rattle.btr_store.specs.declared.report_line.ReportLine.TheVariants as lines
use Rattle.btr_store.specs.declared.status.Status.{Status}
use Rattle.btr_store.specs.declared.status.Status.TheVariants.{Done, Refused, Full, Damaged, OutOfMemory, DeviceFault}

-- The order of the statuses.
abbrev pub status_rank : Status → ℕ
status_rank Done = 0
status_rank Refused = 1
status_rank Full = 2
status_rank Damaged = 3
status_rank OutOfMemory = 4
status_rank DeviceFault = 5

-- The number with which the program ends.
abbrev pub code_of : Status → ℕ
code_of Done = 0
code_of Refused = 1
code_of Full = 8
code_of Damaged = 7
code_of OutOfMemory = 9
code_of DeviceFault = 5

-- The greater of two statuses.
abbrev pub greater : Status → Status → Status
greater a b = if nat_lt (status_rank a) (status_rank b) then b else a

-- The status that a refusal for this reason asks for.
abbrev pub status_of_reason : Reason → Status
status_of_reason reasons.Device = DeviceFault
status_of_reason reasons.Memory = OutOfMemory
status_of_reason (reasons.Damaged block) = Damaged
status_of_reason (reasons.Full need left) = Full
status_of_reason reason = Refused

-- The status that a line asks for.
abbrev pub status_of_line : ReportLine → Status
status_of_line (lines.RowRefused number reason) = Refused
status_of_line (lines.BatchRefused id first last reason) = status_of_reason reason
status_of_line (lines.StreamLoaded id version points) = Done
status_of_line (lines.Loaded good refused) = Done
status_of_line (lines.OutputCurrent id version reads) = Done
status_of_line (lines.OutputRefused id reason) = status_of_reason reason
status_of_line (lines.RoundRefused id reason) = status_of_reason reason
status_of_line (lines.Used entries) = Refused
status_of_line (lines.StreamSummary id version agg) = Done

-- The greatest of a status and those that lines ask for.
abbrev pub greatest_of_lines : Status → List ReportLine → Status
greatest_of_lines s [] = s
greatest_of_lines s (line ∷ more) = greatest_of_lines (greater s (status_of_line line)) more

-- The status that all lines ask for: the greatest of theirs.
abbrev pub status_of_lines : List ReportLine → Status
status_of_lines all = greatest_of_lines Done all
