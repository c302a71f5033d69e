-- The reason that a reply gives, if an entry was not added or a plan not landed.
use Rattle.std.specs.Prelude.{ℕ, List, slice_get, unwrap_or}
use Rattle.btr_hist.specs.declared.entry.Entry.{Entry}
use Rattle.btr_hist.specs.declared.rejection.Rejection.{Rejection}
use Rattle.btr_hist.specs.declared.rejection.Rejection.TheVariants as rejections
use Rattle.btr_hist.specs.History.{ids}
use Rattle.btr_text.specs.declared.reply.Reason.{Reason}
use Rattle.btr_text.specs.declared.reply.Reason.TheVariants as reasons
use Rattle.btr_text.specs.Reasons.{reason_of_rejection}
use Rattle.btr_engine.specs.declared.step.StepFault.{StepFault}
use Rattle.btr_engine.specs.declared.step.StepFault.TheVariants as steps
use Rattle.btr_hall.specs.declared.land.LandFault.{LandFault}
use Rattle.btr_hall.specs.declared.land.LandFault.TheVariants as faults

-- The id of the output that a rejection after h names, if it names one: the output that holds a version.
abbrev pub holder : List Entry → Rejection → ℕ
holder h (rejections.Held output version) = unwrap_or (slice_get (ids h) output) 0
holder h why = 0

-- The id of the output that the reason of an entry names that was not added after h, if it names one.
abbrev pub holder_of_step : List Entry → StepFault → ℕ
holder_of_step h (steps.Rejected why) = holder h why
holder_of_step h fault = 0

-- The reason of an entry that was not added. If its rejection names an output, `id` is the id of that.
abbrev pub reason_of_step : ℕ → StepFault → Reason
reason_of_step id (steps.Stopped entries) = reasons.Stopped entries
reason_of_step id steps.Sealed = reasons.Sealed
reason_of_step id (steps.Rejected why) = reason_of_rejection id why
reason_of_step id steps.Want = reasons.Memory
reason_of_step id (steps.DeviceFull need left) = reasons.Full need left
reason_of_step id steps.DeviceFault = reasons.Device

-- The reason of a plan that was not landed.
abbrev pub reason_of_landing : LandFault → Reason
reason_of_landing (faults.Stopped entries) = reasons.Stopped entries
reason_of_landing faults.Sealed = reasons.Sealed
reason_of_landing (faults.Superseded version) = reasons.Superseded version
reason_of_landing faults.VersionLimit = reasons.Versions
reason_of_landing (faults.Crowded start) = reasons.Crowded start
reason_of_landing (faults.TooManyPoints count) = reasons.Points count
reason_of_landing faults.Want = reasons.Memory
reason_of_landing (faults.DeviceFull need left) = reasons.Full need left
reason_of_landing faults.DeviceFault = reasons.Device
