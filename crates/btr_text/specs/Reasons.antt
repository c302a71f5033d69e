-- The reason that a reply gives if the history rejects an entry or refuses a question.
use Rattle.std.specs.Prelude.{ℕ}
use Rattle.btr_hist.specs.declared.rejection.Rejection.{Rejection}
use Rattle.btr_hist.specs.declared.rejection.Rejection.TheVariants as rejections
use Rattle.btr_hist.specs.declared.answer.Refusal.{Refusal}
use Rattle.btr_hist.specs.declared.answer.Refusal.TheVariants as refusals
use Rattle.btr_text.specs.declared.reply.Reason.{Reason}
use Rattle.btr_text.specs.declared.reply.Reason.TheVariants as reasons

-- The reason of a rejected entry. If the rejection names an output, `id` is its id.
abbrev pub reason_of_rejection : ℕ → Rejection → Reason
reason_of_rejection id rejections.NoStream = reasons.Stream
reason_of_rejection id rejections.StreamExists = reasons.Exists
reason_of_rejection id rejections.NotWritable = reasons.Output
reason_of_rejection id (rejections.OutOfDomain time) = reasons.Domain time
reason_of_rejection id rejections.Empty = reasons.Empty
reason_of_rejection id (rejections.TooMany count) = reasons.Many count
reason_of_rejection id rejections.StreamLimit = reasons.Streams
reason_of_rejection id rejections.VersionLimit = reasons.Versions
reason_of_rejection id rejections.BadSpec = reasons.Spec
reason_of_rejection id (rejections.BadFirst first present latest) = reasons.First first present latest
reason_of_rejection id (rejections.Held output version) = reasons.Held id version
reason_of_rejection id (rejections.Crowded start) = reasons.Crowded start
reason_of_rejection id (rejections.TooManyPoints count) = reasons.Points count

-- The reason of a refused question.
abbrev pub reason_of_refusal : Refusal → Reason
reason_of_refusal refusals.NoStream = reasons.Stream
reason_of_refusal (refusals.NoVersion asked latest) = reasons.Version asked latest
reason_of_refusal (refusals.Retired asked first) = reasons.Retired asked first
reason_of_refusal refusals.BadRange = reasons.Range
