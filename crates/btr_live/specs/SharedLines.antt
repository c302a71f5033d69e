-- What the lines of feeds ask for if the points wait in buffers that lanes share, and what they reply.
use Rattle.std.specs.Prelude.{◌≡◌, ℕ, Bool, List, if◌then◌else◌, Option, Some, None, Result, Ok, Err}
use Rattle.std.specs.declared.alloc.AllocError.{AllocError}
use Rattle.btr_base.specs.declared.point.Point.{Point}
use Rattle.btr_hist.specs.declared.entry.Entry.{Entry}
use Rattle.btr_hist.specs.History.{stream_of, is_output}
use Rattle.btr_text.specs.declared.script.Line.{Line}
use Rattle.btr_text.specs.declared.script.Line.TheVariants as lines
use Rattle.btr_text.specs.declared.reply.LineReply.{LineReply}
use Rattle.btr_text.specs.declared.reply.LineReply.TheVariants.{Done, Ticket, No}
use Rattle.btr_text.specs.declared.reply.Reason.{Reason}
use Rattle.btr_text.specs.declared.reply.Reason.TheVariants as reasons
use Rattle.btr_hall.specs.declared.group_answers.Outcome.{Outcome}
use Rattle.btr_hall.specs.declared.group_answers.Outcome.TheVariants.{Stored, Refused}
use Rattle.btr_hall.specs.declared.group_answers.Offered.{Offered}
use Rattle.btr_hall.specs.declared.group_answers.OfferFault.{OfferFault}
use Rattle.btr_hall.specs.declared.group_answers.OfferFault.TheVariants as faults
use Rattle.btr_hall.specs.declared.group_answers.Flushed.{Flushed}
use Rattle.btr_hall.specs.declared.group_answers.Flushed.TheVariants.{Busy, Nothing, Led}
use Rattle.btr_hall.specs.GroupCalls.{GroupView, OffersTo, FlushesTo}
use Rattle.btr_live.specs.Reasons.{reason_of_step}

-- ---- what is asked for

-- What a line asks of shared buffers.
pub data Sharing : Type 0 where
  -- To put points into the buffer of a stream.
  Gives : ℕ → List Point → Sharing
  -- To commit what waits in the buffer of a stream.
  Leads : ℕ → Sharing
  -- Nothing that can be done, for this reason.
  Declines : Reason → Sharing

-- What is asked of a stream that users write, by whether it has a buffer.
abbrev pub if_shared : Bool → Sharing → Sharing
if_shared has asked = if has then asked else Declines reasons.Group

-- What is asked of the buffer of a stream that was looked up. An output has none.
abbrev pub on_buffer : (ℕ → Bool) → List Entry → Option ℕ → (ℕ → Sharing) → Sharing
on_buffer has h None asked = Declines reasons.Stream
on_buffer has h (Some stream) asked =
    if is_output h stream then Declines reasons.Output else if_shared (has stream) (asked stream)

-- What a line asks of shared buffers, if it is a line of feeds. `has` is which streams have a buffer. No lane can drop what others gave.
abbrev pub sharing : (ℕ → Bool) → List Entry → Option Line → Option Sharing
sharing has h (Some (lines.Feed id added)) = Some (on_buffer has h (stream_of h id) (λ stream. Gives stream added))
sharing has h (Some (lines.Flush id)) = Some (on_buffer has h (stream_of h id) (λ stream. Leads stream))
sharing has h (Some (lines.Discard id)) = Some (Declines reasons.Line)
sharing has h line = None

-- ---- replies

-- The reply to a line that led a batch with this outcome.
abbrev pub reply_of_outcome : Outcome → LineReply
reply_of_outcome (Stored receipt) = Done receipt.version
reply_of_outcome (Refused fault) = No (reason_of_step 0 fault)

-- The reason of a line whose points the buffer does not accept.
abbrev pub reason_of_offer : OfferFault → Reason
reason_of_offer (faults.OutOfDomain time) = reasons.Domain time
reason_of_offer faults.Empty = reasons.Empty
reason_of_offer (faults.TooMany count) = reasons.Many count
reason_of_offer faults.Spent = reasons.Spent
reason_of_offer faults.Want = reasons.Memory

-- The reply to points that wait with this ticket, or were committed with a batch of this outcome.
abbrev pub reply_of_ticket : ℕ → Option Outcome → LineReply
reply_of_ticket ticket None = Ticket ticket
reply_of_ticket ticket (Some outcome) = reply_of_outcome outcome

-- The reply to a line that gives points.
abbrev pub reply_of_offer : Result Offered OfferFault → LineReply
reply_of_offer (Ok offered) = reply_of_ticket offered.ticket offered.led
reply_of_offer (Err fault) = No (reason_of_offer fault)

-- The reply to a line that commits what waits.
abbrev pub reply_of_flush : Result Flushed AllocError → LineReply
reply_of_flush (Ok Busy) = No reasons.Busy
reply_of_flush (Ok Nothing) = No reasons.Empty
reply_of_flush (Ok (Led outcome)) = reply_of_outcome outcome
reply_of_flush (Err error) = No reasons.Memory

-- ---- what is done

-- What a lane has seen of each buffer, by the number of its stream.
abbrev pub Views : Type 0
Views = ℕ → GroupView

-- Of the buffers of all other streams the lane has seen what it had seen.
abbrev pub KeepsOthers : ℕ → Views → Views → Type 0
KeepsOthers stream old new = (other : ℕ) → (other ≡ stream → ⊥) → new other ≡ old other

-- What was asked of shared buffers was done, and had this reply. A batch is led by as many points as `threshold`.
abbrev pub Shares : ℕ → Views → Sharing → LineReply → Views → Type 0
Shares threshold old (Gives stream points) reply new =
    (result : Result Offered OfferFault) × OffersTo stream threshold (old stream) (new stream) points result
    × (reply ≡ reply_of_offer result) × KeepsOthers stream old new
Shares threshold old (Leads stream) reply new =
    (result : Result Flushed AllocError) × FlushesTo (old stream) (new stream) result
    × (reply ≡ reply_of_flush result) × KeepsOthers stream old new
Shares threshold old (Declines reason) reply new = (reply ≡ No reason) × (new ≡ old)
