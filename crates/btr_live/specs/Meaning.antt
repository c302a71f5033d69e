-- What a line asks for, by the streams of a history and the points that wait for them.
use Rattle.std.specs.Prelude.{ℕ, ℤ, Bool, List, [], ◌∷◌, ◌++◌, if◌then◌else◌, Option, Some, None}
use Rattle.btr_base.specs.declared.point.Point.{Point}
use Rattle.btr_base.specs.Bag.{sort}
use Rattle.btr_feed.specs.Feed.{held, insert_fault}
use Rattle.btr_feed.specs.declared.feed.Held.{Held}
use Rattle.btr_feed.specs.declared.feed.Held.TheVariants.{Buffered, Due}
use Rattle.btr_feed.specs.declared.feed.FeedFault.{FeedFault}
use Rattle.btr_feed.specs.declared.feed.FeedFault.TheVariants.{OutOfDomain, TooMany, Want}
use Rattle.btr_hist.specs.declared.entry.Entry.{Entry}
use Rattle.btr_hist.specs.declared.entry.Entry.TheVariants as entries
use Rattle.btr_hist.specs.declared.query.Query.{Query}
use Rattle.btr_hist.specs.declared.query.Query.TheVariants as queries
use Rattle.btr_hist.specs.Query.{of_stream}
use Rattle.btr_hist.specs.declared.kernel.Kernel.{Kernel}
use Rattle.btr_hist.specs.declared.kernel.Spec.{Spec}
use Rattle.btr_hist.specs.History.{stream_of, spec_of, is_output, latest}
use Rattle.btr_hist.specs.Answer.{is_range}
use Rattle.btr_hist.specs.Machine.{Landing, planned, landing}
use Rattle.btr_text.specs.declared.script.Line.{Line}
use Rattle.btr_text.specs.declared.script.Line.TheVariants as lines
use Rattle.btr_text.specs.declared.reply.Reason.{Reason}
use Rattle.btr_text.specs.declared.reply.Reason.TheVariants as reasons
use Rattle.btr_live.specs.Feeds.{Waiting, feed_of}

-- What a line asks for.
pub data Meaning : Type 0 where
  -- To commit an entry.
  Commits : Entry → Meaning
  -- To answer a question.
  Asks : Query → Meaning
  -- To let points wait: this is how many then wait for the stream.
  Holds : ℕ → Meaning
  -- Nothing, because the output is up to date: this is its version.
  Current : ℕ → Meaning
  -- Nothing that can be done, for this reason.
  Refuses : Reason → Meaning

-- What is asked of a stream that was looked up, if there is one.
abbrev pub on_stream : Option ℕ → (ℕ → Meaning) → Meaning
on_stream None asked = Refuses reasons.Stream
on_stream (Some stream) asked = asked stream

-- To remove the points of a range, if the bounds are those of a range.
abbrev pub delete : ℕ → ℤ → ℤ → Meaning
delete stream from to =
    if is_range from to then Commits (entries.Commit stream (record { from = from; to = to } ∷ []) []) else Refuses reasons.Range

-- ---- outputs

-- What is asked of a second input, if there is one.
abbrev pub on_second : List Entry → Option ℕ → (Option ℕ → Meaning) → Meaning
on_second h None asked = asked None
on_second h (Some id) asked = on_stream (stream_of h id) (λ stream. asked (Some stream))

-- To define an output with this kernel, lead and grain, whose inputs have these ids.
abbrev pub define : List Entry → ℕ → Kernel → ℕ → ℕ → ℕ → Option ℕ → Meaning
define h id kernel lead grain first second =
    on_stream (stream_of h first) (λ f. on_second h second
    (λ s. Commits (entries.Define id (record { kernel = kernel; lead = lead; grain = grain; first = f; second = s }))))

-- To land a plan for an output of this spec, if there is one.
abbrev pub land : List Entry → ℕ → Spec → Option Landing → Meaning
land h stream spec None = Current (latest h stream)
land h stream spec (Some p) = Commits (landing h p spec)

-- To bring an output up to date, if the stream is one: the distillate reads the latest versions of its inputs.
abbrev pub refresh : List Entry → ℕ → Option Spec → Meaning
refresh h stream None = Refuses reasons.Plain
refresh h stream (Some spec) = land h stream spec (planned h stream spec)

-- What is asked of a stream that users write: an output is none.
abbrev pub if_plain : Bool → Meaning → Meaning
if_plain output asked = if output then Refuses reasons.Output else asked

-- ---- feeds

-- To commit the points that wait, as one insert.
abbrev pub insert_points : ℕ → List Point → Meaning
insert_points stream points = Commits (entries.Commit stream [] (sort points))

-- To commit the points if they are due.
abbrev pub when_due : ℕ → List Point → Held → Meaning
when_due stream points (Buffered count) = Holds count
when_due stream points (Due count) = insert_points stream points

-- The reason why a feed does not accept points.
abbrev pub reason_of_fault : FeedFault → Reason
reason_of_fault (OutOfDomain time) = reasons.Domain time
reason_of_fault (TooMany count) = reasons.Many count
reason_of_fault Want = reasons.Memory

-- What is asked for if the feed accepts the points.
abbrev pub unless_fault : Option FeedFault → Meaning → Meaning
unless_fault None asked = asked
unless_fault (Some fault) asked = Refuses (reason_of_fault fault)

-- To add points to those that wait for a stream, and to commit all if they are then due.
abbrev pub feed : ℕ → ℕ → List Point → List Point → Meaning
feed batch stream points added = unless_fault (insert_fault (feed_of batch stream points) added)
    (when_due stream (points ++ added) (held (feed_of batch stream (points ++ added))))

-- To commit the points that wait for a stream.
abbrev pub flush : ℕ → List Point → Meaning
flush stream [] = Refuses reasons.Empty
flush stream (p ∷ ps) = insert_points stream (p ∷ ps)

-- ---- lines

-- What a line asks for in `live`, in which points are due if there are as many as `batch`.
abbrev pub meaning : ℕ → List Entry → Waiting → Option Line → Meaning
meaning batch h w None = Refuses reasons.Line
meaning batch h w (Some (lines.Create id)) = Commits (entries.Create id)
meaning batch h w (Some (lines.Insert id added)) = on_stream (stream_of h id) (λ stream. Commits (entries.Commit stream [] added))
meaning batch h w (Some (lines.Delete id from to)) = on_stream (stream_of h id) (λ stream. delete stream from to)
meaning batch h w (Some (lines.Feed id added)) = on_stream (stream_of h id)
    (λ stream. if_plain (is_output h stream) (feed batch stream (w stream) added))
meaning batch h w (Some (lines.Flush id)) = on_stream (stream_of h id)
    (λ stream. if_plain (is_output h stream) (flush stream (w stream)))
meaning batch h w (Some (lines.Discard id)) = on_stream (stream_of h id) (λ stream. Holds 0)
meaning batch h w (Some (lines.Distiller id kernel lead grain first second)) = define h id kernel lead grain first second
meaning batch h w (Some (lines.Refresh id)) = on_stream (stream_of h id) (λ stream. refresh h stream (spec_of h stream))
meaning batch h w (Some (lines.Retire id first)) = on_stream (stream_of h id) (λ stream. Commits (entries.Retire stream first))
meaning batch h w (Some (lines.Ask id query)) = on_stream (stream_of h id) (λ stream. Asks (of_stream query stream))
meaning batch h w (Some lines.Streams) = Asks queries.Streams

-- What a line asks for in `ask`, where only questions are lines.
abbrev pub question : List Entry → Option Line → Meaning
question h (Some (lines.Ask id query)) = on_stream (stream_of h id) (λ stream. Asks (of_stream query stream))
question h (Some lines.Streams) = Asks queries.Streams
question h line = Refuses reasons.Line
