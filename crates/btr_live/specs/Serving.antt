-- Private promises: what the turns of one line did, in a session.
use Rattle.std.specs.Prelude.{◌≡◌, ◌⊎◌, ℕ, Bool, List, ◌++◌, Option, Some, None, Result, Ok, Err}
use Rattle.btr_disk.specs.declared.disk.Disk.{Ghosts}
use Rattle.btr_base.specs.declared.point.Point.{Point}
use Rattle.btr_hist.specs.declared.entry.Entry.{Entry}
use Rattle.btr_hist.specs.declared.rejection.Rejection.TheVariants.{Held}
use Rattle.btr_text.specs.declared.script.Line.{Line}
use Rattle.btr_text.specs.declared.reply.LineReply.{LineReply}
use Rattle.btr_text.specs.declared.reply.LineReply.TheVariants.{Done, No}
use Rattle.btr_text.specs.declared.reply.Reason.TheVariants as reasons
use Rattle.btr_feed.specs.Feed.{insert_fault}
use Rattle.btr_hist.specs.History.{spec_of}
use Rattle.btr_hist.specs.Answer.{answer}
use Rattle.btr_streams.specs.declared.board.Receipt.{Receipt}
use Rattle.btr_engine.specs.declared.step.StepFault.{StepFault}
use Rattle.btr_engine.specs.declared.step.StepFault.TheVariants.{Rejected}
use Rattle.btr_engine.specs.Engine.{IsEngineOf}
use Rattle.btr_gate.specs.Prefixes.{StartsWith}
use Rattle.btr_hall.specs.declared.session.Hall.{Hall}
use Rattle.btr_hall.specs.declared.session.Session.{Session}
use Rattle.btr_hall.specs.Trace.{history_of, stopped_in}
use Rattle.btr_hall.specs.Session.{opening_of, seen_of}
use Rattle.btr_jobs.specs.States.{StoreState, LogState}
use Rattle.btr_jobs.specs.Jobs.{Does}
use Rattle.btr_hall.specs.declared.groups.Groups as groups
use Rattle.btr_live.specs.Feeds.{Waiting, FeedsValue, none_waiting, waiting_of, with_points, feed_of, fed}
use Rattle.btr_live.specs.Meaning.{Meaning, Asks, Refuses, feed, refresh}
use Rattle.btr_live.specs.Replies.{reply_of_answer, model_reply, points_after, waiting_after, Means}
use Rattle.btr_work.specs.declared.report.Refreshed.{Refreshed}
use Rattle.btr_work.specs.declared.report.Refreshed.TheVariants.{Landed, Current, Refused}
use Rattle.btr_live.specs.Reasons.{reason_of_step, reason_of_landing}
use Rattle.btr_live.specs.Lanes.{Answers}
use Rattle.btr_live.specs.SharedLines.{sharing}
use Rattle.btr_live.specs.SharedLanes.{SharesAt}

-- What is asked for at a history.
abbrev pub Asking : Type 1
Asking = List Entry → Meaning → Type 0

-- This is asked for.
abbrev pub AsksFor : (List Entry → Meaning) → Asking
AsksFor asked = λ a m. m ≡ asked a

-- What was asked for after `low` had this reply. `saw_failure` is whether the session had seen the device fail.
pub record HasReply (start : StoreState) (log : LogState) (saw_failure : Bool) (low : List Entry) (m : Meaning) (reply : LineReply)
    (own : List ℕ) : Type 0 where
  pub next : List Entry
  pub answers : Answers start log saw_failure low m reply own next
  pub ends : StartsWith log.history next

-- What was asked for at a history that begins with `low` had this reply.
pub record Serves (start : StoreState) (log : LogState) (saw_failure : Bool) (low : List Entry) (asking : Asking) (reply : LineReply)
    (own : List ℕ) : Type 0 where
  pub admitted : List Entry
  pub after : StartsWith admitted low
  pub begins : StartsWith log.history admitted
  pub asked : Meaning
  pub asks : asking admitted asked
  pub replies : HasReply start log saw_failure admitted asked reply own

-- What a line asks for, if these points wait before it, and those after it had this reply.
abbrev pub LineAsks : ℕ → Waiting → Option Line → LineReply → Waiting → Asking
LineAsks batch w line reply after =
    λ a m. Means batch a w line m × (after ≡ waiting_after w (fed a w line) m reply)

-- To add points to a stream's feed asks for this, or there was no memory for them; then these points wait.
pub record AddsPoints (batch : ℕ) (w : Waiting) (stream : ℕ) (added : List Point) (m : Meaning) (reply : LineReply)
    (after : Waiting) : Type 0 where
  pub means : (m ≡ feed batch stream (w stream) added)
      ⊎ ((insert_fault (feed_of batch stream (w stream)) added ≡ None) × (m ≡ Refuses reasons.Memory))
  pub waiting : after ≡ with_points stream (points_after m reply (w stream) (w stream ++ added)) w

-- To bring a stream up to date asks for this, or there was no memory to plan it.
abbrev pub RefreshAsks : ℕ → Asking
RefreshAsks stream = λ a m. (m ≡ refresh a stream (spec_of a stream)) ⊎ (m ≡ Refuses reasons.Memory)

-- The reply to an entry, by the result of its turn. If it was rejected and the rejection names an output, `id` is the id of that.
abbrev pub reply_with : ℕ → Result Receipt StepFault → LineReply
reply_with id (Ok receipt) = Done receipt.version
reply_with id (Err fault) = No (reason_of_step id fault)

-- The number of the output that holds a version which the entry would retire, by the result of its turn.
abbrev pub holding_output : Result Receipt StepFault → Option ℕ
holding_output (Err (Rejected (Held output version))) = Some output
holding_output result = None

-- The reply to a line that brings an output up to date, by what became of the output.
abbrev pub reply_of_refreshed : Refreshed → LineReply
reply_of_refreshed (Landed version) = Done version
reply_of_refreshed (Current version) = Done version
reply_of_refreshed (Refused fault) = No (reason_of_landing fault)

-- The reply is that of the history. An answer may lack memory; what is refused is always refused.
abbrev pub IsAnswerOrNoMemory : List Entry → Meaning → LineReply → Type 0
IsAnswerOrNoMemory h (Asks query) reply = (reply ≡ reply_of_answer (answer h query)) ⊎ (reply ≡ No reasons.Memory)
IsAnswerOrNoMemory h asked reply = reply ≡ model_reply h asked

-- A line of feeds asked shared buffers for this, at a history that begins with `low`, and had this reply.
abbrev pub ShareDone : {G : Type 0} → groups.Ghosts G → LogState → List Entry → G → G → Option Line → LineReply → List ℕ → Type 0
ShareDone ghosts log low was now line reply own = (next : List Entry)
    × SharesAt (ghosts.has_group was) (ghosts.threshold was) log low (ghosts.view_at was) line reply own next (ghosts.view_at now)

-- Another line had this reply, without feeds and buffers, which are as before.
abbrev pub UnsharedDone : {G : Type 0} → groups.Ghosts G → StoreState → LogState → Bool → List Entry → G → G → Option Line → LineReply
    → List ℕ → Type 0
UnsharedDone ghosts start log saw_failure low was now line reply own =
    ((h : List Entry) → sharing (ghosts.has_group was) h line ≡ None) × (now ≡ was)
    × Serves start log saw_failure low (LineAsks 1 none_waiting line reply none_waiting) reply own

module _ {D : Type 0} {disk : Ghosts D} where
  -- This is true of the history that the session has seen, with whichever history the hall began.
  abbrev pub Knows : Hall D disk → Session D disk → (List Entry → Type 0) → Type 0
  Knows hall s Fact = (h : List Entry) → IsEngineOf h (opening_of hall) → Fact (history_of h (seen_of s))

  -- Whether the session has seen that the store is stopped.
  abbrev pub was_reported : Hall D disk → Session D disk → Bool
  was_reported hall s = stopped_in (opening_of hall) (seen_of s)

  -- What was asked for, at what the session had seen, had this reply.
  abbrev pub RepliesIn : Hall D disk → Session D disk → Session D disk → Meaning → LineReply → Type 0
  RepliesIn hall old new m reply =
      Does hall old new (λ start log low own. HasReply start log (was_reported hall old) low m reply own)

  -- What was asked for, at what the session had then seen, had this reply.
  abbrev pub ServesIn : Hall D disk → Session D disk → Session D disk → Asking → LineReply → Type 0
  ServesIn hall old new asking reply =
      Does hall old new (λ start log low own. Serves start log (was_reported hall old) low asking reply own)

  -- The line, at what the session had then seen and with the points that waited in the feeds, had this reply.
  abbrev pub ServesLine : Hall D disk → Session D disk → Session D disk → FeedsValue → FeedsValue → Option Line → LineReply → Type 0
  ServesLine hall old new feeds after line reply =
      ServesIn hall old new (LineAsks feeds.batch (waiting_of feeds) line reply (waiting_of after)) reply

  -- A line of feeds asked shared buffers for this, at what the session had then seen, and had this reply.
  abbrev pub SharesIn : {G : Type 0} → groups.Ghosts G → Hall D disk → Session D disk → Session D disk → G → G → Option Line → LineReply
      → Type 0
  SharesIn ghosts hall old new was now line reply =
      Does hall old new (λ start log low own. ShareDone ghosts log low was now line reply own)

  -- A line had this reply, at what the session had then seen: a line of feeds by shared buffers, and another one without them.
  abbrev pub ServesShared : {G : Type 0} → groups.Ghosts G → Hall D disk → Session D disk → Session D disk → G → G → Option Line
      → LineReply → Type 0
  ServesShared ghosts hall old new was now line reply =
      Does hall old new (λ start log low own. ShareDone ghosts log low was now line reply own
      ⊎ UnsharedDone ghosts start log (was_reported hall old) low was now line reply own)
