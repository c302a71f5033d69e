-- What the model replies to a line, and the points that wait after it.
use Rattle.std.specs.Prelude.{◌≡◌, ◌⊎◌, ℕ, true, false, List, [], Option, Some, None}
use Rattle.btr_base.specs.declared.point.Point.{Point}
use Rattle.btr_base.specs.Bag.{sort}
use Rattle.btr_feed.specs.Feed.{insert_fault}
use Rattle.btr_hist.specs.declared.entry.Entry.{Entry}
use Rattle.btr_hist.specs.declared.answer.Answer.{Answer}
use Rattle.btr_hist.specs.declared.answer.Answer.TheVariants.{Found, Refused}
use Rattle.btr_hist.specs.declared.rejection.Rejection.{Rejection}
use Rattle.btr_hist.specs.History.{stream_of, is_output}
use Rattle.btr_hist.specs.Legal.{rejection}
use Rattle.btr_hist.specs.Answer.{answer}
use Rattle.btr_hist.specs.Machine.{receipt}
use Rattle.btr_text.specs.declared.script.Line.{Line}
use Rattle.btr_text.specs.declared.script.Line.TheVariants as lines
use Rattle.btr_text.specs.declared.reply.LineReply.{LineReply}
use Rattle.btr_text.specs.declared.reply.LineReply.TheVariants.{Done, No}
use Rattle.btr_text.specs.declared.reply.LineReply.TheVariants as replies
use Rattle.btr_text.specs.declared.reply.Reason.TheVariants as reasons
use Rattle.btr_text.specs.Reasons.{reason_of_rejection, reason_of_refusal}
use Rattle.btr_live.specs.Feeds.{Waiting, with_points, feed_of}
use Rattle.btr_live.specs.Meaning.{Meaning, Commits, Asks, Holds, Current, Refuses, meaning}
use Rattle.btr_live.specs.Reasons.{holder}

-- ---- what the model replies

abbrev pub reply_of_answer : Answer → LineReply
reply_of_answer (Found version rows) = replies.Found version rows
reply_of_answer (Refused refusal) = No (reason_of_refusal refusal)

abbrev pub reply_of_commit : List Entry → Entry → Option Rejection → LineReply
reply_of_commit h e None = Done (receipt h e).version
reply_of_commit h e (Some why) = No (reason_of_rejection (holder h why) why)

-- The model's reply to what is asked for.
abbrev pub model_reply : List Entry → Meaning → LineReply
model_reply h (Commits e) = reply_of_commit h e (rejection h e)
model_reply h (Asks query) = reply_of_answer (answer h query)
model_reply h (Holds count) = replies.Held count
model_reply h (Current version) = Done version
model_reply h (Refuses reason) = No reason

-- ---- the points that wait

-- The points that wait after the commit of all had this reply: none, or all in order if it was refused.
abbrev pub left_over : List Point → LineReply → List Point
left_over all (Done version) = []
left_over all reply = sort all

-- The points of a feed after a reply, which had the points `before`, and has `all` with what the line adds or drops.
abbrev pub points_after : Meaning → LineReply → List Point → List Point → List Point
points_after (Commits e) reply before all = left_over all reply
points_after (Asks query) reply before all = before
points_after (Holds count) reply before all = all
points_after (Current version) reply before all = before
points_after (Refuses reason) reply before all = before

-- The points that wait after a reply to a line that changes this feed, if it changes one.
abbrev pub waiting_after : Waiting → Option (ℕ × List Point) → Meaning → LineReply → Waiting
waiting_after w None m reply = w
waiting_after w (Some f) m reply = with_points f.0 (points_after m reply (w f.0) f.1) w

-- ---- what is done of a line

-- Memory may run out before what the line asks for is begun: it adds points to a feed, which accepts them, or it plans for an output.
abbrev pub TakesMemory : ℕ → List Entry → Waiting → Option Line → Type 0
TakesMemory batch h w (Some (lines.Feed id added)) =
    (stream : ℕ) × (stream_of h id ≡ Some stream) × (is_output h stream ≡ false)
    × (insert_fault (feed_of batch stream (w stream)) added ≡ None)
TakesMemory batch h w (Some (lines.Refresh id)) =
    (stream : ℕ) × (stream_of h id ≡ Some stream) × (is_output h stream ≡ true)
TakesMemory batch h w line = ⊥

-- What is done of a line: what it asks for; or nothing, if there is no memory to begin with it.
abbrev pub Means : ℕ → List Entry → Waiting → Option Line → Meaning → Type 0
Means batch h w line m = (m ≡ meaning batch h w line) ⊎ (TakesMemory batch h w line × (m ≡ Refuses reasons.Memory))
