-- Replies as they are written: their text, and the status that they ask for, which is the greatest of theirs.
use Rattle.std.specs.Prelude.{List, [], ◌∷◌, ◌≡◌, ◌++◌}
use Rattle.btr_text.specs.declared.reply.LineReply.{LineReply}
use Rattle.btr_text.specs.declared.reply.LineReply.TheVariants as replies
use Rattle.btr_store.specs.declared.status.Status.{Status}
use Rattle.btr_store.specs.declared.status.Status.TheVariants.{Done}
use Rattle.btr_store.specs.Status.{greater, status_of_reason}
use Rattle.btr_store.specs.declared.transcript.Transcript.{Transcript}
use Rattle.btr_live.specs.Script.{text_of_replies}

-- The status that one reply asks for.
abbrev pub status_of_reply : LineReply → Status
status_of_reply (replies.Done version) = Done
status_of_reply (replies.Held count) = Done
status_of_reply (replies.Ticket ticket) = Done
status_of_reply (replies.Found version rows) = Done
status_of_reply (replies.No reason) = status_of_reason reason

-- The greatest of a status and those that replies ask for.
abbrev pub greatest_of_replies : Status → List LineReply → Status
greatest_of_replies s [] = s
greatest_of_replies s (reply ∷ replies) = greatest_of_replies (greater s (status_of_reply reply)) replies

-- The status that all replies ask for: the greatest of theirs.
abbrev pub status_of_replies : List LineReply → Status
status_of_replies replies = greatest_of_replies Done replies

-- The transcript has the text and the status of these replies.
pub record IsTranscript (replies : List LineReply) (t : Transcript) : Type 0 where
  pub same_text : t.text.items ≡ text_of_replies replies
  pub same_status : t.status ≡ status_of_replies replies

-- The reply was added to the transcript, whichever replies are in it.
abbrev pub AddsReply : LineReply → Transcript → Transcript → Type 0
AddsReply reply old new = (replies : List LineReply) → IsTranscript replies old → IsTranscript (replies ++ reply ∷ []) new
