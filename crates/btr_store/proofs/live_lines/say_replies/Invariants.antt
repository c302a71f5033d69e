-- The loop over the replies.
use Rattle.std.proofs.Common.{take}
use Rattle.btr_store.specs.Replies.{IsTranscript}
use Rattle.btr_store.proofs.live_lines.say_replies.Given as goal

-- the replies up to here are said
abbrev pub invariant-loop-reply : goal.invariant-loop-reply
invariant-loop-reply l = IsTranscript (take l.reply-index l.replies) l.transcript
