-- Replies that are added to a transcript one by one.
use Rattle.std.specs.Prelude.{◌≡◌, ℕ, List, [], ◌∷◌, ◌++◌}
use Rattle.std.proofs.Common.{refl, sym, ◌∙◌, ap}
use Rattle.std.proofs.lemmas.List.{append-nil}
use Rattle.std.proofs.lemmas.Grind.{flat_map-append}
use Rattle.btr_text.specs.declared.reply.LineReply.{LineReply}
use Rattle.btr_text.specs.Text.{text}
use Rattle.btr_store.specs.declared.transcript.Transcript.{Transcript}
use Rattle.btr_store.specs.declared.status.Status.{Status}
use Rattle.btr_store.specs.Status.{greater}
use Rattle.btr_live.specs.Script.{text_of_replies}
use Rattle.btr_store.specs.Replies.{greatest_of_replies, status_of_reply, AddsReply}

text-push : (replies : List LineReply) (reply : LineReply) → text_of_replies (replies ++ reply ∷ []) ≡ text_of_replies replies ++ text reply
text-push replies reply = flat_map-append text replies (reply ∷ []) ∙ ap (λ (x : List ℕ). text_of_replies replies ++ x) (append-nil (text reply))

pub greatest-push : (s : Status) (replies : List LineReply) (reply : LineReply) → greatest_of_replies s (replies ++ reply ∷ []) ≡ greater (greatest_of_replies s replies) (status_of_reply reply)
greatest-push s [] reply = refl
greatest-push s (r ∷ replies) reply = greatest-push (greater s (status_of_reply r)) replies reply

-- A reply that was added is the last one.
pub transcript-push : (reply : LineReply) (old new : Transcript) → new.text.items ≡ old.text.items ++ text reply → new.status ≡ greater old.status (status_of_reply reply) → AddsReply reply old new
transcript-push reply old new same_text same_status = λ replies is. record {
  same_text = same_text ∙ ap (λ (x : List ℕ). x ++ text reply) is.same_text ∙ sym (text-push replies reply);
  same_status = same_status ∙ ap (λ (x : Status). greater x (status_of_reply reply)) is.same_status ∙ sym (greatest-push _ replies reply);
}
