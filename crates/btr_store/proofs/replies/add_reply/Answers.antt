-- The reply's text and status were added.
use Rattle.std.specs.Prelude.{◌≡◌, ◌++◌}
use Rattle.std.proofs.Common.{◌∙◌, ap}
use Rattle.btr_text.specs.Text.{text}
use Rattle.btr_store.specs.declared.status.Status.{Status}
use Rattle.btr_store.specs.Status.{greater}
use Rattle.btr_store.proofs.TranscriptLemmas.{on_ok}
use Rattle.btr_store.proofs.ReplyLemmas.{transcript-push}
use Rattle.btr_store.proofs.replies.add_reply.Goals as goal

pub returns : goal.returns
returns c =
    on_ok c.write_reply.result (c.write_reply.new.out.items ≡ c.args.transcript.now.text.items ++ text c.args.reply.now) _ (λ written.
    transcript-push c.args.reply.now c.args.transcript.now _ written (c.greater-transcript.ensures ∙ ap (λ (s : Status). greater c.args.transcript.now.status s) c.status_of_reply.ensures))
    c.write_reply.ensures.ok
