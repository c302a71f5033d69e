-- Lemmas on a desk of questions: one line more is answered, and one piece more.
use Rattle.std.specs.Prelude.{◌≡◌, ℕ, List, [], ◌∷◌, ◌++◌, Option, Some, None}
use Rattle.std.proofs.Common.{sym, ◌∙◌, subst, subst₂}
use Rattle.btr_disk.specs.declared.disk.Disk.{Ghosts}
use Rattle.btr_disk.specs.Bytes.{Image}
use Rattle.btr_hist.specs.declared.entry.Entry.{Entry}
use Rattle.btr_text.specs.declared.script.Line.{Line}
use Rattle.btr_text.specs.declared.script.ScriptLine.{ScriptLine}
use Rattle.btr_text.specs.declared.reply.LineReply.{LineReply}
use Rattle.btr_text.specs.Text.{text as text_of}
use Rattle.btr_streams.specs.Snapshot.{IsSnapshotOf}
use Rattle.btr_engine.specs.declared.engine.Engine.{Engine}
use Rattle.btr_engine.specs.Engine.{device, IsEngineOf}
use Rattle.btr_engine.specs.Holds.{HoldsHistory}
use Rattle.btr_open.specs.Opening.{IsOpenedOn, IsOpenedEngine}
use Rattle.btr_live.specs.Meaning.{question}
use Rattle.btr_live.specs.Serving.{IsAnswerOrNoMemory}
use Rattle.btr_store.specs.Status.{greater}
use Rattle.btr_store.specs.Replies.{status_of_reply}
use Rattle.btr_store.specs.Work.{IfHolds}
use Rattle.btr_serve.specs.declared.question_desk.QuestionDesk.{QuestionDesk}
use Rattle.btr_serve.specs.Answers.{said_by, lines_in, replies_in}
use Rattle.btr_serve.specs.Questions.{AnswersLines, Answered, DidAnswer, AnswersReply}
use Rattle.btr_serve.specs.ServesQuestions.{AsksHeld}
use Rattle.btr_serve.proofs.AnswerLemmas.{status_after, lines_none, lines_some, replies_none, replies_some, each_none, each_some, said_push}

-- ---- one line more

-- One line more has one reply more.
lines_push : (h : List Entry) (lines : List (Option Line)) (replies : List LineReply) (line : Option Line) (reply : LineReply) → AnswersLines h lines replies → IsAnswerOrNoMemory h (question h line) reply → AnswersLines h (lines ++ line ∷ []) (replies ++ reply ∷ [])
lines_push h [] [] line reply answers one = (one, tt)
lines_push h [] (r ∷ replies) line reply answers one = absurd answers
lines_push h (l ∷ lines) [] line reply answers one = absurd answers
lines_push h (l ∷ lines) (r ∷ replies) line reply answers one = (answers.0, lines_push h lines replies line reply answers.1 one)

-- A line was answered from the snapshot of a desk.
pub answers_reply : (line : Option Line) (reply : LineReply) (old new : QuestionDesk) → new.snapshot ≡ old.snapshot → new.status ≡ greater old.status (status_of_reply reply) → ((h : List Entry) → IsSnapshotOf h old.snapshot → IsAnswerOrNoMemory h (question h line) reply) → AnswersReply line reply old new
answers_reply line reply old new same status answers begun lines replies was = record {
  same_snapshot = same ∙ was.same_snapshot;
  answers = λ h of.
      lines_push h lines replies line reply (was.answers h of)
      (answers h (subst (IsSnapshotOf h) (sym was.same_snapshot) of));
  status = status_after replies reply old.status new.status was.status status;
}

-- ---- one piece more

-- A piece without a reply has an empty answer.
pub did_none : (begun now : QuestionDesk) (pieces texts : List (List ℕ)) (piece text : List ℕ) → said_by piece ≡ None → text ≡ [] → DidAnswer begun now pieces texts → DidAnswer begun now (pieces ++ piece ∷ []) (texts ++ text ∷ [])
did_none begun now pieces texts piece text none empty did = record {
  answers = did.answers ++ None ∷ [];
  each = each_none pieces did.answers piece none did.each;
  said = said_push did.answers texts None text did.said empty;
  answered = subst₂ (Answered begun now) (sym (lines_none pieces piece none)) (sym (replies_none did.answers)) did.answered;
}

-- A piece with a reply has its text.
pub did_some : (begun old new : QuestionDesk) (pieces texts : List (List ℕ)) (piece text : List ℕ) (line : ScriptLine) (reply : LineReply) → said_by piece ≡ Some line → text ≡ text_of reply → AnswersReply line.line reply old new → DidAnswer begun old pieces texts → DidAnswer begun new (pieces ++ piece ∷ []) (texts ++ text ∷ [])
did_some begun old new pieces texts piece text line reply some says more did = record {
  answers = did.answers ++ Some reply ∷ [];
  each = each_some pieces did.answers piece line reply some did.each;
  said = said_push did.answers texts (Some reply) text did.said says;
  answered = subst₂ (Answered begun new) (sym (lines_some pieces piece line some)) (sym (replies_some did.answers reply))
      (more begun (lines_in pieces) (replies_in did.answers) did.answered);
}

-- ---- the history of the snapshot

module _ {D : Type 0} (disk : Ghosts D) where
  -- The snapshot of an opened engine is of the history that the device holds.
  pub asks_held : (begun : QuestionDesk) (old new : D) (engine : Engine D disk) → IsOpenedEngine disk old engine → new ≡ device engine → ((h : List Entry) → IsEngineOf h engine → IsSnapshotOf h begun.snapshot) → IfHolds disk old (AsksHeld disk begun old new)
  asks_held begun old new engine opened same snapshot = λ reported h held.
      let on : IsOpenedOn disk h engine = opened.stood reported h held in record {
        history = h;
        follows = on.at_rest.of.follows;
        holds = λ reported. held;
        snapshot = snapshot h on.at_rest.of;
        durable = λ reported.
            subst (λ (d : D). (c : Image) → disk.images_now d c → HoldsHistory (disk.size d) c h) (sym same) on.held.now;
      }
