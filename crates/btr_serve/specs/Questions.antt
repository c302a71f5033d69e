-- What a desk that only answers questions did: each from one snapshot of the store.
use Rattle.std.specs.Prelude.{◌≡◌, ℕ, List, [], ◌∷◌, ◌++◌, map, Option}
use Rattle.std.specs.Option.{is_some}
use Rattle.btr_hist.specs.declared.entry.Entry.{Entry}
use Rattle.btr_text.specs.declared.script.Line.{Line}
use Rattle.btr_text.specs.declared.reply.LineReply.{LineReply}
use Rattle.btr_streams.specs.Snapshot.{IsSnapshotOf}
use Rattle.btr_live.specs.Meaning.{question}
use Rattle.btr_live.specs.Serving.{IsAnswerOrNoMemory}
use Rattle.btr_store.specs.Replies.{status_of_replies}
use Rattle.btr_talk.specs.declared.desk.Desk.{Ghosts as DeskGhosts}
use Rattle.btr_serve.specs.declared.question_desk.QuestionDesk.{QuestionDesk}
use Rattle.btr_serve.specs.Answers.{has_reply, lines_in, answer_text, replies_in}

-- One reply to each line, in order, all from the same history.
abbrev pub AnswersLines : List Entry → List (Option Line) → List LineReply → Type 0
AnswersLines h [] [] = Unit {0}
AnswersLines h [] (reply ∷ replies) = ⊥
AnswersLines h (line ∷ lines) [] = ⊥
AnswersLines h (line ∷ lines) (reply ∷ replies) = IsAnswerOrNoMemory h (question h line) reply × AnswersLines h lines replies

-- These lines had these replies, from each history of which the desk has a snapshot.
pub record Answered (begun now : QuestionDesk) (lines : List (Option Line)) (replies : List LineReply) : Type 0 where
  pub same_snapshot : now.snapshot ≡ begun.snapshot
  pub answers : (h : List Entry) → IsSnapshotOf h begun.snapshot → AnswersLines h lines replies
  pub status : now.status ≡ status_of_replies replies

-- From the first desk to the second these pieces of an input were answered, in order, with these texts: a reply to each piece that has
-- one, and else nothing.
pub record DidAnswer (begun now : QuestionDesk) (pieces texts : List (List ℕ)) : Type 0 where
  pub answers : List (Option LineReply)
  pub each : map is_some answers ≡ map has_reply pieces
  pub said : texts ≡ map answer_text answers
  pub answered : Answered begun now (lines_in pieces) (replies_in answers)

-- The desk of questions, as a talk sees it. Nothing is done to a store, so each desk is as good as a later one.
abbrev pub question_desk : DeskGhosts QuestionDesk
question_desk = record {
  is_ready = λ d. Unit {0};
  did = DidAnswer;
  goes_on = λ old new. new.snapshot ≡ old.snapshot;
}

-- ---- private promises

-- One line more was answered, with this reply.
abbrev pub AnswersReply : Option Line → LineReply → QuestionDesk → QuestionDesk → Type 0
AnswersReply line reply old new =
    (begun : QuestionDesk) (lines : List (Option Line)) (replies : List LineReply)
    → Answered begun old lines replies → Answered begun new (lines ++ line ∷ []) (replies ++ reply ∷ [])
