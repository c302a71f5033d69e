-- Lines that were answered as questions, one line more, and the device that holds the history.
use Rattle.std.specs.Prelude.{◌≡◌, ◌⊎◌, List, [], ◌∷◌, ◌++◌}
use Rattle.std.proofs.Common.{refl, sym, subst, arith, ⊎_elim}
use Rattle.std.proofs.lemmas.List.{length-append}
use Rattle.btr_disk.specs.declared.disk.Disk.{Ghosts}
use Rattle.btr_hist.specs.declared.entry.Entry.{Entry}
use Rattle.btr_text.specs.declared.script.ScriptLine.{ScriptLine}
use Rattle.btr_text.specs.declared.reply.LineReply.{LineReply}
use Rattle.btr_engine.specs.declared.engine.Engine.{Engine}
use Rattle.btr_engine.specs.Engine.{device, IsEngineOf}
use Rattle.btr_engine.specs.Holds.{HoldsHistory}
use Rattle.btr_open.specs.Opening.{IsOpenedOn, IsOpenedEngine}
use Rattle.btr_store.specs.declared.status.Status.TheVariants.{DeviceFault}
use Rattle.btr_store.specs.declared.transcript.Transcript.{Transcript}
use Rattle.btr_top.specs.declared.ending.Ending.{Ending}
use Rattle.btr_top.specs.declared.ending.Ending.TheVariants.{OutOfMemory, Replied}
use Rattle.btr_live.specs.Meaning.{question}
use Rattle.btr_live.specs.Serving.{IsAnswerOrNoMemory}
use Rattle.btr_store.specs.Replies.{IsTranscript, AddsReply}
use Rattle.btr_top.specs.Ask.{AnswersEach, AnswersAll, RepliesEach, WereAnswered, QuestionsCause, HasAnswered}

AnswersEach-push : (h : List Entry) (lines : List ScriptLine) (replies : List LineReply) (line : ScriptLine) (reply : LineReply) → AnswersEach h lines replies → IsAnswerOrNoMemory h (question h line.line) reply → AnswersEach h (lines ++ line ∷ []) (replies ++ reply ∷ [])
AnswersEach-push h [] [] line reply answers one = (one, tt)
AnswersEach-push h [] (r ∷ replies) line reply answers one = absurd answers
AnswersEach-push h (l ∷ lines) [] line reply answers one = absurd answers
AnswersEach-push h (l ∷ lines) (r ∷ replies) line reply answers one = (answers.0, AnswersEach-push h lines replies line reply answers.1 one)

-- no line
pub none_answered : (h : List Entry) (t : Transcript) → IsTranscript [] t → HasAnswered h [] t
none_answered h t is = record { replies = []; answers = tt; is_transcript = is }

pub none_replied : (t : Transcript) → IsTranscript [] t → RepliesEach [] t
none_replied t is = record { replies = []; one_each = refl; is_transcript = is }

-- one line more
pub RepliesEach-push : (lines : List ScriptLine) (line : ScriptLine) (t u : Transcript) → RepliesEach lines t → (reply : LineReply) × AddsReply reply t u → RepliesEach (lines ++ line ∷ []) u
RepliesEach-push lines line t u has one = record {
  replies = has.replies ++ one.0 ∷ [];
  one_each =
      let replied = length-append has.replies (one.0 ∷ []) in
      let read = length-append lines (line ∷ []) in
      omega (arith, replied, read, has.one_each);
  is_transcript = one.1 has.replies has.is_transcript;
}

pub HasAnswered-push : (h : List Entry) (lines : List ScriptLine) (line : ScriptLine) (t u : Transcript) → HasAnswered h lines t → (reply : LineReply) × IsAnswerOrNoMemory h (question h line.line) reply × AddsReply reply t u → HasAnswered h (lines ++ line ∷ []) u
HasAnswered-push h lines line t u has one = record {
  replies = has.replies ++ one.0 ∷ [];
  answers = AnswersEach-push h lines has.replies line one.0 has.answers one.1;
  is_transcript = one.2 has.replies has.is_transcript;
}

module _ {D : Type 0} (disk : Ghosts D) (old : D) (engine : Engine D disk) (opened : IsOpenedEngine disk old engine) where
  -- The lines were answered from a history that the device holds.
  answers_all : (lines : List ScriptLine) (transcript : Transcript) (h : List Entry) → HoldsHistory (disk.size old) (disk.contents old) h → IsOpenedOn disk h engine → HasAnswered h lines transcript → AnswersAll disk lines old (device engine) transcript
  answers_all lines transcript h held on has = record {
    history = h;
    replies = has.replies;
    follows = on.at_rest.of.follows;
    holds = λ reported. held;
    answers = has.answers;
    is_transcript = has.is_transcript;
    kept = opened.kept.unwritten;
    durable = λ reported. on.held.now;
  }

  were_answered : (lines : List ScriptLine) (transcript : Transcript) → (transcript.status ≡ DeviceFault → ⊥) → ((h : List Entry) → IsEngineOf h engine → HasAnswered h lines transcript) → RepliesEach lines transcript → WereAnswered disk lines old (device engine) transcript
  were_answered lines transcript unfailed has says = record {
    says = says;
    plain = record {
      sound = opened.sound;
      same_size = opened.kept.counts.same_size;
      faulted = λ failed. absurd (unfailed failed);
      stopped = λ failed. absurd (cc);
    };
    kept = opened.kept.unwritten;
    answers = λ reported h held. let on = opened.stood reported h held in answers_all lines transcript h held on (has h on.at_rest.of);
  }

  pub ended_unanswered : (lines : List ScriptLine) (new : D) (e : Ending) → e ≡ OutOfMemory → new ≡ device engine → QuestionsCause disk lines old new e
  ended_unanswered lines new e is same =
      subst (QuestionsCause disk lines old new) (sym is)
      (subst (λ (d : D). QuestionsCause disk lines old d OutOfMemory) (sym same) (tt, opened.kept.unwritten))

  pub ended_answered : (lines : List ScriptLine) (transcript : Transcript) (new : D) (e : Ending) → ((e ≡ Replied transcript) × (transcript.status ≡ DeviceFault → ⊥)) ⊎ (e ≡ OutOfMemory) → new ≡ device engine → ((h : List Entry) → IsEngineOf h engine → HasAnswered h lines transcript) → RepliesEach lines transcript → QuestionsCause disk lines old new e
  ended_answered lines transcript new e ends same has says =
      ⊎_elim
      (λ (replied : (e ≡ Replied transcript) × (transcript.status ≡ DeviceFault → ⊥)).
      subst (QuestionsCause disk lines old new) (sym replied.0)
      (subst (λ (d : D). WereAnswered disk lines old d transcript) (sym same) (were_answered lines transcript replied.1 has says)))
      (λ lacks. ended_unanswered lines new e lacks same)
      ends
