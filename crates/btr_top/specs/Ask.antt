-- The command `ask`: what each line is answered, and why the command ends as it does.
use Rattle.std.specs.Prelude.{◌≡◌, List, map, length, false, Option, Ok}
use Rattle.btr_io.specs.declared.source.Source.{Ghosts as SourceGhosts}
use Rattle.btr_disk.specs.declared.disk.Disk.{Ghosts}
use Rattle.btr_disk.specs.Bytes.{Image}
use Rattle.btr_hist.specs.declared.entry.Entry.{Entry}
use Rattle.btr_hist.specs.Legal.{Follows}
use Rattle.btr_text.specs.Input.{questions_of}
use Rattle.btr_text.specs.declared.script.Line.{Line}
use Rattle.btr_text.specs.declared.script.ScriptLine.{ScriptLine}
use Rattle.btr_text.specs.declared.reply.LineReply.{LineReply}
use Rattle.btr_engine.specs.Holds.{HoldsHistory}
use Rattle.btr_store.specs.declared.transcript.Transcript.{Transcript}
use Rattle.btr_top.specs.declared.ending.Ending.{Ending}
use Rattle.btr_top.specs.declared.ending.Ending.TheVariants.{Replied}
use Rattle.btr_live.specs.Meaning.{question}
use Rattle.btr_live.specs.Serving.{IsAnswerOrNoMemory}
use Rattle.btr_top.specs.Command.{HoldsStoreWith, IsWithinLimit, IsKept, OpeningCause, CommandCause}
use Rattle.btr_serve.specs.Questions.{AnswersLines}
use Rattle.btr_store.specs.Replies.{AddsReply, IsTranscript}
use Rattle.btr_store.specs.Work.{IfHolds, IsPlainWork}

-- One reply to each line, in order, all from the same history.
abbrev pub AnswersEach : List Entry → List ScriptLine → List LineReply → Type 0
AnswersEach h lines replies = AnswersLines h (map (λ line. line.line) lines) replies

-- A reply to a line was added to the transcript, as the history answers it.
abbrev pub AddsAnswer : List Entry → Option Line → Transcript → Transcript → Type 0
AddsAnswer h line old new = (reply : LineReply) × IsAnswerOrNoMemory h (question h line) reply × AddsReply reply old new

-- There is one reply for each line, and this is the transcript of the replies.
pub record RepliesEach (lines : List ScriptLine) (transcript : Transcript) : Type 0 where
  pub replies : List LineReply
  pub one_each : length replies ≡ length lines
  pub is_transcript : IsTranscript replies transcript

module _ {D : Type 0} (disk : Ghosts D) where
  -- Each line was answered from the history that the device `old` holds, and this is the transcript. Each entry of the history may
  -- follow those before it. Nothing was written. Every crash from now on leaves the history.
  pub record AnswersAll (lines : List ScriptLine) (old new : D) (transcript : Transcript) : Type 0 where
    pub history : List Entry
    pub replies : List LineReply
    pub follows : Follows history
    pub holds : disk.is_observable → HoldsHistory (disk.size old) (disk.contents old) history
    pub answers : AnswersEach history lines replies
    pub is_transcript : IsTranscript replies transcript
    pub kept : IsKept disk old new
    pub durable : disk.is_observable → (c : Image) → disk.images_now new c → HoldsHistory (disk.size new) c history

  -- The lines were answered with this transcript: on each device what is plain of it, with one reply for each line, and from each history
  -- that the device holds.
  pub record WereAnswered (lines : List ScriptLine) (old new : D) (transcript : Transcript) : Type 0 where
    pub says : RepliesEach lines transcript
    pub plain : IsPlainWork disk old (Ok transcript) false new
    pub kept : IsKept disk old new
    pub answers : IfHolds disk old (AnswersAll lines old new transcript)

  -- Why `ask` ends so, after its lines were read.
  abbrev pub QuestionsCause : List ScriptLine → D → D → Ending → Type 0
  QuestionsCause lines old new (Replied transcript) = WereAnswered lines old new transcript
  QuestionsCause lines old new e = OpeningCause disk old new e × IsKept disk old new

module _ {S D : Type 0} (source : SourceGhosts S) (disk : Ghosts D) where
  -- Why `ask` ends so.
  abbrev pub AskCause : S → S → D → D → Ending → Type 0
  AskCause given rest old new e = CommandCause source (λ input. QuestionsCause disk (questions_of input)) given rest old new e

  -- The device holds a store, and the input is within the limit.
  abbrev pub CanAsk : S → D → Type 0
  CanAsk given old = IsWithinLimit source given × HoldsStoreWith disk (λ store. Unit {0}) old

-- ---- private promises

-- Each line was answered from the history, and this is the transcript.
pub record HasAnswered (h : List Entry) (lines : List ScriptLine) (transcript : Transcript) : Type 0 where
  pub replies : List LineReply
  pub answers : AnswersEach h lines replies
  pub is_transcript : IsTranscript replies transcript
