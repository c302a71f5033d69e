-- The command `ask --cold`: what each line is answered from a sealed store whose nodes are fetched, and why the command ends as it does.
use Rattle.std.specs.Prelude.{◌≡◌, ◌⊎◌, ℕ, ◌≤◌, false, List, [], ◌∷◌, Option}
use Rattle.btr_io.specs.declared.source.Source.{Ghosts as SourceGhosts}
use Rattle.btr_disk.specs.declared.disk.Disk.{Ghosts}
use Rattle.btr_disk.specs.Bytes.{Image}
use Rattle.btr_disk.specs.Causes.{Rose}
use Rattle.btr_super.specs.declared.superblock.Super.{Super}
use Rattle.btr_super.specs.Super.{has_seal}
use Rattle.btr_super.specs.Choose.{IsChosen}
use Rattle.btr_node.specs.declared.page.NodePage.{NodePage}
use Rattle.btr_tree.specs.declared.fetch.NodeFault.{NodeFault}
use Rattle.btr_tree.specs.declared.fetch.NodeFault.TheVariants as nodes
use Rattle.btr_tree.specs.Spots.{IsHarmlessFault}
use Rattle.btr_shelf.specs.DeviceBlocks.{IsBlockPage}
use Rattle.btr_hist.specs.declared.entry.Entry.{Entry}
use Rattle.btr_hist.specs.declared.query.Query.{Query}
use Rattle.btr_hist.specs.Answer.{answer}
use Rattle.btr_text.specs.Input.{questions_of}
use Rattle.btr_text.specs.declared.script.Line.{Line}
use Rattle.btr_text.specs.declared.script.ScriptLine.{ScriptLine}
use Rattle.btr_text.specs.declared.reply.LineReply.{LineReply}
use Rattle.btr_text.specs.declared.reply.LineReply.TheVariants.{No}
use Rattle.btr_text.specs.declared.reply.Reason.{Reason}
use Rattle.btr_text.specs.declared.reply.Reason.TheVariants as reasons
use Rattle.btr_engine.specs.Holds.{HoldsHistory}
use Rattle.btr_live.specs.Meaning.{Asks, question}
use Rattle.btr_live.specs.Replies.{model_reply, reply_of_answer}
use Rattle.btr_live.specs.Serving.{IsAnswerOrNoMemory}
use Rattle.btr_open.specs.declared.sealed.SealedFault.{SealedFault}
use Rattle.btr_open.specs.declared.sealed.SealedFault.TheVariants as openings
use Rattle.btr_open.specs.Shelf.{ShelfValue, HasRollOf, IsShelfCause, AtEachShelf, AtEachPossibleShelf}
use Rattle.btr_open.specs.Sealed.{HoldsSealed, MayHaveLost, IsHarmlessCause, IsOpenedShelf, SealedCause, blocks_on}
use Rattle.btr_store.specs.declared.status.Status.TheVariants.{Done, Refused}
use Rattle.btr_store.specs.declared.transcript.Transcript.{Transcript}
use Rattle.btr_store.specs.Replies.{AddsReply, IsTranscript, status_of_reply}
use Rattle.btr_top.specs.declared.ending.Ending.{Ending}
use Rattle.btr_top.specs.declared.ending.Ending.TheVariants.{OutOfMemory, NoDevice, NoStore, Damaged, Unsealed, Replied}
use Rattle.btr_top.specs.Command.{IsWithinLimit, IsKept, CommandCause}

-- The reason that a reply gives if a node that its question needs was not fetched.
abbrev pub reason_of_fault : NodeFault → Reason
reason_of_fault nodes.Failed = reasons.Device
reason_of_fault (nodes.Damaged block) = reasons.Damaged block
reason_of_fault nodes.Want = reasons.Memory

-- How the command ends if the device was not opened as a shelf.
abbrev pub ending_of_fault : SealedFault → Ending
ending_of_fault openings.NotAStore = NoStore
ending_of_fault openings.Unsealed = Unsealed
ending_of_fault (openings.Damaged block) = Damaged block
ending_of_fault openings.Fault = NoDevice
ending_of_fault openings.Want = OutOfMemory

-- ---- the reply to a line

-- The pages that blocks have, if they can be observed.
abbrev pub PagesIn : Type 0 → Type 1
PagesIn observable = observable → ℕ → NodePage → Type 0

module _ (observable : Type 0) (has : PagesIn observable) (shelf : ShelfValue) where
  -- The reply says why a node was not fetched, and that is so. `before` and `after` are the counts of faults. If all pages of the shelf's
  -- history are there, the reply names no damaged block.
  pub record SaysUnfetched (before after : ℕ) (reply : LineReply) : Type 0 where
    pub fault : NodeFault
    pub says : reply ≡ No (reason_of_fault fault)
    pub cause : IsShelfCause observable shelf has before after fault
    pub sound : (o : observable) → AtEachShelf (has o) shelf (λ h. IsHarmlessFault fault)

  -- The reply is what P says at each history whose shelf this may be. It is no reply for a device, a block or memory that failed.
  pub record IsShelfReply (P : List Entry → LineReply) (reply : LineReply) : Type 0 where
    pub plain : (status_of_reply reply ≡ Done) ⊎ (status_of_reply reply ≡ Refused)
    pub says : (o : observable) → AtEachPossibleShelf (has o) shelf (λ h. reply ≡ P h)

  -- The line asks a question, whichever history this is the shelf of.
  abbrev pub AsksQuestion : Option Line → Type 0
  AsksQuestion line = (h : List Entry) → HasRollOf h shelf → (query : Query) × (question h line ≡ Asks query)

  -- A line had this reply: the model's; or the line asks a question, and the reply says why a node was not fetched.
  abbrev pub RepliesCold : Option Line → ℕ → ℕ → LineReply → Type 0
  RepliesCold line before after reply =
      IsShelfReply (λ h. model_reply h (question h line)) reply ⊎ (AsksQuestion line × SaysUnfetched before after reply)

-- One reply to each line, in order. P holds of each line with its reply, and with the counts of faults before and after it, which never
-- fall from the first line to the last.
abbrev pub EachReplies : (Option Line → ℕ → ℕ → LineReply → Type 0) → ℕ → ℕ → List ScriptLine → List LineReply → Type 0
EachReplies P before after [] [] = before ≤ after
EachReplies P before after [] (reply ∷ replies) = ⊥
EachReplies P before after (line ∷ lines) [] = ⊥
EachReplies P before after (line ∷ lines) (reply ∷ replies) =
    (from : ℕ) × (next : ℕ) × (before ≤ from) × (from ≤ next) × P line.line from next reply × EachReplies P next after lines replies

-- The reply is that of a history, or there was no memory for it; or it says that the device failed, and a call of the device did fail.
abbrev pub IsAnswerOrFailure : List Entry → Option Line → ℕ → ℕ → LineReply → Type 0
IsAnswerOrFailure h line before after reply =
    IsAnswerOrNoMemory h (question h line) reply ⊎ ((reply ≡ No reasons.Device) × Rose before after)

-- The same, or it says that a block is damaged.
abbrev pub IsAnswerOrDamage : List Entry → Option Line → ℕ → ℕ → LineReply → Type 0
IsAnswerOrDamage h line before after reply =
    IsAnswerOrFailure h line before after reply ⊎ ((block : ℕ) × (reply ≡ No (reasons.Damaged block)))

module _ {D : Type 0} (disk : Ghosts D) where
  -- The pages that the blocks of a device have.
  abbrev pub pages_on : D → PagesIn disk.is_observable
  pages_on d o = IsBlockPage (blocks_on disk d)

  -- The device `old` was opened as this shelf, and the lines had these replies from it. If the device holds a history, each reply is that
  -- of the history, but where memory ran out or the device failed. If it held a history and may have lost pages since, so is each reply
  -- that names no damaged block: a page that is lost is never taken for one without points.
  pub record AnswersCold (lines : List ScriptLine) (old new : D) (shelf : ShelfValue) (replies : List LineReply) : Type 0 where
    pub opened : IsOpenedShelf disk old shelf
    pub each : EachReplies (RepliesCold disk.is_observable (pages_on old) shelf) (disk.faults old) (disk.faults new) lines replies
    pub stood : disk.is_observable → (h : List Entry) → HoldsHistory (disk.size old) (disk.contents old) h
        → EachReplies (IsAnswerOrFailure h) (disk.faults old) (disk.faults new) lines replies
    pub lost : disk.is_observable → (was : Image) (h : List Entry) → HoldsHistory (disk.size old) was h
        → MayHaveLost (disk.size old) was (disk.contents old)
        → EachReplies (IsAnswerOrDamage h) (disk.faults old) (disk.faults new) lines replies

  -- Nothing was written, and no crash leaves what it might not have left before. It is said as a proposition: a source of nodes keeps
  -- nothing else of the device that it reads.
  abbrev pub IsKeptCold : D → D → Type 0
  IsKeptCold old new = ∥ IsKept disk old new ∥₁

  -- The lines were answered with this transcript.
  pub record WereAnsweredCold (lines : List ScriptLine) (old new : D) (transcript : Transcript) : Type 0 where
    pub shelf : ShelfValue
    pub replies : List LineReply
    pub answers : AnswersCold lines old new shelf replies
    pub is_transcript : IsTranscript replies transcript

  -- The device was not opened as a shelf, for a fault that has its cause. If the device holds a history in a sealed store whose superblock
  -- names a checkpoint, then it failed, or memory ran out.
  pub record IsUnopened (old new : D) (e : Ending) : Type 0 where
    pub fault : SealedFault
    pub ends : e ≡ ending_of_fault fault
    pub cause : SealedCause disk old new fault
    pub stood : disk.is_observable → (h : List Entry) → HoldsSealed (disk.size old) (disk.contents old) h → IsHarmlessCause fault

  -- If the chosen superblock is not sealed, the command says so, unless the device failed or memory ran out.
  abbrev pub IsUnsealedUnlessFailed : D → Ending → Type 0
  IsUnsealedUnlessFailed old e =
      disk.is_observable → (s : Super) → IsChosen (disk.size old) (disk.contents old) s → has_seal s ≡ false
      → (e ≡ Unsealed) ⊎ (e ≡ NoDevice) ⊎ (e ≡ OutOfMemory)

  -- Why `ask --cold` ends so, after its lines were read: they were answered; or memory ran out; or the device was not opened. However it
  -- ends, nothing was written.
  pub record ColdCause (lines : List ScriptLine) (old new : D) (e : Ending) : Type 0 where
    pub kept : IsKeptCold old new
    pub unsealed : IsUnsealedUnlessFailed old e
    pub why : ((transcript : Transcript) × (e ≡ Replied transcript) × WereAnsweredCold lines old new transcript)
        ⊎ (e ≡ OutOfMemory) ⊎ IsUnopened old new e

module _ {S D : Type 0} (source : SourceGhosts S) (disk : Ghosts D) where
  -- Why `ask --cold` ends so.
  abbrev pub AskColdCause : S → S → D → D → Ending → Type 0
  AskColdCause given rest old new e = CommandCause source (λ input. ColdCause disk (questions_of input)) given rest old new e

  -- The device holds a history in a sealed store whose superblock names a checkpoint, and the input is within the limit.
  abbrev pub CanAskCold : S → D → Type 0
  CanAskCold given old = IsWithinLimit source given × ((h : List Entry) × HoldsSealed (disk.size old) (disk.contents old) h)

-- ---- private promises

-- A reply of which P holds was added to the transcript.
abbrev pub AddsCold : (Option Line → ℕ → ℕ → LineReply → Type 0) → Option Line → ℕ → ℕ → Transcript → Transcript → Type 0
AddsCold P line before after old new = (reply : LineReply) × P line before after reply × AddsReply reply old new

-- Each line had a reply of which P holds, and this is the transcript.
pub record HasRepliedCold (P : Option Line → ℕ → ℕ → LineReply → Type 0) (before after : ℕ) (lines : List ScriptLine)
    (transcript : Transcript) : Type 0 where
  pub replies : List LineReply
  pub each : EachReplies P before after lines replies
  pub is_transcript : IsTranscript replies transcript

-- A question had this reply from a shelf.
abbrev pub AnswersShelf : (observable : Type 0) → PagesIn observable → ShelfValue → Query → ℕ → ℕ → LineReply → Type 0
AnswersShelf observable has shelf query before after reply =
    IsShelfReply observable has shelf (λ h. reply_of_answer (answer h query)) reply ⊎ SaysUnfetched observable has shelf before after reply

-- How the command ends that has a shelf: with the replies to all lines over the pages of this device, or without memory.
abbrev pub EndsShelf : {D : Type 0} → Ghosts D → List ScriptLine → D → D → ShelfValue → Ending → Type 0
EndsShelf disk lines old new shelf e =
    ((transcript : Transcript) × (e ≡ Replied transcript)
    × HasRepliedCold (RepliesCold disk.is_observable (pages_on disk old) shelf) (disk.faults old) (disk.faults new) lines transcript)
    ⊎ (e ≡ OutOfMemory)
