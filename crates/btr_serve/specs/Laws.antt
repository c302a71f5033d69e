-- Serving beside `live`: the same lines have the same replies.
use Rattle.std.specs.Prelude.{◌≡◌, ℕ, List, ◌∷◌, None}
use Rattle.std.specs.List.{AllByRecursion}
use Rattle.btr_text.specs.Input.{lines_of, script_of, questions_of}
use Rattle.btr_text.specs.Word.{words_of, lane_of}
use Rattle.btr_text.specs.declared.script.ScriptLine.{ScriptLine}
use Rattle.btr_text.specs.declared.reply.LineReply.{LineReply}
use Rattle.btr_text.specs.declared.reply.LineReply.TheVariants.{No}
use Rattle.btr_text.specs.declared.reply.Reason.TheVariants as reasons
use Rattle.btr_lines.specs.Lines.{pieces}
use Rattle.btr_jobs.specs.States.{StoreState, LogState}
use Rattle.btr_live.specs.OneLane.{RunsAlone}
use Rattle.btr_serve.specs.Answers.{script_in}

-- The first word of a line names no lane.
abbrev pub NamesNoLane : List ℕ → Type 0
NamesNoLane line = (word : List ℕ) (rest : List (List ℕ)) → words_of line ≡ word ∷ rest → lane_of word ≡ None

-- The reply tells neither of memory that ran out nor of a device that failed.
abbrev pub IsOfModel : LineReply → Type 0
IsOfModel (No reasons.Memory) = ⊥
IsOfModel (No reasons.Device) = ⊥
IsOfModel reply = Unit {0}

-- The pieces of an input say what it says as an input of questions; and what it says as a script, if no line of it names a lane.
pub record SaysAsScript (input : List ℕ) : Type 0 where
  pub questions : script_in (pieces input) ≡ questions_of input
  pub script : AllByRecursion NamesNoLane (lines_of input) → script_in (pieces input) ≡ script_of input

-- Two runs of the same lines on stores in the same state, each alone: if memory did not run out in either and no device failed, the replies
-- are the same, and so are the histories after them.
abbrev pub RepliesAreTheSame : Type 0
RepliesAreTheSame =
    (batch : ℕ) (start : StoreState) (one other : LogState) (script : List ScriptLine) (replies others : List LineReply)
    → RunsAlone batch start one script replies → RunsAlone batch start other script others
    → AllByRecursion IsOfModel replies → AllByRecursion IsOfModel others
    → (replies ≡ others) × (one.history ≡ other.history)
