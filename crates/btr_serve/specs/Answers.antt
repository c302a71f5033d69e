-- The pieces of an input of questions, what they say, and the text of the reply to each.
use Rattle.std.specs.Prelude.{ℕ, Bool, false, List, [], map, Option, Some, None}
use Rattle.std.specs.List.{filter_map}
use Rattle.std.specs.Option.{is_some}
use Rattle.std.specs.Str.Lines.{strip_carriage_return}
use Rattle.btr_text.specs.Input.{input_line}
use Rattle.btr_text.specs.Text.{text}
use Rattle.btr_text.specs.declared.script.Line.{Line}
use Rattle.btr_text.specs.declared.script.ScriptLine.{ScriptLine}
use Rattle.btr_text.specs.declared.reply.LineReply.{LineReply}

-- What a piece says, if it has a reply. One carriage return at its end is dropped, and no word of it names a lane.
abbrev pub said_by : List ℕ → Option ScriptLine
said_by piece = input_line false (strip_carriage_return piece)

-- What pieces say that have a reply, in order.
abbrev pub script_in : List (List ℕ) → List ScriptLine
script_in pieces = filter_map said_by pieces

-- The lines of these, without their lanes.
abbrev pub lines_in : List (List ℕ) → List (Option Line)
lines_in pieces = map (λ line. line.line) (script_in pieces)

-- Whether a piece has a reply.
abbrev pub has_reply : List ℕ → Bool
has_reply piece = is_some (said_by piece)

-- The answer to a piece is a reply, or none. Its text is that of the reply.
abbrev pub answer_text : Option LineReply → List ℕ
answer_text None = []
answer_text (Some reply) = text reply

-- The replies among answers, in order.
abbrev pub replies_in : List (Option LineReply) → List LineReply
replies_in answers = filter_map (λ answer. answer) answers
