-- The lines of an input, which of them have a reply, and the lane of each.
use Rattle.std.specs.Prelude.{ℕ, Bool, true, false, ◌<◌, ◌==◌, List, [], ◌∷◌, map, filter_map, if◌then◌else◌, codes, Option, Some, None}
use Rattle.std.specs.List.{AllByRecursion, slice_split, starts_with}
use Rattle.std.specs.Option.{option_map_or}
use Rattle.std.specs.Prelude.{nat_eq}
use Rattle.std.specs.Str.Lines.{strip_carriage_return}
use Rattle.btr_text.specs.declared.script.ScriptLine.{ScriptLine}
use Rattle.btr_text.specs.declared.word.TheConstants.{LINE_FEED}
use Rattle.btr_text.specs.Word.{words_of, lane_of}
use Rattle.btr_text.specs.Form.{line_of}

-- The pieces of an input between its line feeds. One carriage return at the end of a piece is dropped.
abbrev pub lines_of : List ℕ → List (List ℕ)
lines_of input = map strip_carriage_return (slice_split (λ b. b == LINE_FEED) input)

-- A line of this lane, of which these are the words of the form.
abbrev pub in_lane : ℕ → List (List ℕ) → ScriptLine
in_lane lane ws = record { lane = lane; line = line_of ws }

-- What words say, if there is a word. If the first word names a lane, the form begins after it. If not, the lane is 0.
abbrev pub said : List (List ℕ) → Option ScriptLine
said [] = None
said (w ∷ ws) = Some (option_map_or (λ lane. in_lane lane ws) (lane_of w) (in_lane 0 (w ∷ ws)))

-- What words say where no word names a lane, if there is a word: the form begins with the first word.
abbrev pub asked : List (List ℕ) → Option ScriptLine
asked [] = None
asked (w ∷ ws) = Some (in_lane 0 (w ∷ ws))

-- What a line says, if it has a reply. If lanes can be named, its first word may name one. A line that begins with `#`, or has no word,
-- has no reply.
abbrev pub input_line : Bool → List ℕ → Option ScriptLine
input_line names_lanes line =
    if starts_with nat_eq line (codes "#") then None else (if names_lanes then said (words_of line) else asked (words_of line))

-- The lines of a script that have a reply, in order.
abbrev pub script_of : List ℕ → List ScriptLine
script_of input = filter_map (input_line true) (lines_of input)

-- The lines of an input of questions that have a reply, in order. No word names a lane here, and `@0` is no first word of a form.
abbrev pub questions_of : List ℕ → List ScriptLine
questions_of input = filter_map (input_line false) (lines_of input)

-- Each line has a lane from 0 to 7.
abbrev pub HaveLanes : List ScriptLine → Type 0
HaveLanes script = AllByRecursion (λ line. line.lane < 8) script
