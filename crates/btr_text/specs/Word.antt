-- The words of a line, and the values that one word can mean: a number, a direction, the id of a stream, a version, a lane.
use Rattle.std.specs.Prelude.{ℕ, ◌-◌, ◌^◌, not, ◌==◌, ◌&&◌, if◌then◌else◌}
use Rattle.std.specs.Prelude.{List, [], ◌∷◌, length, filter, codes, bytes_eq, Option, Some, None, option_map}
use Rattle.std.specs.List.{slice_split}
use Rattle.std.specs.Int.{from_be_bytes, w128}
use Rattle.uuid.specs.Text.{parsed}
use Rattle.btr_base.specs.Decimal.{number_up_to}
use Rattle.btr_base.specs.declared.toward.Toward.{Toward}
use Rattle.btr_base.specs.declared.toward.Toward.TheVariants.{Forward, Backward}
use Rattle.btr_hist.specs.declared.query.At.{At}
use Rattle.btr_hist.specs.declared.query.At.TheVariants.{Number, Latest}
use Rattle.btr_text.specs.declared.word.TheConstants.{SPACE, LANE_MARK}

-- The words of a line: the pieces between its spaces that are not empty.
abbrev pub words_of : List ℕ → List (List ℕ)
words_of line = filter (λ w. not (length w == 0)) (slice_split (λ b. b == SPACE) line)

-- A count or a version: digits within `u64`.
abbrev pub unsigned_of : List ℕ → Option ℕ
unsigned_of w = number_up_to (2 ^ 64 - 1) w

-- The exponent of a power of two: digits, at most 255.
abbrev pub power_of : List ℕ → Option ℕ
power_of w = number_up_to 255 w

-- A direction: `next` or `prev`.
abbrev pub toward_of : List ℕ → Option Toward
toward_of w =
    if bytes_eq w (codes "next") then Some Forward else if bytes_eq w (codes "prev") then Some Backward else None

-- The id of a stream: a UUID in any of its text forms. It is the number of the sixteen bytes, the first one highest.
abbrev pub id_of : List ℕ → Option ℕ
id_of w = option_map (from_be_bytes w128) (parsed w)

-- A version: its number, or `latest`.
abbrev pub at_of : List ℕ → Option At
at_of w = if bytes_eq w (codes "latest") then Some Latest else option_map Number (unsigned_of w)

-- The lane that a word names: `@` and one digit from 0 to 7. Any other word names none.
abbrev pub lane_of : List ℕ → Option ℕ
lane_of [] = None
lane_of (mark ∷ number) = if mark == LANE_MARK && length number == 1 then number_up_to 7 number else None
