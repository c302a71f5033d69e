-- The answer to a question about a history.
use Rattle.std.specs.Prelude.{ℕ, ◌+◌, ℤ, Bool, true, ◌&&◌, nat_lt, nat_le, min, max, int_le, int_lt, List, [], ◌∷◌, length, if◌then◌else◌}
use Rattle.std.specs.Prelude.{Option, Some, None}
use Rattle.btr_base.specs.declared.point.Point.{Point}
use Rattle.btr_base.specs.declared.limits.TheConstants.{FIRST, END, MAX_EXPONENT, MAX_WIDTH}
use Rattle.btr_base.specs.Agg.{agg_within}
use Rattle.btr_base.specs.Bag.{within}
use Rattle.btr_base.specs.Nearest.{nearest}
use Rattle.btr_base.specs.Windows.{aligned, windows}
use Rattle.btr_base.specs.Changes.{changes}
use Rattle.btr_hist.specs.declared.entry.Entry.{Entry}
use Rattle.btr_hist.specs.declared.query.At.{At}
use Rattle.btr_hist.specs.declared.query.At.TheVariants.{Number, Latest}
use Rattle.btr_hist.specs.declared.query.Query.{Query}
use Rattle.btr_hist.specs.declared.query.Query.TheVariants as ask
use Rattle.btr_hist.specs.declared.answer.Answer.{Answer}
use Rattle.btr_hist.specs.declared.answer.Answer.TheVariants.{Found, Refused}
use Rattle.btr_hist.specs.declared.answer.Refusal.TheVariants.{NoStream, NoVersion, Retired, BadRange}
use Rattle.btr_hist.specs.declared.answer.Rows.{Rows}
use Rattle.btr_hist.specs.declared.answer.Rows.TheVariants.{Points, Cells, Ranges, Info, Streams}
use Rattle.btr_hist.specs.declared.answer.StreamRow.{StreamRow}
use Rattle.btr_hist.specs.History.{ids, is_output, latest, bag, read_by, earliest}

-- The number of the version that a question is about.
abbrev pub version_of : List Entry → ℕ → At → ℕ
version_of h stream (Number v) = v
version_of h stream Latest = latest h stream

-- The bounds are those of a range, which is not empty and lies in the domain.
abbrev pub is_range : ℤ → ℤ → Bool
is_range from to = int_le FIRST from && int_lt from to && int_le to END

-- Windows and slots of `2^p` ns can be asked for.
abbrev pub is_power : ℕ → Bool
is_power p = nat_le p MAX_EXPONENT

-- Windows of this width, in nanoseconds, can be asked for.
abbrev pub is_width : ℕ → Bool
is_width width = nat_le 1 width && nat_le width MAX_WIDTH

-- The rows of the points of a version, if the stream has that version, the least version that the question is about is not retired,
-- and the other numbers of the question are good.
abbrev pub answer_from : List Entry → ℕ → ℕ → ℕ → Bool → (List Point → Rows) → Answer
answer_from h stream least version good rows =
    if nat_le (length (ids h)) stream then Refused NoStream
    else if nat_lt (latest h stream) version then Refused (NoVersion version (latest h stream))
    else if nat_lt least (earliest h stream) then Refused (Retired least (earliest h stream))
    else if good then Found version (rows (bag h stream version))
    else Refused BadRange

-- The rows of the points of a version, if the question is about this version alone.
abbrev pub answer_at : List Entry → ℕ → ℕ → Bool → (List Point → Rows) → Answer
answer_at h stream version good rows = answer_from h stream version version good rows

-- One point or none as a list.
abbrev pub list_of : Option Point → List Point
list_of None = []
list_of (Some p) = p ∷ []

-- The streams with these ids, numbered from the given number on, each with its latest version and its kind.
abbrev pub rows_from : List Entry → ℕ → List ℕ → List StreamRow
rows_from h number [] = []
rows_from h number (id ∷ rest) = record { id = id; latest = latest h number; output = is_output h number } ∷ rows_from h (number + 1) rest

-- The answer to a question.
abbrev pub answer : List Entry → Query → Answer
answer h (ask.Points stream from to at) =
    answer_at h stream (version_of h stream at) (is_range from to) (λ b. Points (within from to b))
answer h (ask.Nearest stream time toward at) =
    answer_at h stream (version_of h stream at) true (λ b. Points (list_of (nearest toward time b)))
answer h (ask.Aligned stream from to p at) =
    answer_at h stream (version_of h stream at) (is_range from to && is_power p) (λ b. Cells (aligned p from to b))
answer h (ask.Windows stream from to width at) =
    answer_at h stream (version_of h stream at) (is_range from to && is_width width) (λ b. Cells (windows width from to b))
answer h (ask.Changes stream old new p) =
    answer_from h stream (min old new) (max old new) (nat_le old new && is_power p) (λ b. Ranges (changes p (bag h stream old) b))
answer h (ask.Info stream at) =
    answer_at h stream (version_of h stream at) true
    (λ b. Info (is_output h stream) (agg_within FIRST END b) (read_by h stream (version_of h stream at)))
answer h ask.Streams = Found (length h) (Streams (rows_from h 0 (ids h)))
