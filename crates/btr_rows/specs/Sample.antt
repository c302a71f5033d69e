-- The text of `sample`: the points of a generator of numbers, as rows of CSV.
use Rattle.std.specs.Prelude.{ℕ, zero, suc, ◌+◌, ◌*◌, ◌/◌, ◌%◌, ◌^◌, ℤ, pos, ◌-ℤ◌, List, [], ◌∷◌, ◌++◌, flat_map, decimal}
use Rattle.std.specs.List.{range_with_len}
use Rattle.std.specs.Fmt.{signed_decimal}
use Rattle.std.specs.Int.{to_be_bytes, w128}
use Rattle.uuid.specs.Text.{hyphenated_text, lower}
use Rattle.btr_rows.specs.declared.plain.TheConstants.{COMMA, LINE_FEED}

-- The state of the generator after another: a linear congruence.
abbrev pub next_state : ℕ → ℕ
next_state x = (1103515245 * x + 12345) % 2 ^ 31

-- The n-th state. The state at 0 is the number that it begins with.
unfoldable pub state_at : ℕ → ℕ → ℕ
state_at number zero = number
state_at number (suc n) = next_state (state_at number n)

-- The n-th number of the generator: the high bits of its state.
abbrev pub draw : ℕ → ℕ → ℕ
draw number n = state_at number n / 65536

-- The text of an id, hyphenated and in lower case.
abbrev pub row_id_text : ℕ → List ℕ
row_id_text id = hyphenated_text lower (to_be_bytes w128 id)

-- The time of a point, in nanoseconds, and its value. An instant is 1,000 ns after the one before, and the number that was drawn
-- moves the time by less than that.
abbrev pub sample_time : ℕ → ℕ → ℕ
sample_time instant drawn = 1000000000 + 1000 * instant + drawn % 1000

abbrev pub sample_value : ℕ → ℤ
sample_value drawn = pos (drawn % 2001) -ℤ pos 1000

-- The row of a stream at an instant. Both count from 0, and the ids count from 1.
abbrev pub sample_row : ℕ → ℕ → ℕ → List ℕ
sample_row stream instant drawn =
    row_id_text (stream + 1) ++ COMMA ∷ decimal (sample_time instant drawn) ++ COMMA ∷ signed_decimal (sample_value drawn) ++ LINE_FEED ∷ []

-- The rows of an instant, one of each stream, if `before` numbers were drawn before it.
abbrev pub instant_rows : ℕ → ℕ → ℕ → ℕ → List ℕ
instant_rows number streams instant before =
    flat_map (λ stream. sample_row stream instant (draw number (before + stream + 1))) (range_with_len 0 streams)

-- The rows of all instants.
abbrev pub sample_text : ℕ → ℕ → ℕ → List ℕ
sample_text number streams points =
    flat_map (λ instant. instant_rows number streams instant (instant * streams)) (range_with_len 0 points)
