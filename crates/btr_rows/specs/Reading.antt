-- A reader of CSV between two records, and the bytes that end a field.
use Rattle.std.specs.Prelude.{ℕ, ◌<◌, Bool, ◌==◌, ◌||◌, not, ◌≡◌, ◌⊎◌, List, [], ◌∷◌, length, Some}
use Rattle.std.specs.Bool.{MatchBool}
use Rattle.std.specs.List.{prefix_len}
use Rattle.std.specs.Borrow.{Bor}
use Rattle.csv.specs.Reading.{Ready, default_config, reader_config, reader_state, reader_trim, records, source_of}
use Rattle.csv.specs.declared.reader.Reader.{Reader}
use Rattle.csv.specs.declared.reader.Trim.TheVariants as trim
use Rattle.csv.specs.declared.parser.State.{State}
use Rattle.csv.specs.declared.parser.State.TheVariants as st
use Rattle.btr_rows.specs.declared.plain.TheConstants.{COMMA, CARRIAGE_RETURN, LINE_FEED}

-- The records of a text without a byte order mark.
abbrev pub records_in : List ℕ → List (List (List ℕ))
records_in text = records default_config text

-- The state between two records.
abbrev pub IsBetween : State → Type 0
IsBetween s = (s ≡ st.StartRecord) ⊎ (s ≡ st.AfterCr)

-- The reader is between two records, gives records as they are, and has these bytes left.
pub record HasLeft (reader : Reader (Bor (List ℕ))) (left : List ℕ) : Type 0 where
  pub trim : reader_trim reader ≡ trim.None
  pub ready : Ready reader
  pub config : reader_config reader ≡ default_config
  pub state : IsBetween (reader_state reader)
  pub source : source_of (λ s. Some s.now) reader ≡ Some left

-- A record with these fields was read from a reader that had `left` left, if one was found: it is the first of `left`, and the reader
-- has those after it left, in fewer bytes. If none was found, `left` has none.
abbrev pub ReadsNext : List ℕ → Reader (Bor (List ℕ)) → List (List ℕ) → Bool → Type 0
ReadsNext left reader fields found = MatchBool found
    ((rest : List ℕ) × HasLeft reader rest × (length rest < length left) × (records_in left ≡ fields ∷ records_in rest))
    (records_in left ≡ [])

-- The byte ends a line, or a field without quotes.
abbrev pub ends_line : ℕ → Bool
ends_line b = (b == CARRIAGE_RETURN) || (b == LINE_FEED)

abbrev pub ends_field : ℕ → Bool
ends_field b = (b == COMMA) || ends_line b

-- The number of bytes before the end of the first field of a text without quotes.
abbrev pub field_size : List ℕ → ℕ
field_size text = prefix_len (λ b. not (ends_field b)) text
