-- The rows of a CSV input, by their numbers: each with what it says, or with the reason of its refusal.
use Rattle.std.specs.Prelude.{ℕ, List, map, filter_map, Option, Some, None, Result, Ok, Err}
use Rattle.std.specs.List.{enumerate_from}
use Rattle.csv.specs.Reading.{default_config, records, strip_bom}
use Rattle.btr_rows.specs.declared.row.Row.{Row}
use Rattle.btr_rows.specs.declared.row.RowReason.{RowReason}
use Rattle.btr_rows.specs.declared.row.RefusedRow.{RefusedRow}
use Rattle.btr_rows.specs.Row.{row_of}

-- The records of an input, as `csv` reads bytes: fields between commas, quotes around a field that has commas or line ends in it,
-- no header. An empty line is no record. A byte order mark at the start is no part of the input.
abbrev pub records_of : List ℕ → List (List (List ℕ))
records_of input = records default_config (strip_bom input)

-- What the records say, each with its number: they count from 1.
abbrev pub rows_of : List ℕ → List (ℕ × Result Row RowReason)
rows_of input = enumerate_from 1 (map row_of (records_of input))

-- The rows, each with its number.
abbrev pub good_row : ℕ × Result Row RowReason → Option (ℕ × Row)
good_row (number, Ok row) = Some (number, row)
good_row (number, Err reason) = None

abbrev pub good_rows : List (ℕ × Result Row RowReason) → List (ℕ × Row)
good_rows rows = filter_map good_row rows

-- The refused rows, each with its number and the reason.
abbrev pub refused_row : ℕ × Result Row RowReason → Option RefusedRow
refused_row (number, Ok row) = None
refused_row (number, Err reason) = Some (record { number = number; reason = reason })

abbrev pub refused_rows : List (ℕ × Result Row RowReason) → List RefusedRow
refused_rows rows = filter_map refused_row rows
