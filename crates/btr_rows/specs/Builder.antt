-- A list of rows that grows by one row at a time.
use Rattle.std.specs.Prelude.{ℕ, List, length, Result}
use Rattle.std.specs.List.{enumerate_from}
use Rattle.btr_rows.specs.declared.row.Row.{Row}
use Rattle.btr_rows.specs.declared.row.RowReason.{RowReason}
use Rattle.btr_rows.specs.Streams.{RowListValue, list_of}

-- A list of rows, and how many rows it has, the refused ones included.
pub record BuilderValue : Type 0 where
  pub list : RowListValue
  pub count : ℕ

-- The builder that has what these records say, which count from 1.
abbrev pub built_of : List (Result Row RowReason) → BuilderValue
built_of rows = record { list = list_of (enumerate_from 1 rows); count = length rows }
