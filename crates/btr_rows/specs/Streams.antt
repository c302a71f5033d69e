-- Rows by their streams: for each id in the order of its first row, the points of its rows in order.
use Rattle.std.specs.Prelude.{ℕ, ◌==◌, not, List, [], ◌∷◌, ◌++◌, map, filter, Result}
use Rattle.btr_rows.specs.declared.row.Row.{Row}
use Rattle.btr_rows.specs.declared.row.RowReason.{RowReason}
use Rattle.btr_rows.specs.declared.row.RefusedRow.{RefusedRow}
use Rattle.btr_rows.specs.declared.row.NumberedPoint.{NumberedPoint}
use Rattle.btr_rows.specs.Rows.{good_rows, refused_rows}

-- The rows of one stream: its id, and the points with the numbers of their rows.
pub record StreamValue : Type 0 where
  pub id : ℕ
  pub points : List NumberedPoint

-- The stream with one point more.
abbrev pub with_point : StreamValue → NumberedPoint → StreamValue
with_point s point = record { id = s.id; points = s.points ++ point ∷ [] }

-- The ids of rows, each once, in the order of their first rows.
unfoldable pub ids_of : List (ℕ × Row) → List ℕ
ids_of [] = []
ids_of (r ∷ rs) = r.1.id ∷ filter (λ id. not (id == r.1.id)) (ids_of rs)

-- The point of a row, with the row's number.
abbrev pub numbered_point : ℕ × Row → NumberedPoint
numbered_point r = record { number = r.0; point = r.1.point }

-- The rows with this id.
abbrev pub stream_of : List (ℕ × Row) → ℕ → StreamValue
stream_of rows id = record { id = id; points = map numbered_point (filter (λ r. r.1.id == id) rows) }

-- The rows by their streams.
abbrev pub by_stream : List (ℕ × Row) → List StreamValue
by_stream rows = map (stream_of rows) (ids_of rows)

-- A list of rows: the rows by their streams, and the refused rows.
pub record RowListValue : Type 0 where
  pub streams : List StreamValue
  pub refused : List RefusedRow

-- The list of rows with these numbers.
abbrev pub list_of : List (ℕ × Result Row RowReason) → RowListValue
list_of rows = record { streams = by_stream (good_rows rows); refused = refused_rows rows }
