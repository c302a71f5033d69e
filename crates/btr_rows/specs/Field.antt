-- The id of a stream that a field of a row can mean. A time and a value are numbers as `signed_of` of the base reads them.
use Rattle.std.specs.Prelude.{ℕ, List, Option, option_map}
use Rattle.std.specs.Int.{from_be_bytes, w128}
use Rattle.uuid.specs.Text.{parsed}

-- The id of a stream: a UUID in any of its text forms. It is the number of the sixteen bytes, the first one highest.
abbrev pub row_id_of : List ℕ → Option ℕ
row_id_of field = option_map (from_be_bytes w128) (parsed field)
