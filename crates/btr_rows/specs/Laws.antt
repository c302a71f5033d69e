-- The law of the bytes that mark the parts of a row, as numerals.
use Rattle.std.specs.Prelude.{◌≡◌}
use Rattle.btr_rows.specs.declared.plain.TheConstants.{COMMA, CARRIAGE_RETURN, LINE_FEED}

-- The bytes that separate and mark the parts of a row: a comma, a carriage return, a line feed.
pub record RowMarks : Type 0 where
  pub comma : COMMA ≡ 44
  pub carriage_return : CARRIAGE_RETURN ≡ 13
  pub line_feed : LINE_FEED ≡ 10
