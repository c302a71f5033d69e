-- The law of the bytes that mark the parts of a line, as numerals.
use Rattle.std.specs.Prelude.{◌≡◌}
use Rattle.btr_text.specs.declared.word.TheConstants.{LINE_FEED, SPACE, LANE_MARK}

-- The bytes that separate and mark the parts of a line: a line feed, a space, an at sign.
pub record LineMarks : Type 0 where
  pub line_feed : LINE_FEED ≡ 10
  pub space : SPACE ≡ 32
  pub lane_mark : LANE_MARK ≡ 64
