-- The law of the formats, as numerals.
use Rattle.std.specs.Prelude.{◌≡◌}
use Rattle.btr_super.specs.declared.superblock.TheConstants.{FORMAT, SEALED_FORMAT}

-- The formats of superblocks that keep the table, from the least to the greatest.
pub record FormatLimits : Type 0 where
  pub least : FORMAT ≡ 1
  pub greatest : SEALED_FORMAT ≡ 4
