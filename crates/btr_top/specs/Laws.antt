-- The law of the limits, as numerals.
use Rattle.std.specs.Prelude.{◌≡◌}
use Rattle.btr_super.specs.declared.superblock.TheConstants.{MIN_BLOCKS, MAX_BLOCKS}
use Rattle.btr_top.specs.declared.command.TheConstants.{MAX_INPUT}

-- The limits of a run: the bytes of an input, and the blocks of a store.
pub record RunLimits : Type 0 where
  pub input_bytes : MAX_INPUT ≡ 268435456
  pub least_blocks : MIN_BLOCKS ≡ 8
  pub most_blocks : MAX_BLOCKS ≡ 4294967296
