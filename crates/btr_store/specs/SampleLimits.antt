-- The law of the limits of a sample, as numerals.
use Rattle.std.specs.Prelude.{◌≡◌}
use Rattle.btr_store.specs.declared.sample.TheConstants.{BATCH}

-- The rows of a sample are loaded in batches of this size.
pub record SampleLimits : Type 0 where
  pub batch : BATCH ≡ 4096
