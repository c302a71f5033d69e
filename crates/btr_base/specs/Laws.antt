-- The limits as numerals, so that a clause that cites a constant cannot move with the code.
use Rattle.std.specs.Prelude.{◌≡◌, ◌^◌, pos, negsuc}
use Rattle.btr_base.specs.declared.limits.TheConstants.{FIRST, END, MAX_STREAMS, MAX_VERSIONS, MAX_POINTS, MAX_COMMIT_POINTS}
use Rattle.btr_base.specs.declared.limits.TheConstants.{MAX_COMMIT_RANGES, LEAF_POINTS, FAN_OUT, ROOT_HEIGHT, BOTTOM_WIDTH}
use Rattle.btr_base.specs.declared.limits.TheConstants.{MAX_EXPONENT, MAX_WIDTH}
use Rattle.btr_base.specs.Span.{width}

-- The limits of times, in nanoseconds.
pub record TimeLimits : Type 0 where
  pub first : FIRST ≡ negsuc 1152921504606846975
  pub end : END ≡ pos 3458764513820540928
  pub exponent : MAX_EXPONENT ≡ 62
  pub width : MAX_WIDTH ≡ 2 ^ 62

-- The limits of streams, versions, commits and points.
pub record CountLimits : Type 0 where
  pub streams : MAX_STREAMS ≡ 65536
  pub versions : MAX_VERSIONS ≡ 4294967295
  pub points : MAX_POINTS ≡ 4294967296
  pub commit_points : MAX_COMMIT_POINTS ≡ 65536
  pub commit_ranges : MAX_COMMIT_RANGES ≡ 65536

-- The limits of the tree.
pub record TreeLimits : Type 0 where
  pub leaf_points : LEAF_POINTS ≡ 252
  pub fan_out : FAN_OUT ≡ 64
  pub root_height : ROOT_HEIGHT ≡ 10
  pub bottom_width : BOTTOM_WIDTH ≡ 4
  pub bottom_span : width 0 ≡ 4
