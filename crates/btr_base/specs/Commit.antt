-- What a commit does to the points of a stream.
use Rattle.std.specs.Prelude.{List, ◌++◌}
use Rattle.btr_base.specs.declared.point.Point.{Point}
use Rattle.btr_base.specs.Range.{RangeValue}
use Rattle.btr_base.specs.Bag.{sort, outside}

-- The ranges whose points a commit removes, and the points that it then adds.
pub record Change : Type 0 where
  pub cut : List RangeValue
  pub added : List Point

-- The points after a commit.
abbrev pub after : List Point → Change → List Point
after b c = sort (outside b c.cut ++ c.added)
