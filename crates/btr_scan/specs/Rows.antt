-- What a walk appends to a list of points.
use Rattle.std.specs.Prelude.{◌≡◌, List, ◌++◌}
use Rattle.btr_base.specs.declared.point.Point.{Point}
use Rattle.btr_base.specs.Bag.{within}
use Rattle.btr_base.specs.Range.{RangeValue}
use Rattle.btr_base.specs.Span.{SpanValue}
use Rattle.btr_tree.specs.EachHistory.{points_in}
use Rattle.btr_tree.specs.History.{Past, bag}

-- Those of the points of a span after a past that are in the range are appended to the rows.
abbrev pub AppendsRange : SpanValue → RangeValue → List Point → List Point → Past → Type 0
AppendsRange span range old new h = new ≡ old ++ within range.from range.to (points_in span (bag h))
