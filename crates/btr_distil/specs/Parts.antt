-- The parts of a cut, of which each is computed by itself.
use Rattle.std.specs.Prelude.{◌≡◌, List}
use Rattle.std.specs.List.{filter, flat_map}
use Rattle.btr_base.specs.declared.point.Point.{Point}
use Rattle.btr_base.specs.Range.{RangeValue, covered}
use Rattle.btr_base.specs.Bag.{IsInOrder}

-- The points in one part after the other are those in the cut, in order, whatever the points are.
abbrev pub ArePartsOf : List RangeValue → List (List RangeValue) → Type 0
ArePartsOf cut parts =
    (b : List Point) → IsInOrder b → flat_map (λ r. filter (λ p. covered r p.time) b) parts ≡ filter (λ p. covered cut p.time) b
