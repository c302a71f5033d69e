-- What the private functions promise: the pieces of an entry's bytes that decoding takes one after another.
use Rattle.std.specs.Prelude.{◌≡◌, ℕ, ◌*◌, ◌≤◌, List, [], ◌++◌, length}
use Rattle.std.specs.Int.{w64}
use Rattle.std.specs.Int.RustNames.{FitsSigned}
use Rattle.btr_base.specs.declared.point.Point.{Point}
use Rattle.btr_base.specs.Point.{AreInDomain}
use Rattle.btr_base.specs.Range.{RangeValue, IsCut}
use Rattle.btr_base.specs.Bag.{IsInOrder}
use Rattle.btr_entry.specs.Grammar.{number, range, point, listed, ValuesFit}

-- The bytes are a count, at most `limit`, then `items` with sixteen bytes for each item, then `rest`.
pub record IsItems (limit : ℕ) (bytes items rest : List ℕ) : Type 0 where
  pub count : ℕ
  pub bounded : count ≤ limit
  pub long : length items ≡ 16 * count
  pub parts : bytes ≡ number w64 count ++ (items ++ rest)

-- The bytes are those of ranges and of points, each with its count, and nothing follows.
pub record AreLists (max_ranges max_points : ℕ) (bytes ranges points : List ℕ) : Type 0 where
  pub after_ranges : List ℕ
  pub ranges_are : IsItems max_ranges bytes ranges after_ranges
  pub points_are : IsItems max_points after_ranges points []

-- Both numbers of a point fit in eight bytes.
pub record PointFits (p : Point) : Type 0 where
  pub time : FitsSigned w64 p.time
  pub value : FitsSigned w64 p.value

-- Points that a commit can add.
pub record AreAddable (added : List Point) : Type 0 where
  pub in_order : IsInOrder added
  pub in_domain : AreInDomain added
  pub values_fit : ValuesFit added

-- The bytes are those of what a commit removes and adds, with not more of each than the limits, and nothing follows.
pub record IsChange (max_ranges max_points : ℕ) (bytes : List ℕ) (cut : List RangeValue) (added : List Point) : Type 0 where
  pub is_cut : IsCut cut
  pub is_added : AreAddable added
  pub few_ranges : length cut ≤ max_ranges
  pub few_points : length added ≤ max_points
  pub bytes_are : bytes ≡ listed range cut ++ listed point added
