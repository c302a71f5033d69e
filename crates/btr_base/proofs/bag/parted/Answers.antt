use Rattle.std.specs.List.{filter}
use Rattle.std.proofs.Common.{◌≡◌, true, not, ℤ, ◌≤ℤ◌, List, ◌++◌, ◌∙◌, ap, subst, arith, get_or, take, drop, int_lt, rules, w64, to_z, of_z}
use Rattle.std.specs.List.Sorted.{IsPartitionedBy}
use Rattle.std.proofs.lemmas.List.{take_rest, take-append-drop}
use Rattle.std.proofs.lemmas.List.Sorted.{IsPartitionPoint-from_clause}
use Rattle.std.proofs.lemmas.Int.{ints, to_z-of_z}
use Rattle.btr_base.specs.declared.point.Point.{Point}
use Rattle.btr_base.specs.Bag.{IsInOrder}
use Rattle.btr_base.proofs.PointLemmas.{times-rise}
use Rattle.btr_base.proofs.ListLemmas.{parted-take, parted-drop}
use Rattle.btr_base.proofs.bag.parted.Goals as goal

true-lt : (x y z : ℤ) → x ≤ℤ y → int_lt y z ≡ true → int_lt x z ≡ true
true-lt x y z h k = grind (arith, ints)

times-parted : (b : List Point) (t : ℤ) → IsInOrder b → IsPartitionedBy (λ p. int_lt p.time t) b
times-parted b t order i j d le lt h =
    true-lt (get_or b i d).time (get_or b j d).time t (times-rise b i j d order le lt) h

pub returns : goal.returns
returns c =
    let b = c.args.points.now in
    let place = c.partition_point-place.result in
    let time = to_z w64 (of_z w64 c.args.time) in
    let same : time ≡ c.args.time = to_z-of_z w64 c.args.time c.ranges.time in
    let point = IsPartitionPoint-from_clause (λ p. int_lt p.time time) b place c.partition_point-place.ensures.partitioned (times-parted b time c.requires) (λ a q k e. search rules) in
    let whole = take_rest b place in
    record {
      before = subst (λ t. take place b ≡ filter (λ p. int_lt p.time t) b) same (parted-take (λ p. int_lt p.time time) place b (λ j d lt _. point.0 j d (omega arith) lt) (λ j d le lt. point.1 j d le lt));
      from = whole ∙ subst (λ t. drop place b ≡ filter (λ p. not (int_lt p.time t)) b) same (parted-drop (λ p. int_lt p.time time) place b (λ j d lt _. point.0 j d (omega arith) lt) (λ j d le lt. point.1 j d le lt));
      all = ap (λ x. take place b ++ x) whole ∙ take-append-drop place b;
    }
