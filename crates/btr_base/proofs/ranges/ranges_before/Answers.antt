use Rattle.std.proofs.Common.{◌≡◌, ◌<ℤ◌, ◌∙◌, ap, arith, get_or, take, int_lt, rules, w64, to_z, of_z}
use Rattle.std.proofs.lemmas.List.{get_or-take, length-take}
use Rattle.std.proofs.lemmas.List.Elements.{recursion_from_All}
use Rattle.std.proofs.lemmas.List.Sorted.{IsPartitionPoint-from_clause}
use Rattle.std.proofs.lemmas.Int.{ints, to_z-of_z}
use Rattle.btr_base.proofs.RangeLemmas.{covered-take, IsCut-take}
use Rattle.btr_base.proofs.Places.{lt-true, lt-false, begins-parted}
use Rattle.btr_base.proofs.ranges.ranges_before.Goals as goal

pub returns : goal.returns
returns c =
    let rs = c.args.ranges.now in
    let place = c.partition_point-place.result in
    let time = to_z w64 (of_z w64 c.args.to) in
    let same : time ≡ c.args.to = to_z-of_z w64 c.args.to c.ranges.to in
    let point = IsPartitionPoint-from_clause (λ s. int_lt s.from time) rs place c.partition_point-place.ensures.partitioned (begins-parted rs time c.requires) (λ a q k e. search rules) in
    record {
      cut = IsCut-take place rs c.requires;
      before = recursion_from_All (λ r. r.from <ℤ c.args.to) (take place rs) (λ k d lt. let begun = lt-true (get_or (take place rs) k d).from time (ap (λ r. int_lt r.from time) (get_or-take place rs k d (omega (arith, length-take place rs))) ∙ point.0 k d (omega arith) (omega (arith, length-take place rs))) in omega (arith, ints));
      times = λ t early. covered-take place rs t (λ k d le lt. let begun = lt-false (get_or rs k d).from time (point.1 k d le lt) in omega (arith, ints));
    }
