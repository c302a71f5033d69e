use Rattle.std.proofs.Common.{◌≡◌, ◌<ℤ◌, ◌∙◌, ap, sym, subst, arith, get_or, drop, ◌+◌, int_le, rules, w64, to_z, of_z}
use Rattle.std.proofs.lemmas.List.{take_rest, get_or-drop, length-drop}
use Rattle.std.proofs.lemmas.List.Elements.{recursion_from_All}
use Rattle.std.specs.List.{AllByRecursion}
use Rattle.std.proofs.lemmas.List.Sorted.{IsPartitionPoint-from_clause}
use Rattle.std.proofs.lemmas.Int.{ints, to_z-of_z}
use Rattle.btr_base.specs.Range.{IsCut, covered}
use Rattle.btr_base.proofs.RangeLemmas.{covered-drop, IsCut-drop}
use Rattle.btr_base.proofs.Places.{le-true, le-false, ends-parted}
use Rattle.btr_base.proofs.ranges.ranges_from.Goals as goal

pub returns : goal.returns
returns c =
    let rs = c.args.ranges.now in
    let place = c.partition_point-place.result in
    let time = to_z w64 (of_z w64 c.args.from) in
    let same : time ≡ c.args.from = to_z-of_z w64 c.args.from c.ranges.from in
    let point = IsPartitionPoint-from_clause (λ s. int_le s.to time) rs place c.partition_point-place.ensures.partitioned (ends-parted rs time c.requires) (λ a q k e. search rules) in
    let whole = take_rest rs place in
    record {
      cut = subst IsCut (sym whole) (IsCut-drop place rs c.requires);
      behind = subst (AllByRecursion (λ r. c.args.from <ℤ r.to)) (sym whole) (recursion_from_All (λ r. c.args.from <ℤ r.to) (drop place rs) (λ k d lt. let ends = le-false (get_or (drop place rs) k d).to time (ap (λ r. int_le r.to time) (get_or-drop place rs k d) ∙ point.1 (place + k) d (omega arith) (omega (arith, length-drop place rs))) in omega (arith, ints)));
      times = λ t late. ap (λ s. covered s t) whole ∙ covered-drop place rs t (λ k d h. let ended = le-true (get_or rs k d).to time (point.0 k d (omega arith) h) in omega (arith, ints));
    }
