use Rattle.std.proofs.Common.{◌≡◌, ◌∙◌, ap, arith, int_le, rules, w64, to_z, of_z}
use Rattle.std.proofs.lemmas.List.Sorted.{IsPartitionPoint-from_clause}
use Rattle.std.proofs.lemmas.Int.{to_z-of_z}
use Rattle.btr_base.specs.Range.{covered}
use Rattle.btr_base.proofs.RangeLemmas.{covered-drop}
use Rattle.btr_base.proofs.Places.{le-true, le-false, ends-parted}
use Rattle.btr_base.proofs.ranges.is_covered.Goals as goal

pub has_begun-requires-clause-ahead : goal.has_begun-requires-clause-ahead
has_begun-requires-clause-ahead c r h =
    let time = to_z w64 (of_z w64 c.args.t) in
    let point = IsPartitionPoint-from_clause (λ s. int_le s.to time) c.args.ranges.now c.partition_point-place.result c.partition_point-place.ensures.partitioned (ends-parted c.args.ranges.now time c.requires) (λ a q k e. search rules) in
    le-false _ _ (point.1 c.partition_point-place.result r (omega arith) h)

pub returns : goal.returns
returns c =
    let time = to_z w64 (of_z w64 c.args.t) in
    let point = IsPartitionPoint-from_clause (λ s. int_le s.to time) c.args.ranges.now c.partition_point-place.result c.partition_point-place.ensures.partitioned (ends-parted c.args.ranges.now time c.requires) (λ a q k e. search rules) in
    let same : time ≡ c.args.t = to_z-of_z w64 c.args.t c.ranges.t in
    c.has_begun.ensures ∙ covered-drop c.partition_point-place.result c.args.ranges.now time (λ k d h. le-true _ _ (point.0 k d (omega arith) h)) ∙ ap (covered c.args.ranges.now) same
