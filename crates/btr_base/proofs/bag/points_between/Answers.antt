use Rattle.std.specs.List.{filter}
use Rattle.std.proofs.Common.{◌≡◌, not, ◌&&◌, int_le, int_lt, ℤ, List, ◌∙◌, ap, arith, subst, sym, w64, to_z, of_z}
use Rattle.std.proofs.lemmas.Int.{ints, to_z-of_z}
use Rattle.btr_base.specs.declared.point.Point.{Point}
use Rattle.btr_base.specs.Bag.{IsInOrder, within, is_within}
use Rattle.btr_base.proofs.ListLemmas.{filter-filter, filter-same}
use Rattle.btr_base.proofs.PointLemmas.{filter-in_order}
use Rattle.btr_base.proofs.bag.points_between.Goals as goal

between : (from to t : ℤ) → (int_lt t to && not (int_lt t from)) ≡ (int_le from t && int_lt t to)
between from to t = grind (arith, ints)

-- Of the points before the one time, those that are not before the other.
both : (from to : ℤ) (a b ps : List Point) → a ≡ filter (λ p. int_lt p.time to) ps → b ≡ filter (λ p. not (int_lt p.time from)) a → b ≡ within from to ps
both from to a b ps e f =
    f
    ∙ ap (filter (λ p. not (int_lt p.time from))) e
    ∙ filter-filter (λ p. not (int_lt p.time from)) (λ p. int_lt p.time to) ps
    ∙ filter-same (λ p. int_lt p.time to && not (int_lt p.time from)) (is_within from to) ps (λ p. between from to p.time)

pub returns : goal.returns
returns c =
    let early : c.parted.result.0.now ≡ filter (λ p. int_lt p.time (to_z w64 (of_z w64 c.args.to))) c.args.points.now = c.parted.ensures.before in
    let late : c.parted-2.result.1.now ≡ filter (λ p. not (int_lt p.time (to_z w64 (of_z w64 c.args.from)))) c.parted.result.0.now = c.parted-2.ensures.from in
    let from = to_z-of_z w64 c.args.from c.ranges.from in
    let to = to_z-of_z w64 c.args.to c.ranges.to in
    both c.args.from c.args.to c.parted.result.0.now c.parted-2.result.1.now c.args.points.now
    (subst (λ t. c.parted.result.0.now ≡ filter (λ p. int_lt p.time t) c.args.points.now) to early)
    (subst (λ t. c.parted-2.result.1.now ≡ filter (λ p. not (int_lt p.time t)) c.parted.result.0.now) from late)

pub parted-requires-2 : goal.parted-requires-2
parted-requires-2 c =
    let early : c.parted.result.0.now ≡ filter (λ p. int_lt p.time (to_z w64 (of_z w64 c.args.to))) c.args.points.now = c.parted.ensures.before in
    subst IsInOrder (sym early) (filter-in_order (λ p. int_lt p.time (to_z w64 (of_z w64 c.args.to))) c.args.points.now c.requires)
