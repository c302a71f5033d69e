use Rattle.std.proofs.Common.{◌≡◌, ◌≤ℤ◌, ◌+◌, ◌-◌, length, ap, subst, sym, ◌∙◌, arith, vec_len, slice_set}
use Rattle.std.proofs.lemmas.Int.{ints}
use Rattle.btr_base.specs.Range.{IsCut, covered}
use Rattle.btr_base.proofs.Last.{set_last-cut, set_last-times}
use Rattle.btr_base.proofs.ranges.joins_last.Goals as goal

pub returns-then-range-last-clause-cut : goal.returns-then-range-last-clause-cut
returns-then-range-last-clause-cut c =
    let items = c.args.ranges.now.items in
    let n = vec_len c.args.ranges.now - 1 in
    let last = c.in-Some.last.now in
    let range = c.args.range.now in
    let some = c.in-Some.ensures.item.3.0 in
    let is_last : n + 1 ≡ length items = omega arith in
    let later : last.from ≤ℤ range.from = omega (arith, ints, ap (λ r. r.from) c.last.view_is, ap (λ r. r.from) c.range.view_is) in
    subst (λ u. IsCut (slice_set items n u)) (sym c.last-then-range-last.view_is) (set_last-cut items n is_last last c.union.result range c.in-Some.ensures.item.1 c.requires c.union.ensures.times c.union.ensures.range later)

pub returns-then-range-last-clause-times : goal.returns-then-range-last-clause-times
returns-then-range-last-clause-times c _ t =
    let items = c.args.ranges.now.items in
    let n = vec_len c.args.ranges.now - 1 in
    let last = c.in-Some.last.now in
    let range = c.args.range.now in
    let some = c.in-Some.ensures.item.3.0 in
    let is_last : n + 1 ≡ length items = omega arith in
    ap (λ u. covered (slice_set items n u) t) c.last-then-range-last.view_is ∙ set_last-times items n is_last last c.union.result range c.in-Some.ensures.item.1 c.requires c.union.ensures.times t
