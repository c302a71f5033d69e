use Rattle.std.proofs.Common.{◌≡◌, ◌-◌, ℤ, ◌<ℤ◌, List, ap, subst, arith, length, get_or}
use Rattle.std.proofs.lemmas.Int.{ints}
use Rattle.std.proofs.lemmas.List.Elements.{recursion_from_All}
use Rattle.btr_base.specs.Range.{RangeValue, IsRange, IsCut}
use Rattle.btr_base.proofs.RangeLemmas.{EndBefore, ends-rise, IsCut-push}
use Rattle.btr_base.proofs.ranges.is_after_last.Goals as goal

-- If the last range ends before the time, each does.
all_end : (rs : List RangeValue) (last : RangeValue) (t : ℤ) → IsCut rs → ((d : RangeValue) → last ≡ get_or rs (length rs - 1) d) → last.to <ℤ t → EndBefore t rs
all_end rs last t h is lt =
    recursion_from_All (λ r. r.to <ℤ t) rs (λ k d in_rs. let rise = ends-rise rs k (length rs - 1) d h (omega arith) (omega arith) in let same = ap (λ r. r.to) (is d) in omega (arith, ints, rise, same))

pub returns-in-Some : goal.returns-in-Some
returns-in-Some c lt =
    let ranges = c.args.ranges.now in
    let range = c.args.range.now in
    let last = c.in-Some.last.now in
    let ends : last.to <ℤ range.from = omega (arith, ints, ap (λ r. r.to) c.last-in-Some.view_is, ap (λ r. r.from) c.range.view_is) in
    IsCut-push ranges range c.requires (subst IsRange c.range.view_is c.range.invariant) (all_end ranges last range.from c.requires c.in-Some.ensures.item.3.1 ends)
