use Rattle.std.proofs.Common.{pos, ◌-ℤ◌, ◌∙◌, ap, sym, subst}
use Rattle.btr_base.specs.Range.{RangeValue, IsRange}
use Rattle.btr_base.specs.Changes.{slot_around}
use Rattle.btr_hist.proofs.CellLemmas.{whole-is_range}
use Rattle.btr_cell.proofs.WholeLemmas.{from-is, to-is, last-is}
use Rattle.btr_cell.proofs.widening.whole.Goals as goal

range-is : (c : goal.After-last) → IsRange c.args.range
range-is c = subst IsRange c.range.view_is c.range.invariant

pub returns : goal.returns
returns c =
    let p = c.args.p in
    let is = range-is c in
    let old = ap (λ (r : RangeValue). r.from) c.range.view_is in
    let first = ap (λ (r : RangeValue). r.from) (c.first.view_is ∙ c.slot_around-first.ensures) in
    let last = ap (λ (r : RangeValue). r.to) (c.last.view_is ∙ c.slot_around-last.ensures) in
    let from = from-is _ c.first.invariant ∙ first ∙ ap (λ t. (slot_around p t).from) (from-is _ c.range.invariant ∙ old) in
    let to = to-is _ c.last.invariant ∙ last ∙ ap (λ t. (slot_around p t).to) (last-is _ c.range.invariant ∙ ap (λ (r : RangeValue). r.to -ℤ pos 1) c.range.view_is) in
    λ k. record { from = from k; to = to k }

pub invariant_of-result : goal.invariant_of-result
invariant_of-result c =
    subst IsRange (sym (returns c)) (whole-is_range c.args.p c.args.range c.requires (range-is c))
