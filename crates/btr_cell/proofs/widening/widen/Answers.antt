use Rattle.std.proofs.Common.{◌∙◌, ap, arith, map}
use Rattle.std.proofs.lemmas.List.{take_all}
use Rattle.btr_base.specs.Range.{covered}
use Rattle.btr_hist.specs.Distil.{whole}
use Rattle.btr_cell.proofs.WholeLemmas.{whole-all}
use Rattle.btr_cell.proofs.widening.widen.Goals as goal

pub returns : goal.returns
returns c =
    let p = c.args.p in
    let rs = c.as_slice-range-items.result.now in
    let ranges = c.as_slice-range-items.ensures.ranges in
    let all = take_all c.loop-range.range-index rs (omega arith) ∙ ranges in
    whole-all p c.args.ranges.now c.loop-range.all c.requires c.as_slice-range-items.ensures.cut c.as_slice.ensures.cut (λ t. c.loop-range.invariant t ∙ ap (λ l. covered (map (whole p) l) t) all)
