use Rattle.std.proofs.Common.{◌++◌, ◌||◌, sym, ◌∙◌}
use Rattle.btr_base.specs.Range.{IsRange, covered}
use Rattle.btr_base.proofs.ListLemmas.{each-append}
use Rattle.btr_base.proofs.RangeLemmas.{covered-append}
use Rattle.btr_base.proofs.CutLemmas.{union-is}
use Rattle.btr_base.proofs.ranges.Ranges.union.Goals as goal

pub returns-clause-ranges : goal.returns-clause-ranges
returns-clause-ranges c =
    let a = c.args.self.now in
    let b = c.args.other.now in
    let first = c.as_slice.ensures in
    let second = c.as_slice-2.ensures in
    union-is _ (a ++ b) c.as_slice-3.ensures.cut (each-append IsRange a b first.cut.each second.cut.each) (λ t. c.in_ok-all.ensures t ∙ (λ k. covered (first.ranges k) t || covered (second.ranges k) t) ∙ sym (covered-append a b t))
