use Rattle.std.proofs.Common.{◌≡◌, ◌+◌, [], ◌∷◌, ◌++◌, ◌∙◌, sym, ap, subst, arith, take, w64, to_z, of_z}
use Rattle.std.proofs.lemmas.List.{take_more}
use Rattle.btr_base.specs.Range.{RangeValue}
use Rattle.btr_distil.proofs.PartLemmas.{between-more, IsBetween}
use Rattle.btr_distil.proofs.parts.between.Goals as goal

pub loop-range-preserved : goal.loop-range-preserved
loop-range-preserved c =
    let rs = c.as_slice-range-items.result.now in
    let i = c.loop-range.range-index in
    let from = to_z w64 (of_z w64 c.args.from) in
    let to = to_z w64 (of_z w64 c.args.to) in
    let r : RangeValue = c.range-item.result in
    let more : take (i + 1) rs ≡ take i rs ++ r ∷ [] = take_more rs i r (omega arith) ∙ ap (λ x. take i rs ++ x ∷ []) (sym c.range-item.is) in
    subst (λ l. IsBetween l from to c.add_between.new.kept) (sym more) (between-more (take i rs) r c.loop-range.kept c.add_between.new.kept from to c.loop-range.invariant c.in_ok-add_between.ensures)
