use Rattle.std.proofs.Common.{◌≡◌, ◌+◌, [], ◌∷◌, ◌++◌, ◌∙◌, sym, ap, subst, arith, take}
use Rattle.std.specs.List.{filter}
use Rattle.std.proofs.lemmas.List.{take_more}
use Rattle.btr_base.specs.declared.point.Point.{Point}
use Rattle.btr_base.specs.Range.{RangeValue, IsCut, covered}
use Rattle.btr_base.specs.Bag.{within}
use Rattle.btr_base.proofs.RangeLemmas.{IsCut-take}
use Rattle.btr_tree.specs.History.{bag}
use Rattle.btr_tree.proofs.VersionLemmas.{bag-in_order}
use Rattle.btr_hist.specs.Kernel.{WindowKernel}
use Rattle.btr_hist.specs.Distil.{cell_points}
use Rattle.btr_hist.proofs.KernelLemmas.{rise-in_order}
use Rattle.btr_hist.proofs.CellLemmas.{cells-times}
use Rattle.btr_kernel.proofs.GatherLemmas.{gather-none, gather-more}
use Rattle.btr_distil.proofs.cells.cells_over.Goals as goal

pub loop-range-init : goal.loop-range-init
loop-range-init c h tree =
    c.new-points.ensures.items ∙ sym (gather-none (cell_points (record { which = c.args.which; p = c.args.p }) (bag h)))

pub loop-range-preserved : goal.loop-range-preserved
loop-range-preserved c h tree =
    let rs = c.as_slice-range-items.result.now in
    let i = c.loop-range.range-index in
    let r : RangeValue = c.range-item.result in
    let kernel : WindowKernel = record { which = c.args.which; p = c.args.p } in
    let b = cell_points kernel (bag h) in
    let order = rise-in_order b (cells-times kernel (bag h) (bag-in_order h) tree.times) in
    let more : take (i + 1) rs ≡ take i rs ++ r ∷ [] = take_more rs i r (omega arith) ∙ ap (λ x. take i rs ++ x ∷ []) (sym c.range-item.is) in
    let cut = subst IsCut (sym c.as_slice-range-items.ensures.ranges) c.as_slice-range-items.ensures.cut in
    let prefix = subst IsCut more (IsCut-take (i + 1) rs cut) in
    c.in_ok-add_range.ensures h tree
    ∙ ap (λ x. x ++ within r.from r.to b) (c.loop-range.invariant h tree)
    ∙ sym (gather-more b (take i rs) r order prefix)
    ∙ ap (λ l. filter (λ (p : Point). covered l p.time) b) (sym more)
