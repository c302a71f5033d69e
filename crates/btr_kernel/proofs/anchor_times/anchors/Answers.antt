use Rattle.std.proofs.Common.{◌∙◌, ap}
use Rattle.std.specs.List.{filter}
use Rattle.btr_base.specs.Range.{covered}
use Rattle.btr_hist.specs.Kernel.{anchors}
use Rattle.btr_tree.specs.History.{bag}
use Rattle.btr_kernel.proofs.KernelPointLemmas.{anchors-of_covered}
use Rattle.btr_kernel.proofs.anchor_times.anchors.Goals as goal

pub returns : goal.returns
returns c h tree =
    let rs = c.args.ranges.now in
    c.in_ok-times.ensures
    ∙ ap (λ l. filter (covered rs) (anchors l)) (c.deref.ensures.value ∙ c.in_ok-points.ensures.points h tree)
    ∙ anchors-of_covered rs (bag h)
