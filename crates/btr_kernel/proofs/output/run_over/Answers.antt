use Rattle.std.proofs.Common.{◌∙◌, sym, ap, subst}
use Rattle.std.specs.List.{filter, AllByRecursion}
use Rattle.btr_base.specs.Range.{covered}
use Rattle.btr_hist.specs.Kernel.{anchors}
use Rattle.btr_hist.specs.Distil.{Inputs, value_of, points_from}
use Rattle.btr_tree.specs.History.{bag}
use Rattle.btr_kernel.specs.Swept.{IsAnchor}
use Rattle.btr_kernel.specs.Sources.{second_past_points}
use Rattle.btr_kernel.proofs.KernelPointLemmas.{anchors-each, enough-earlier, kernel-part}
use Rattle.btr_kernel.proofs.SourceLemmas.{second-in_domain}
use Rattle.btr_kernel.proofs.output.run_over.Goals as goal

pub swept-requires-clause-anchors : goal.swept-requires-clause-anchors
swept-requires-clause-anchors c =
    let rs = c.args.ranges.now in
    let b = c.in_ok-points.points.items in
    let times = c.deref-2.ensures.value ∙ c.in_ok-times.ensures ∙ ap (λ l. filter (covered rs) (anchors l)) c.deref.ensures.value in
    subst (λ l. AllByRecursion (IsAnchor l) c.deref-2.result.now) (sym c.deref-3.ensures.value) (subst (AllByRecursion (IsAnchor b)) (sym times) (anchors-each rs b c.in_ok-points.ensures.domain))

pub returns : goal.returns
returns c h k tree second =
    let spec = c.args.spec.now in
    let rs = c.args.ranges.now in
    let i : Inputs = record { first = bag h; second = second_past_points k } in
    let j : Inputs = record { first = c.deref-3.result.now; second = c.deref-4.result.now } in
    let times = c.deref-2.ensures.value ∙ c.in_ok-times.ensures ∙ ap (λ l. filter (covered rs) (anchors l)) (c.deref.ensures.value ∙ sym c.deref-3.ensures.value) in
    c.in_ok-made.ensures
    ∙ ap (points_from (value_of spec j)) times
    ∙ kernel-part spec rs c.in_ok-past.past i j (enough-earlier spec.lead rs c.in_ok-past.past c.in_ok-past.ensures) tree.times (second-in_domain k _ second) (c.deref-3.ensures.value ∙ c.in_ok-points.ensures.points h tree) (c.deref-4.ensures.value ∙ c.in_ok-others.ensures.points k second)
