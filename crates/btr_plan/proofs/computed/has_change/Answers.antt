-- The cuts are compared, and then the points.
use Rattle.std.proofs.Common.{◌∙◌}
use Rattle.std.proofs.lemmas.Slice.Eq.{slice_eq-Decides}
use Rattle.btr_base.specs.Commit.{Change}
use Rattle.btr_distil.specs.Plan.{change}
use Rattle.btr_plan.proofs.ComputedLemmas.{same-range, same-point, same-shown, same-by_points, same-by_cut}
use Rattle.btr_plan.proofs.computed.has_change.Goals as goal

pub returns-then-same_cut : goal.returns-then-same_cut
returns-then-same_cut c =
    let plan = c.args.plan.now in
    let given : Change = record { cut = c.args.cut.now; added = c.args.added.now } in
    let cuts = slice_eq-Decides same-range c.as_slice.result.now c.as_slice-2.result.now c.eq-same_cut.result c.eq-same_cut.ensures in
    let points = slice_eq-Decides same-point c.as_slice-3.result.now c.as_slice-4.result.now c.eq-same_points.result c.eq-same_points.ensures in
    same-by_points (change plan) given c.eq-same_cut.result c.eq-same_points.result
    (same-shown c.as_slice.result.now c.as_slice-2.result.now plan.cut given.cut c.eq-same_cut.result (c.as_slice.ensures.ranges ∙ c.cut.ensures) c.as_slice-2.ensures.ranges cuts)
    (same-shown c.as_slice-3.result.now c.as_slice-4.result.now plan.added given.added c.eq-same_points.result (c.as_slice-3.ensures.points ∙ c.added.ensures) c.as_slice-4.ensures.points points)
    c.if-same_cut.true

pub returns-else-same_cut : goal.returns-else-same_cut
returns-else-same_cut c =
    let plan = c.args.plan.now in
    let given : Change = record { cut = c.args.cut.now; added = c.args.added.now } in
    let cuts = slice_eq-Decides same-range c.as_slice.result.now c.as_slice-2.result.now c.eq-same_cut.result c.eq-same_cut.ensures in
    let points = slice_eq-Decides same-point c.as_slice-3.result.now c.as_slice-4.result.now c.eq-same_points.result c.eq-same_points.ensures in
    same-by_cut (change plan) given c.eq-same_cut.result c.eq-same_points.result
    (same-shown c.as_slice.result.now c.as_slice-2.result.now plan.cut given.cut c.eq-same_cut.result (c.as_slice.ensures.ranges ∙ c.cut.ensures) c.as_slice-2.ensures.ranges cuts)
    (same-shown c.as_slice-3.result.now c.as_slice-4.result.now plan.added given.added c.eq-same_points.result (c.as_slice-3.ensures.points ∙ c.added.ensures) c.as_slice-4.ensures.points points)
    c.if-same_cut.false
