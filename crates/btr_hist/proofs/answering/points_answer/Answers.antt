use Rattle.std.proofs.Common.{◌∙◌, ap, List}
use Rattle.btr_base.specs.declared.point.Point.{Point}
use Rattle.btr_base.specs.Bag.{within}
use Rattle.btr_hist.specs.declared.answer.Rows.TheVariants.{Points}
use Rattle.btr_hist.specs.Answer.{version_of, is_range}
use Rattle.btr_hist.proofs.Bounds.{within_as_words}
use Rattle.btr_hist.proofs.Found.{refused, found, range_as_words}
use Rattle.btr_hist.proofs.answering.points_answer.Goals as goal

pub returns-in-Err : goal.returns-in-Err
returns-in-Err c =
    let h = c.args.entries.now in
    refused h c.args.asked.stream (version_of h c.args.asked.stream c.args.asked.at) c.is_range.result (is_range c.args.from c.args.to) (λ (b : List Point). Points (within c.args.from c.args.to b)) c.in-Err.refusal
    (range_as_words c.args.from c.args.to c.is_range.result c.ranges.from c.ranges.to c.is_range.ensures) c.in-Err.ensures

pub returns : goal.returns
returns c =
    let h = c.args.entries.now in
    let points = c.in_ok-points.ensures.items ∙ within_as_words c.args.from c.args.to c.ranges.from c.ranges.to c.points_between.result.now c.as_slice.result.now c.points_between.ensures in
    found h c.args.asked.stream (version_of h c.args.asked.stream c.args.asked.at) c.is_range.result (is_range c.args.from c.args.to) (λ (b : List Point). Points (within c.args.from c.args.to b)) c.in-Ok.version (Points c.from_points.result)
    (range_as_words c.args.from c.args.to c.is_range.result c.ranges.from c.ranges.to c.is_range.ensures) c.in-Ok.ensures
    (ap Points (c.from_points.ensures ∙ points ∙ ap (within c.args.from c.args.to) (c.as_slice.ensures.points ∙ c.in_ok-bag.ensures)))
