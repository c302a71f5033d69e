use Rattle.std.proofs.Common.{◌∙◌, ap, List, true, refl, w64}
use Rattle.std.proofs.lemmas.Int.{to_z-of_z}
use Rattle.btr_base.specs.declared.point.Point.{Point}
use Rattle.btr_base.specs.Nearest.{nearest}
use Rattle.btr_hist.specs.declared.answer.Rows.TheVariants.{Points}
use Rattle.btr_hist.specs.Answer.{version_of, list_of}
use Rattle.btr_hist.proofs.Found.{refused, found}
use Rattle.btr_hist.proofs.answering.nearest_answer.Goals as goal

pub returns-in-Err : goal.returns-in-Err
returns-in-Err c =
    let h = c.args.entries.now in
    refused h c.args.asked.stream (version_of h c.args.asked.stream c.args.asked.at) true true (λ (b : List Point). Points (list_of (nearest c.args.toward c.args.time b))) c.in-Err.refusal refl c.in-Err.ensures

pub returns : goal.returns
returns c =
    let h = c.args.entries.now in
    let time = to_z-of_z w64 c.args.time c.ranges.time in
    found h c.args.asked.stream (version_of h c.args.asked.stream c.args.asked.at) true true (λ (b : List Point). Points (list_of (nearest c.args.toward c.args.time b))) c.in-Ok.version (Points c.from_points.result) refl c.in-Ok.ensures
    (ap Points (c.from_points.ensures ∙ c.in_ok-points.ensures
    ∙ ap list_of (c.nearest_point.ensures ∙ ap (λ z. nearest c.args.toward z c.as_slice.result.now) time ∙ ap (nearest c.args.toward c.args.time) (c.as_slice.ensures.points ∙ c.in_ok-bag.ensures))))
