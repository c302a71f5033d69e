use Rattle.std.proofs.Common.{◌∙◌, ◌&&◌, ap, List, w64, to_z, of_z}
use Rattle.std.proofs.lemmas.Int.{to_z-of_z}
use Rattle.btr_base.specs.declared.point.Point.{Point}
use Rattle.btr_base.specs.Windows.{windows}
use Rattle.btr_hist.specs.declared.answer.Rows.TheVariants.{Cells}
use Rattle.btr_hist.specs.Answer.{version_of, is_range, is_width}
use Rattle.btr_hist.proofs.Found.{refused, found, tested_as_words}
use Rattle.btr_hist.proofs.answering.windows_answer.Goals as goal

pub returns-in-Err : goal.returns-in-Err
returns-in-Err c =
    let h = c.args.entries.now in
    refused h c.args.asked.stream (version_of h c.args.asked.stream c.args.asked.at) c.can_divide.result (is_range c.args.from c.args.to && is_width c.args.width) (λ (b : List Point). Cells (windows c.args.width c.args.from c.args.to b)) c.in-Err.refusal
    (tested_as_words c.args.from c.args.to c.can_divide.result (is_width c.args.width) c.ranges.from c.ranges.to c.can_divide.ensures) c.in-Err.ensures

pub returns : goal.returns
returns c =
    let h = c.args.entries.now in
    let from = to_z-of_z w64 c.args.from c.ranges.from in
    let to = to_z-of_z w64 c.args.to c.ranges.to in
    let b = c.as_slice.result.now in
    found h c.args.asked.stream (version_of h c.args.asked.stream c.args.asked.at) c.can_divide.result (is_range c.args.from c.args.to && is_width c.args.width) (λ (b : List Point). Cells (windows c.args.width c.args.from c.args.to b)) c.in-Ok.version (Cells c.from_cells.result)
    (tested_as_words c.args.from c.args.to c.can_divide.result (is_width c.args.width) c.ranges.from c.ranges.to c.can_divide.ensures) c.in-Ok.ensures
    (ap Cells (c.from_cells.ensures ∙ c.in_ok-cells.ensures
    ∙ ap (λ z. windows c.args.width z (to_z w64 (of_z w64 c.args.to)) b) from
    ∙ ap (λ z. windows c.args.width c.args.from z b) to
    ∙ ap (windows c.args.width c.args.from c.args.to) (c.as_slice.ensures.points ∙ c.in_ok-bag.ensures)))
