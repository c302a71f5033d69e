use Rattle.std.proofs.Common.{◌≡◌, ◌∙◌, ap, List, Bool, Option, true, refl}
use Rattle.btr_base.specs.declared.point.Point.{Point}
use Rattle.btr_base.specs.declared.limits.TheConstants.{FIRST, END}
use Rattle.btr_base.specs.Agg.{AggValue, agg, agg_within}
use Rattle.btr_hist.specs.declared.answer.Rows.TheVariants.{Info}
use Rattle.btr_hist.specs.declared.kernel.Reads.{Reads}
use Rattle.btr_hist.specs.History.{is_output, bag, read_by}
use Rattle.btr_hist.specs.Answer.{version_of}
use Rattle.btr_hist.proofs.Found.{refused, found}
use Rattle.btr_hist.proofs.answering.info_answer.Goals as goal

pub returns-in-Err : goal.returns-in-Err
returns-in-Err c =
    let h = c.args.entries.now in
    let v = version_of h c.args.asked.stream c.args.asked.at in
    refused h c.args.asked.stream v true true (λ (b : List Point). Info (is_output h c.args.asked.stream) (agg_within FIRST END b) (read_by h c.args.asked.stream v)) c.in-Err.refusal refl c.in-Err.ensures

same-rows : {o p : Bool} {a b : AggValue} {r q : Option Reads} → o ≡ p → a ≡ b → r ≡ q → Info o a r ≡ Info p b q
same-rows k l m = cc

pub returns : goal.returns
returns c =
    let h = c.args.entries.now in
    let s = c.args.asked.stream in
    let at = version_of h s c.args.asked.at in
    let total : c.of_points.result ≡ agg_within FIRST END (bag h s c.in-Ok.version) =
    c.of_points.ensures ∙ ap agg c.points_between.ensures ∙ ap (agg_within FIRST END) (c.as_slice.ensures.points ∙ c.in_ok-bag.ensures) in
    found h s at true true (λ (b : List Point). Info (is_output h s) (agg_within FIRST END b) (read_by h s at)) c.in-Ok.version (Info c.is_output.result c.of_points.result c.read_by.result) refl c.in-Ok.ensures
    (same-rows c.is_output.ensures total (c.read_by.ensures ∙ ap (read_by h s) c.in-Ok.ensures.0))
