use Rattle.std.proofs.Common.{ap, ◌∙◌}
use Rattle.btr_hist.specs.declared.answer.Answer.TheVariants.{Found}
use Rattle.btr_hist.specs.declared.answer.Rows.TheVariants as row
use Rattle.btr_open.proofs.shelf_rows.points_at.Goals as goal

pub returns-in-Ok-clause-answer : goal.returns-in-Ok-clause-answer
returns-in-Ok-clause-answer g c o h is = ap (λ x. Found c.args.root.version (row.Points x)) (c.from_points.ensures ∙ c.in-Ok.ensures.rows o h is)
