use Rattle.std.proofs.Common.{ap}
use Rattle.btr_hist.specs.declared.answer.Answer.TheVariants.{Found}
use Rattle.btr_hist.specs.declared.answer.Rows.TheVariants as row
use Rattle.btr_open.proofs.shelf_rows.changes_at.Goals as goal

pub returns-in-Ok-clause-answer : goal.returns-in-Ok-clause-answer
returns-in-Ok-clause-answer g c o h k was is both =
    ap (λ x. Found c.args.new.version (row.Ranges x)) (c.in-Ok.ensures.runs o h k was is both)
