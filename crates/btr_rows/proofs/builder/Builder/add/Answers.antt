use Rattle.std.proofs.Common.{ap, ◌∙◌}
use Rattle.std.specs.List.{enumerate_from}
use Rattle.btr_rows.specs.Rows.{good_rows}
use Rattle.btr_rows.proofs.BuilderLemmas.{grown, grown-ok, grown-err}
use Rattle.btr_rows.proofs.builder.Builder.add.Goals as goal

pub returns-in-Ok-clause-row : goal.returns-in-Ok-clause-row
returns-in-Ok-clause-row c = λ rows same.
    let was = c.self.view_is ∙ same in
    rw c.in-Ok.is (grown-ok rows c.in-Ok.row (grown c.self.inside.streams c.self.inside.refused.items c.self.inside.count) c.add.new.self c.add.result was
    (c.add.ensures (good_rows (enumerate_from 1 rows)) (ap (λ v. v.list.streams) was)))

pub returns-in_ok-push-in-Err-clause-row : goal.returns-in_ok-push-in-Err-clause-row
returns-in_ok-push-in-Err-clause-row c = λ rows same.
    rw c.in-Err.is (grown-err rows c.in-Err.reason (grown c.self.inside.streams c.self.inside.refused.items c.self.inside.count) c.push.new.self.items (c.self.view_is ∙ same)
    c.in_ok-push-in-Err.ensures.items)
