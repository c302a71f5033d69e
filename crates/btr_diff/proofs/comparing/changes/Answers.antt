use Rattle.std.proofs.Common.{◌∙◌}
use Rattle.std.proofs.lemmas.Result.{IfOk-weaker}
use Rattle.btr_base.specs.Changes.{changes as changes_of}
use Rattle.btr_base.proofs.ChangesLemmas.{changes-cut}
use Rattle.btr_base.proofs.CutLemmas.{union-zero}
use Rattle.btr_tree.specs.History.{bag}
use Rattle.btr_diff.proofs.comparing.changes.Goals as goal

pub returns-clause-runs : goal.returns-clause-runs
returns-clause-runs g c =
    IfOk-weaker c.changes_with_lead.result _ _ (λ r is h k old new version. is h k old new version ∙ union-zero (changes_of c.args.p (bag h) (bag k)) (changes-cut c.args.p (bag h) (bag k) c.requires)) c.changes_with_lead.ensures.runs
