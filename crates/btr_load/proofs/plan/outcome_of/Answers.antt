use Rattle.std.proofs.Common.{◌≡◌, ◌∙◌, sym, ap, subst, Some, IfOk}
use Rattle.btr_engine.proofs.EngineLemmas.{known_below}
use Rattle.btr_hist.specs.History.{stream_of}
use Rattle.btr_load.specs.Plan.{IsPlanned}
use Rattle.btr_load.proofs.plan.outcome_of.Goals as goal

pub returns-in-Some-clause-planned : goal.returns-in-Some-clause-planned
returns-in-Some-clause-planned c = λ h of.
    let is : stream_of h c.args.rows.now.id ≡ Some c.in-Some.stream = sym (c.in-Some.ensures h of ∙ ap (stream_of h) c.id.ensures) in
    subst (λ o. IfOk c.found_outcome.result (IsPlanned h o)) (sym is)
    (c.found_outcome.ensures.planned h of (known_below h c.args.rows.now.id c.in-Some.stream is))
