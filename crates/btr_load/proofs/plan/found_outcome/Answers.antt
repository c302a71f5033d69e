use Rattle.std.proofs.Common.{◌∙◌, sym, ap}
use Rattle.std.specs.Option.{is_some, unwrap_or}
use Rattle.btr_hist.specs.History.{spec_of}
use Rattle.btr_load.specs.Loads.{IsCommittedTo, OutcomeOfFound}
use Rattle.btr_load.proofs.OpenLemmas.{output_found, plain_found, if_ok}
use Rattle.btr_load.proofs.plan.found_outcome.Goals as goal

pub returns-then-is_some-clause-planned : goal.returns-then-is_some-clause-planned
returns-then-is_some-clause-planned c = λ h of known.
    output_found h c.args.stream (spec_of h c.args.stream)
    (sym (ap is_some (c.spec.ensures h of)) ∙ sym c.is_some.ensures ∙ c.if-is_some.true)

pub returns-clause-planned : goal.returns-clause-planned
returns-clause-planned c = λ h of known.
    let stream = c.args.stream in
    if_ok c.blank_outcome.result (IsCommittedTo stream c.unwrap_or-latest.result) (OutcomeOfFound h stream (spec_of h stream))
    (λ outcome to. plain_found h stream c.unwrap_or-latest.result (spec_of h stream) outcome known
    (sym (ap is_some (c.spec.ensures h of)) ∙ sym c.is_some.ensures ∙ c.if-is_some.false)
    (c.unwrap_or-latest.ensures ∙ ap (λ o. unwrap_or o 0) (c.latest.ensures h of)) to)
    c.blank_outcome.ensures.planned
