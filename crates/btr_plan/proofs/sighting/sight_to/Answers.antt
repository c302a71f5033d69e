-- An output has its latest version.
use Rattle.std.proofs.Common.{◌∙◌, sym}
use Rattle.std.proofs.lemmas.Option.{none-some}
use Rattle.btr_hist.specs.History.{latest}
use Rattle.btr_hist.proofs.VersionLemmas.{spec_of-known}
use Rattle.btr_plan.proofs.SightLemmas.{latest-there}
use Rattle.btr_plan.proofs.sighting.sight_to.Goals as goal

pub returns-in_err-version : goal.returns-in_err-version
returns-in_err-version c = λ h of takes.
    let stream = c.args.stream in
    let known = spec_of-known h stream c.in_ok-spec.spec (sym (c.in_ok-spec.ensures h of)) in
    absurd (none-some (latest h stream) (c.in_err-version.ensures h of ∙ latest-there h stream known))
