use Rattle.std.proofs.Common.{◌≡◌, ◌∙◌, ap, arith}
use Rattle.std.specs.Option.{unwrap_or}
use Rattle.btr_hist.specs.History.{latest}
use Rattle.btr_hall.proofs.LandLemmas.{latest_or_none}
use Rattle.btr_hall.proofs.store.Store.superseded.Goals as goal

pub returns-else-version-base : goal.returns-else-version-base
returns-else-version-base g c = λ runs unsealed h of.
    let version : c.unwrap_or-version.result ≡ latest h c.stream.result =
    c.unwrap_or-version.ensures ∙ ap (λ o. unwrap_or o 0) (c.latest.ensures h of) ∙ latest_or_none h c.stream.result of.follows in
    let stream = ap (latest h) c.stream.ensures in
    omega (arith, version, stream, c.if-version-base.false, c.base.ensures)
