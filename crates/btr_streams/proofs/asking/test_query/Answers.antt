use Rattle.std.proofs.Common.{◌≡◌, sym, ap, ◌∙◌, to_z, of_z, w64}
use Rattle.std.proofs.lemmas.Int.{to_z-of_z}
use Rattle.btr_hist.specs.declared.query.Query.TheVariants as ask
use Rattle.btr_hist.specs.Answer.{answer}
use Rattle.btr_streams.proofs.asking.test_query.Goals as goal

pub returns-in-Aligned-clause-tested : goal.returns-in-Aligned-clause-tested
returns-in-Aligned-clause-tested g c h of =
    let q = c.in-Aligned in
    let from : to_z w64 (of_z w64 q.from) ≡ q.from = search (to_z-of_z) in
    let to : to_z w64 (of_z w64 q.to) ≡ q.to = search (to_z-of_z) in
    c.test_aligned.ensures.tested h of
    ∙ ap (λ f. answer h (ask.Aligned q.stream f (to_z w64 (of_z w64 q.to)) q.p q.at)) from
    ∙ ap (λ t. answer h (ask.Aligned q.stream q.from t q.p q.at)) to
    ∙ sym (ap (answer h) q.is)
