use Rattle.std.specs.Prelude.{ℕ, ◌≤◌}
use Rattle.std.proofs.Common.{sym, ap, ◌∙◌, arith}
use Rattle.btr_hist.specs.declared.answer.Answer.TheVariants.{Refused}
use Rattle.btr_hist.specs.declared.answer.Refusal.TheVariants.{Retired}
use Rattle.btr_hist.specs.History.{latest, earliest}
use Rattle.btr_hist.specs.Answer.{version_of}
use Rattle.btr_streams.proofs.Questions.{answer-retired}
use Rattle.btr_streams.proofs.asking.version_asked.Goals as goal

pub returns-in-Err-clause-refused : goal.returns-in-Err-clause-refused
returns-in-Err-clause-refused g c h of good rows =
    c.in-Err.ensures.refused h of (version_of h c.args.asked.stream c.args.asked.at) good rows

pub returns-in-Some-clause-refused : goal.returns-in-Some-clause-refused
returns-in-Some-clause-refused g c h of good rows =
    let s = c.args.asked.stream in
    let asked = version_of h s c.args.asked.at in
    let there = c.in-Ok.ensures.there h of in
    let retired = c.in-Some.ensures h of there.known in
    let late = retired.0 in
    let made : asked ≤ latest h s = omega (arith, there.made, there.same) in
    ap Refused (retired.1 ∙ ap (λ (n : ℕ). Retired n (earliest h s)) there.same)
    ∙ sym (answer-retired h s asked asked there.known made (omega (arith, late, there.same)) good rows)

pub returns-in-None-clause-there : goal.returns-in-None-clause-there
returns-in-None-clause-there g c h of =
    let there = c.in-Ok.ensures.there h of in
    record { has = there; present = c.in-None.ensures h of there.known }
