-- The session is alone, so a store that is empty when it is looked at is so when it is filled. What is said is what was done.
use Rattle.std.proofs.Common.{◌≡◌, ◌≤◌, [], ◌∷◌, length, inl, inr, arith}
use Rattle.btr_load.proofs.LoadLemmas.{look_alone}
use Rattle.btr_store.proofs.SampleLemmas.{fills_said, fills_none, sampled_none, sampled_used, sampled_empty}
use Rattle.btr_store.specs.declared.report_line.ReportLine.TheVariants as lines
use Rattle.btr_store.specs.Transcript.{SaysLines}
use Rattle.btr_store.specs.SampleLines.{SaysSomeFilled}
use Rattle.btr_store.specs.Sample.{SaysSomeSample}
use Rattle.btr_store.proofs.TranscriptLemmas.{if_ok}
use Rattle.btr_store.proofs.sample.sample.Goals as goal

pub returns-in_err-filled-in-0-clause-does : goal.returns-in_err-filled-in-0-clause-does
returns-in_err-filled-in-0-clause-does g c =
    let p = c.args.parameters in
    let hall = c.args.hall.now in
    let old = c.args.session.now in
    let mid = c.admit.new.self in
    let new = c.fill.new.session in
    let entries = c.entries.result in
    let reported = c.from_residual-in_err-filled-in-0.result in
    sampled_empty p.number p.streams p.points hall old mid new entries reported c.in-0.is c.in_err-filled-in-0.ensures.at
    (look_alone hall old mid c.in_ok-snapshot.ensures.looks c.requires.alone (λ h. entries ≡ length h) (λ h of. c.entries.ensures _ (c.in_ok-snapshot.ensures.snapshot h of)))
    (fills_none p.number p.streams p.points hall mid new c.in_err-filled-in-0.field-0.0 reported c.from_residual-in_err-filled-in-0.ensures.0 c.in_err-filled-in-0.ensures.does)

pub returns-in-0-clause-does : goal.returns-in-0-clause-does
returns-in-0-clause-does g c =
    let p = c.args.parameters in
    let hall = c.args.hall.now in
    let old = c.args.session.now in
    let mid = c.admit.new.self in
    let new = c.say_filled.new.session in
    let entries = c.entries.result in
    let said = c.say_filled.result in
    sampled_empty p.number p.streams p.points hall old mid new entries said c.in-0.is c.say_filled.ensures.at
    (look_alone hall old mid c.in_ok-snapshot.ensures.looks c.requires.alone (λ h. entries ≡ length h) (λ h of. c.entries.ensures _ (c.in_ok-snapshot.ensures.snapshot h of)))
    (fills_said p.number p.streams p.points hall mid c.fill.new.session new c.in_ok-filled-in-0.filled said c.in_ok-filled-in-0.ensures.does c.say_filled.ensures.stays c.say_filled.ensures.says)

pub returns-in_err-snapshot-clause-does : goal.returns-in_err-snapshot-clause-does
returns-in_err-snapshot-clause-does g c =
    let p = c.args.parameters in
    sampled_none p.number p.streams p.points c.args.hall.now c.args.session.now c.admit.new.self c.from_residual.result c.from_residual.ensures.0
    (look_alone c.args.hall.now c.args.session.now c.admit.new.self c.in_err-snapshot.ensures.looks c.requires.alone (λ h. Unit {0}) (λ h of. tt))

pub returns-clause-does : goal.returns-clause-does
returns-clause-does g c =
    let p = c.args.parameters in
    let hall = c.args.hall.now in
    let old = c.args.session.now in
    let new = c.admit.new.self in
    let entries = c.entries.result in
    let some : 1 ≤ entries = omega (arith, c.in_default) in
    sampled_used p.number p.streams p.points hall old new entries c.used_line.result some c.used_line.ensures
    (look_alone hall old new c.in_ok-snapshot.ensures.looks c.requires.alone (λ h. entries ≡ length h) (λ h of. c.entries.ensures _ (c.in_ok-snapshot.ensures.snapshot h of)))

pub returns-in-0-clause-says : goal.returns-in-0-clause-says
returns-in-0-clause-says g c =
    let filled = c.in_ok-filled-in-0.filled in
    if_ok c.say_filled.result (SaysSomeFilled filled) (SaysSomeSample c.args.parameters.streams) (λ t says. inr (filled, c.in_ok-filled-in-0.ensures.each, says)) c.say_filled.ensures.some

pub returns-clause-says : goal.returns-clause-says
returns-clause-says g c =
    let entries = c.entries.result in
    if_ok c.used_line.result (SaysLines (lines.Used entries ∷ [])) (SaysSomeSample c.args.parameters.streams) (λ t says. inl (entries, says)) c.used_line.ensures
