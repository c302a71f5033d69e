-- The session is alone, so the output is defined right after the history that it had seen.
use Rattle.std.proofs.Common.{◌+◌, ◌∙◌, ap, subst, Some, None}
use Rattle.btr_hist.specs.declared.entry.Entry.TheVariants as entries
use Rattle.btr_engine.specs.declared.step.StepFault.TheVariants.{Sealed}
use Rattle.btr_gate.specs.Shares.{covers}
use Rattle.btr_hall.specs.Found.{IsFound}
use Rattle.btr_jobs.specs.Turns.{SaysSealed, Committed}
use Rattle.btr_jobs.specs.Jobs.{Does}
use Rattle.btr_jobs.proofs.TurnLemmas.{commit_at}
use Rattle.btr_load.proofs.CreateLemmas.{turn_alone}
use Rattle.btr_load.proofs.LoadLemmas.{look_alone}
use Rattle.btr_store.proofs.DefineLemmas.{defines_none, defines_some}
use Rattle.btr_store.proofs.define.define.Goals as goal

pub returns-in-Some-clause-at : goal.returns-in-Some-clause-at
returns-in-Some-clause-at g c =
    let done = c.commit.ensures in
    commit_at c.args.hall.now c.find.new.self c.commit.new.self (entries.Define c.output_id-id.result c.mean_of.result) c.commit.result done.same done.commits done.session

pub returns-in-Some-clause-does : goal.returns-in-Some-clause-does
returns-in-Some-clause-does g c =
    let hall = c.args.hall.now in
    let old = c.args.session.now in
    let mid = c.find.new.self in
    let new = c.commit.new.self in
    let id = c.output_id-id.result in
    let result = c.commit.result in
    let found = c.in-Some.found in
    let done = c.commit.ensures in
    let looks = c.in-Some.ensures.looks in
    let at = commit_at hall mid new (entries.Define id c.mean_of.result) result done.same done.commits done.session in
    let look = look_alone hall old mid looks c.requires.alone (λ h. IsFound h (c.from.result + 1) (Some found)) c.in-Some.ensures.found in
    let turn = turn_alone hall mid new (entries.Define id c.mean_of.result) result done.same done.commits (ap covers looks.same.share ∙ c.requires.alone) in
    defines_some hall old mid new c.args.stream id (c.from.result + 1) found result c.refusal_of-refused.result c.output_id-id.ensures (ap (λ n. n + 1) c.from.ensures) c.refusal_of-refused.ensures at look
    (subst (λ spec. Does hall mid new (λ start log low own. Committed start log low (entries.Define id spec) result own log.history × SaysSealed start Sealed result)) c.mean_of.ensures turn)

pub returns-in-None-clause-does : goal.returns-in-None-clause-does
returns-in-None-clause-does g c =
    let hall = c.args.hall.now in
    let old = c.args.session.now in
    let new = c.find.new.self in
    defines_none hall old new c.args.stream c.output_id-id.result (c.from.result + 1) c.output_id-id.ensures (ap (λ n. n + 1) c.from.ensures)
    (look_alone hall old new c.in-None.ensures.looks c.requires.alone (λ h. IsFound h (c.from.result + 1) None) c.in-None.ensures.found)
