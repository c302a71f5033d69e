use Rattle.std.proofs.Common.{◌≡◌, ◌∙◌, sym, ap, subst, true, false}
use Rattle.std.specs.Option.{is_some}
use Rattle.btr_hist.specs.declared.entry.Entry.TheVariants as entries
use Rattle.btr_hist.specs.History.{stream_of}
use Rattle.btr_engine.specs.declared.step.StepFault.TheVariants.{Sealed}
use Rattle.btr_gate.specs.Shares.{covers}
use Rattle.btr_jobs.specs.Turns as turns
use Rattle.btr_jobs.proofs.DoesLemmas.{does_none, does_implied}
use Rattle.btr_jobs.proofs.TurnLemmas.{commit_at}
use Rattle.btr_streams.specs.Snapshot.{IsSnapshotOf}
use Rattle.btr_hist.specs.declared.entry.Entry.{Entry}
use Rattle.std.proofs.Common.{List}
use Rattle.btr_load.specs.Plan.{IsStreamSettled}
use Rattle.btr_load.proofs.CreateLemmas.{turn_alone, opened_still, opened_new}
use Rattle.btr_load.proofs.creating.create_stream.Goals as goal

pub returns-then-is_some-clause-does : goal.returns-then-is_some-clause-does
returns-then-is_some-clause-does g c =
    let s = c.args.stream.now in
    does_none c.args.hall.now c.args.session.now
    (λ start log low own. (h : List Entry) → IsSnapshotOf h c.args.snapshot.now → IsStreamSettled start log h low s s own log.history)
    (λ start log. λ h of.
    let found : is_some (stream_of h s.rows.id) ≡ true =
    ap (λ id. is_some (stream_of h id)) (sym c.id-id.ensures) ∙ sym (ap is_some (c.find.ensures h of)) ∙ sym c.is_some.ensures ∙ c.if-is_some.true in
    opened_still start log h log.history s found)

pub returns-clause-at : goal.returns-clause-at
returns-clause-at g c =
    let done = c.commit-result.ensures in
    commit_at c.args.hall.now c.args.session.now c.commit-result.new.self (entries.Create c.id-id.result) c.commit-result.result done.same done.commits done.session

pub returns-clause-alone : goal.returns-clause-alone
returns-clause-alone g c = ap covers c.commit-result.ensures.same.share ∙ c.requires.alone

pub returns-clause-does : goal.returns-clause-does
returns-clause-does g c =
    let s = c.args.stream.now in
    let done = c.commit-result.ensures in
    let result = c.commit-result.result in
    does_implied c.args.hall.now c.args.session.now c.commit-result.new.self
    (λ start log low own. turns.Committed start log low (entries.Create c.id-id.result) result own log.history
    × turns.SaysSealed start Sealed result)
    (λ start log low own. (h : List Entry) → IsSnapshotOf h c.args.snapshot.now
    → IsStreamSettled start log h low s (record { rows = s.rows; batch = s.batch; outcome = c.settle.new.outcome }) own log.history)
    (λ start log low own did. λ h of.
    let missing : is_some (stream_of h s.rows.id) ≡ false =
    ap (λ id. is_some (stream_of h id)) (sym c.id-id.ensures) ∙ sym (ap is_some (c.find.ensures h of)) ∙ sym c.is_some.ensures ∙ c.if-is_some.false in
    subst (λ f. IsStreamSettled start log h low s (record { rows = s.rows; batch = s.batch; outcome = f }) own log.history) (sym c.settle.ensures)
    (opened_new start log h low s result own log.history missing
    (subst (λ id. turns.Committed start log low (entries.Create id) result own log.history) c.id-id.ensures did.0) did.1))
    (turn_alone c.args.hall.now c.args.session.now c.commit-result.new.self (entries.Create c.id-id.result) result done.same done.commits c.requires.alone)
