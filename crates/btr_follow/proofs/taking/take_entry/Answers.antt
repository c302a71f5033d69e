-- The entry is refused and the log is back as it was, or the calls of a step were made.
use Rattle.std.specs.Prelude.{◌≡◌, List, IfErr, OnOk}
use Rattle.std.proofs.Common.{sym, ◌∙◌, subst}
use Rattle.btr_hist.specs.declared.entry.Entry.{Entry}
use Rattle.btr_hist.specs.Legal.{IsComputed}
use Rattle.btr_engine.specs.Engine.{log_of, IsEngineOf}
use Rattle.btr_engine.specs.Travel.{LeavesEntry, HoldsEntry, IsReadyFor, IsReadyOn, IsWritten, HasFailed}
use Rattle.btr_engine.proofs.Stepping.{same_at_home}
use Rattle.btr_engine.proofs.TravelLemmas.{HasMoments, StagesOn, taken_is, of_like, ready_like, staged_like, written_step, failed_step}
use Rattle.btr_follow.proofs.TakingLemmas.{refused_taking, written_taking, failed_taking}
use Rattle.btr_follow.proofs.taking.take_entry.Given.{Over}
use Rattle.btr_follow.proofs.taking.take_entry.Goals.{After-decide, After-write-log}
use Rattle.btr_follow.proofs.taking.take_entry.Goals as goal

-- the laws of the device
laws : (g : Over) → HasMoments g.D.Disk
laws g = record {
  only_now = λ seen d. g.met.D.Disk.only_now seen d;
  counts_now = λ seen d. g.met.D.Disk.counts_now seen d;
}

-- the log is that of the engine
its_log : (g : Over) (c : After-decide g) → c.in-Some.log ≡ log_of c.args.engine.now
its_log g c = taken_is c.args.engine.now.place c.in-Some.log c.in-Some.ensures.is

its_ready : (g : Over) (c : After-write-log g) → IsReadyOn c.args.engine.now c.args.entry.now c.in-Ok.ready
its_ready g c = ready_like c.take_log.new.self c.args.engine.now c.take_log.ensures.like c.args.entry.now c.in-Ok.ready c.in-Ok.ensures.ready

its_staged : (g : Over) (c : After-write-log g) → StagesOn c.args.engine.now c.args.entry.now c.in-Ok.ready
its_staged g c h of =
    let like = c.take_log.ensures.like in
    staged_like c.take_log.new.self c.args.engine.now like h c.args.entry.now c.in-Ok.ready (c.in-Ok.ensures.staged h (of_like c.take_log.new.self c.args.engine.now like h of))

its_computed : (g : Over) (c : After-write-log g) (h : List Entry) → IsEngineOf h c.args.engine.now → IsComputed h c.args.entry.now
its_computed g c h of = c.in-Ok.ensures.computed h (of_like c.take_log.new.self c.args.engine.now c.take_log.ensures.like h of)

ready_for : (g : Over) (c : After-write-log g) → IsReadyFor c.in-Some.log c.args.entry.now c.in-Ok.ready
ready_for g c =
    subst (λ l. IsReadyFor l c.args.entry.now c.in-Ok.ready) (sym (its_log g (goal.at.After-write-log g c).After-decide)) (its_ready g c).ready_for

its_moments : (g : Over) (c : After-write-log g) → LeavesEntry (log_of c.args.engine.now) c.write-log.result.0 c.args.entry.now c.in-Ok.ready
its_moments g c =
    subst (λ l. LeavesEntry l c.write-log.result.0 c.args.entry.now c.in-Ok.ready) (its_log g (goal.at.After-write-log g c).After-decide)
    (c.write-log.ensures.moments c.args.entry.now (ready_for g c))

pub settle-requires-2-clause-settles : goal.settle-requires-2-clause-settles
settle-requires-2-clause-settles g c =
    let is = its_log g (goal.at.settle-requires-2-clause-settles g c).After-decide ∙ sym c.take_log.ensures.like.log in
    let written = subst (λ r. OnOk r (IsWritten c.in-Some.log c.write-log.result.0 c.in-Ok.ready)) c.in_default-written.is c.write-log.ensures.written in
    ((c.args.entry.now, c.in-Ok.ensures.ready), subst (λ l. IsWritten l c.write-log.result.0 c.in-Ok.ready) is written)

pub returns-in-Err : goal.returns-in-Err
returns-in-Err g c =
    let old = c.args.engine.now in
    let like = c.take_log.ensures.like in
    let back = c.settle.ensures in
    let same = same_at_home c.settle.new.self old back.home c.requires.home (record {
      log = back.log_is ∙ its_log g (goal.at.returns-in-Err g c).After-decide;
      board = back.board ∙ like.board;
      entries = back.entries ∙ like.entries;
      chosen = back.chosen ∙ like.chosen;
      synced = back.synced ∙ like.synced;
    }) in
    refused_taking c.take_log.new.self old c.settle.new.self like same c.requires.home c.args.entry.now c.in-Err.refused c.outcome.result c.outcome.ensures c.in-Err.ensures.refused c.in-Err.ensures.cause

pub returns-in-Err-written : goal.returns-in-Err-written
returns-in-Err-written g c =
    let old = c.args.engine.now in
    let a = (goal.at.returns-in-Err-written g c).After-write-log in
    let failed = subst (λ r. IfErr r (λ _. HasFailed c.in-Ok.ready.raise c.in-Some.log c.write-log.result.0)) c.in-Err-written.is c.write-log.ensures.failed in
    failed_taking old c.settle-in-Err-written.new.self c.args.entry.now (its_computed g a)
    (failed_step (laws g) old c.take_log.new.self c.settle-in-Err-written.new.self c.write-log.result.0 c.args.entry.now c.in-Ok.ready c.take_log.ensures.like (its_ready g a) (its_staged g a) (its_moments g a)
    c.settle-in-Err-written.result (subst (λ l. HasFailed c.in-Ok.ready.raise l c.write-log.result.0) (its_log g (goal.at.returns-in-Err-written g c).After-decide) failed) c.settle-in-Err-written.ensures)

pub returns : goal.returns
returns g c =
    let old = c.args.engine.now in
    let e = c.args.entry.now in
    let after = c.write-log.result.0 in
    let a = (goal.at.returns g c).After-write-log in
    let is_log = its_log g (goal.at.returns g c).After-decide in
    let written = subst (λ r. OnOk r (IsWritten c.in-Some.log after c.in-Ok.ready)) c.in_default-written.is c.write-log.ensures.written in
    let holds = subst (λ r. OnOk r (HoldsEntry c.in-Some.log after e c.in-Ok.ready)) c.in_default-written.is (c.write-log.ensures.holds e (ready_for g a)) in
    written_taking old c.settle-2.new.self e (its_computed g a) c.in-Some-settle.receipt
    (written_step (laws g) old c.take_log.new.self c.settle-2.new.self after e c.in-Ok.ready c.take_log.ensures.like (its_ready g a) (its_staged g a) (its_moments g a)
    c.settle-2.result c.in-Some-settle.receipt c.in-Some-settle.is (subst (λ l. IsWritten l after c.in-Ok.ready) is_log written) (subst (λ l. HoldsEntry l after e c.in-Ok.ready) is_log holds) c.settle-2.ensures)
