use Rattle.std.specs.Prelude.{◌≡◌, IfErr, OnOk}
use Rattle.std.proofs.Common.{sym, ◌∙◌, subst}
use Rattle.btr_engine.specs.Engine.{log_of}
use Rattle.btr_engine.specs.Travel.{LeavesEntry, HoldsEntry, IsReadyFor, IsReadyOn, IsWritten, HasFailed}
use Rattle.btr_engine.proofs.Stepping.{same_at_home}
use Rattle.btr_engine.proofs.TravelLemmas.{HasMoments, StagesOn, taken_is, of_like, ready_like, staged_like, stopped_as, sealed_as, result_like, cause_like, refused_step, written_step, failed_step}
use Rattle.btr_engine.proofs.engine.Engine.step.Given.{Over}
use Rattle.btr_engine.proofs.engine.Engine.step.Goals.{After-stage, After-write-log}
use Rattle.btr_engine.proofs.engine.Engine.step.Goals as goal

-- the laws of the device
laws : (g : Over) → HasMoments g.D.Disk
laws g = record {
  only_now = λ seen d. g.met.D.Disk.only_now seen d;
  counts_now = λ seen d. g.met.D.Disk.counts_now seen d;
}

-- the log is that of the engine
its_log : (g : Over) (c : After-stage g) → c.in-Some.log ≡ log_of c.args.self.now
its_log g c = taken_is c.args.self.now.place c.in-Some.log c.in-Some.ensures.is

its_ready : (g : Over) (c : After-write-log g) → IsReadyOn c.args.self.now c.args.entry.now c.in-Ok.ready
its_ready g c = ready_like c.take_log.new.self c.args.self.now c.take_log.ensures.like c.args.entry.now c.in-Ok.ready c.in-Ok.ensures.ready

its_staged : (g : Over) (c : After-write-log g) → StagesOn c.args.self.now c.args.entry.now c.in-Ok.ready
its_staged g c h of =
    let like = c.take_log.ensures.like in
    staged_like c.take_log.new.self c.args.self.now like h c.args.entry.now c.in-Ok.ready (c.in-Ok.ensures.staged h (of_like c.take_log.new.self c.args.self.now like h of))

ready_for : (g : Over) (c : After-write-log g) → IsReadyFor c.in-Some.log c.args.entry.now c.in-Ok.ready
ready_for g c =
    subst (λ l. IsReadyFor l c.args.entry.now c.in-Ok.ready) (sym (its_log g (goal.at.After-write-log g c).After-stage)) (its_ready g c).ready_for

its_moments : (g : Over) (c : After-write-log g) → LeavesEntry (log_of c.args.self.now) c.write-log.result.0 c.args.entry.now c.in-Ok.ready
its_moments g c =
    subst (λ l. LeavesEntry l c.write-log.result.0 c.args.entry.now c.in-Ok.ready) (its_log g (goal.at.After-write-log g c).After-stage)
    (c.write-log.ensures.moments c.args.entry.now (ready_for g c))

pub settle-requires-2-clause-settles : goal.settle-requires-2-clause-settles
settle-requires-2-clause-settles g c =
    let is = its_log g (goal.at.settle-requires-2-clause-settles g c).After-stage ∙ sym c.take_log.ensures.like.log in
    let written = subst (λ r. OnOk r (IsWritten c.in-Some.log c.write-log.result.0 c.in-Ok.ready)) c.in_default-written.is c.write-log.ensures.written in
    ((c.args.entry.now, c.in-Ok.ensures.ready), subst (λ l. IsWritten l c.write-log.result.0 c.in-Ok.ready) is written)

pub settle-requires-in-Err-written-clause-settles : goal.settle-requires-in-Err-written-clause-settles
settle-requires-in-Err-written-clause-settles g c =
    let is = its_log g (goal.at.settle-requires-in-Err-written-clause-settles g c).After-stage ∙ sym c.take_log.ensures.like.log in
    let failed = subst (λ r. IfErr r (λ _. HasFailed c.in-Ok.ready.raise c.in-Some.log c.write-log.result.0)) c.in-Err-written.is c.write-log.ensures.failed in
    (c.in-Ok.ready.raise, subst (λ l. HasFailed c.in-Ok.ready.raise l c.write-log.result.0) is failed)

pub returns-in-Err : goal.returns-in-Err
returns-in-Err g c =
    let old = c.args.self.now in
    let out = c.take_log.new.self in
    let like = c.take_log.ensures.like in
    let back = c.settle.ensures in
    let e = c.args.entry.now in
    let fault = c.in-Err.fault in
    let same = same_at_home c.settle.new.self old back.home c.requires.home (record {
      log = back.log_is ∙ its_log g (goal.at.returns-in-Err g c).After-stage;
      board = back.board ∙ like.board;
      entries = back.entries ∙ like.entries;
      chosen = back.chosen ∙ like.chosen;
      synced = back.synced ∙ like.synced;
    }) in
    refused_step (laws g) old c.settle.new.self e fault same c.requires.home (stopped_as out old like fault c.in-Err.ensures.stopped) (sealed_as out old like fault c.in-Err.ensures.sealed) (result_like out old like e fault c.in-Err.ensures.refused)
    (λ h of. cause_like out old like h e fault c.in-Err.ensures.refused (c.in-Err.ensures.cause h (of_like out old like h of)))

pub returns-in-Err-written : goal.returns-in-Err-written
returns-in-Err-written g c =
    let old = c.args.self.now in
    let a = (goal.at.returns-in-Err-written g c).After-write-log in
    let failed = subst (λ r. IfErr r (λ _. HasFailed c.in-Ok.ready.raise c.in-Some.log c.write-log.result.0)) c.in-Err-written.is c.write-log.ensures.failed in
    failed_step (laws g) old c.take_log.new.self c.settle-in-Err-written.new.self c.write-log.result.0 c.args.entry.now c.in-Ok.ready c.take_log.ensures.like (its_ready g a) (its_staged g a) (its_moments g a)
    c.settle-in-Err-written.result (subst (λ l. HasFailed c.in-Ok.ready.raise l c.write-log.result.0) (its_log g (goal.at.returns-in-Err-written g c).After-stage) failed) c.settle-in-Err-written.ensures

pub returns : goal.returns
returns g c =
    let old = c.args.self.now in
    let e = c.args.entry.now in
    let after = c.write-log.result.0 in
    let a = (goal.at.returns g c).After-write-log in
    let is_log = its_log g (goal.at.returns g c).After-stage in
    let written = subst (λ r. OnOk r (IsWritten c.in-Some.log after c.in-Ok.ready)) c.in_default-written.is c.write-log.ensures.written in
    let holds = subst (λ r. OnOk r (HoldsEntry c.in-Some.log after e c.in-Ok.ready)) c.in_default-written.is (c.write-log.ensures.holds e (ready_for g a)) in
    written_step (laws g) old c.take_log.new.self c.settle-2.new.self after e c.in-Ok.ready c.take_log.ensures.like (its_ready g a) (its_staged g a) (its_moments g a)
    c.settle-2.result c.in-Some-settle.receipt c.in-Some-settle.is (subst (λ l. IsWritten l after c.in-Ok.ready) is_log written) (subst (λ l. HoldsEntry l after e c.in-Ok.ready) is_log holds) c.settle-2.ensures
