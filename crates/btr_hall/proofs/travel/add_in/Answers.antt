use Rattle.std.specs.Prelude.{◌≡◌, not, IfErr, OnOk, Err}
use Rattle.std.proofs.Common.{◌∙◌, refl, sym, ap, subst}
use Rattle.std.proofs.lemmas.Result.{on_ok_weaker}
use Rattle.btr_engine.specs.Travel.{IsReadyFor, IsWritten, HasFailed, LeavesEntry}
use Rattle.btr_engine.proofs.TravelLemmas.{HasMoments}
use Rattle.btr_gate.specs.Gates.{view}
use Rattle.btr_gate.specs.Views.{turn_list, turn_lent, list_after, with_entry}
use Rattle.btr_hall.specs.Session.{opening_of}
use Rattle.btr_hall.specs.Store.{IsStoreOf}
use Rattle.btr_hall.specs.Commit.{Adds}
use Rattle.btr_hall.proofs.CommitLemmas.{store_after}
use Rattle.btr_hall.proofs.TurnLemmas.{state_in, state_out}
use Rattle.btr_hall.proofs.TravelLemmas.{HoldsIf, carries_it, like_of_list, halted_of_list, store_at, brought_in, added_none, added_last}
use Rattle.btr_hall.proofs.travel.add_in.Given.{Over}
use Rattle.btr_hall.proofs.travel.add_in.Goals.{After-enter-last, After-bring-result}
use Rattle.btr_hall.proofs.travel.add_in.Goals as goal

-- the laws of the device
laws : (g : Over) → HasMoments g.D.Disk
laws g = record {
  only_now = λ seen d. g.met.D.Disk.only_now seen d;
  counts_now = λ seen d. g.met.D.Disk.counts_now seen d;
}

-- the second list is the first
its_list : (g : Over) (c : After-enter-last g) → turn_list (view c.enter-last.new.pass) ≡ turn_list (view c.args.pass.now)
its_list g c =
    let v = view c.args.pass.now in
    let u = view c.leave-in-Ok.new.pass in
    let have = c.requires.turn in
    let first = c.leave-in-Ok.ensures.leaves in
    let carried = first.carries ∙ carries_it _ v.carries (turn_lent v) c.in-Ok.ensures.out.out have.carries have.lent in
    c.enter-last.ensures.takes.still refl carried ∙ first.seen ∙ ap (with_entry (turn_list v)) have.none

its_store : (g : Over) (c : After-enter-last g) → IsStoreOf c.enter-last.result.state (turn_list (view c.enter-last.new.pass)) (opening_of c.args.hall.now)
its_store g c =
    let set = c.leave-in-Ok.ensures.leaves.setting ∙ c.requires.turn.setting in
    state_in c.enter-last.result.state (turn_list (view c.enter-last.new.pass)) (view c.leave-in-Ok.new.pass).setting (opening_of c.args.hall.now) set c.enter-last.ensures.takes.state

its_adds : (g : Over) (c : After-bring-result g) → Adds c.args.turn.state c.bring-result.new.self c.args.entry.now c.bring-result.result.0 c.bring-result.result.1
its_adds g c =
    let a = (goal.at.After-bring-result g c).After-enter-last in
    let x = opening_of c.args.hall.now in
    let l = turn_list (view c.args.pass.now) in
    let m = turn_list (view c.enter-last.new.pass) in
    let s = c.args.turn.state in
    let u = c.enter-last.result.state in
    let e = c.args.entry.now in
    let r = c.in-Ok.ready in
    let after = c.write-log.result.0 in
    let how = c.write-log.result.1 in
    let out = c.in-Ok.ensures.out in
    let of = c.requires.turn.state in
    let next = its_store g a in
    let same = its_list g a in
    let ready = subst (λ k. IsReadyFor k e r) (sym out.log_is) out.ready.ready_for in
    let written = subst (λ k. OnOk how (IsWritten k after r)) out.log_is c.write-log.ensures.written in
    let failed = subst (λ k. IfErr how (λ _. HasFailed r.raise k after)) out.log_is c.write-log.ensures.failed in
    let holds = subst (λ k. HoldsIf k after e r how) out.log_is (λ seen h b z staged raise unsealed now. on_ok_weaker how (λ of. of seen h b z staged raise unsealed now) (c.write-log.ensures.holds e ready)) in
    let moments = subst (λ k. LeavesEntry k after e r) out.log_is (c.write-log.ensures.moments e ready) in
    brought_in (laws g) s u c.bring-result.new.self after e r (like_of_list s u l m x of next same) (sym next.opening ∙ of.opening) (halted_of_list s u l m x of next same) out.ready out.staged moments how
    c.bring-result.result.0 c.bring-result.result.1 written failed holds c.bring-result.ensures

pub leave-requires-in-Ok-2-clause-of : goal.leave-requires-in-Ok-2-clause-of
leave-requires-in-Ok-2-clause-of g c =
    let b = (goal.at.leave-requires-in-Ok-2-clause-of g c).After-bring-result in
    let a = (goal.at.leave-requires-in-Ok-2-clause-of g c).After-enter-last in
    let x = opening_of c.args.hall.now in
    let l = turn_list (view c.args.pass.now) in
    let w = view c.enter-last.new.pass in
    let s = c.args.turn.state in
    let t = c.bring-result.new.self in
    let item = c.bring-result.result.1 in
    let have = c.requires.turn in
    let set = c.enter-last.ensures.enters.setting ∙ c.leave-in-Ok.ensures.leaves.setting ∙ have.setting in
    state_out t (list_after w item) w.setting x set (store_at t l (turn_list w) item x (its_list g a) (store_after s t l x c.args.entry.now c.bring-result.result.0 item have.state have.home (its_adds g b)))

pub returns-in-Err-clause-adds : goal.returns-in-Err-clause-adds
returns-in-Err-clause-adds g c =
    let adds = c.in-Err.ensures.refused in
    added_none (view c.args.pass.now) (view c.leave.new.pass) c.args.turn.added _ c.leave.ensures.leaves c.requires.turn.none c.args.turn.state c.take.new.self c.args.entry.now (Err c.in-Err.fault)
    adds (ap not adds.step.home)

pub returns-in-Ok-clause-adds : goal.returns-in-Ok-clause-adds
returns-in-Ok-clause-adds g c =
    let b = (goal.at.returns-in-Ok-clause-adds g c).After-bring-result in
    let a = (goal.at.returns-in-Ok-clause-adds g c).After-enter-last in
    let adds = its_adds g b in
    added_last (view c.args.pass.now) (view c.leave-in-Ok.new.pass) c.args.turn.added _ c.leave-in-Ok.ensures.leaves c.requires.turn.none c.args.turn.state c.bring-result.new.self c.args.entry.now c.bring-result.result.0
    (view c.enter-last.new.pass) (view c.leave-in-Ok-2.new.pass) c.bring-result.result.1 _ c.enter-last.ensures.enters c.leave-in-Ok-2.ensures.leaves (its_list g a) adds (ap not adds.step.home)
