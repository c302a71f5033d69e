use Rattle.std.proofs.Common.{sym, subst}
use Rattle.btr_gate.specs.Gates.{view}
use Rattle.btr_engine.specs.Engine.{IsDurable, KeepsOpening}
use Rattle.btr_hall.specs.Session.{opening_of, seen_of}
use Rattle.btr_hall.specs.Trace.{history_of, in_flight_in}
use Rattle.btr_hall.proofs.TraceLemmas.{engine_at, keeps_of_list, durable_of_list}
use Rattle.btr_hall.proofs.StoreLemmas.{at_rest_at}
use Rattle.btr_hall.proofs.TurnLemmas.{not_out, state_in, turn_engine}
use Rattle.btr_hall.proofs.session.Hall.close.Goals as goal

pub returns-clause-of : goal.returns-clause-of
returns-clause-of g c = λ h with_h.
    let x = opening_of c.args.self in
    let l = seen_of c.args.session in
    let s = c.close-engine.result in
    turn_engine h s l x (state_in s l (view c.args.session.pass).setting x c.requires.session.set c.close-engine.ensures.of) with_h

pub returns-clause-kept : goal.returns-clause-kept
returns-clause-kept g c =
    let x = opening_of c.args.self in
    let l = seen_of c.args.session in
    let s = c.close-engine.result in
    let of = state_in s l (view c.args.session.pass).setting x c.requires.session.set c.close-engine.ensures.of in
    subst (KeepsOpening x) (sym (engine_at s l x of (not_out c.close-engine.ensures.home))) (keeps_of_list x l of.trace)

pub returns-clause-at_rest : goal.returns-clause-at_rest
returns-clause-at_rest g c = λ observable h rest runs.
    let x = opening_of c.args.self in
    let l = seen_of c.args.session in
    let s = c.close-engine.result in
    let of = state_in s l (view c.args.session.pass).setting x c.requires.session.set c.close-engine.ensures.of in
    at_rest_at observable h x l s of (not_out c.close-engine.ensures.home) rest runs

pub returns-clause-durable : goal.returns-clause-durable
returns-clause-durable g c = λ observable h more calls entries rest durable.
    let x = opening_of c.args.self in
    let l = seen_of c.args.session in
    let s = c.close-engine.result in
    let of = state_in s l (view c.args.session.pass).setting x c.requires.session.set c.close-engine.ensures.of in
    subst (λ e. IsDurable (history_of h l) calls entries e (in_flight_in more l)) (sym (engine_at s l x of (not_out c.close-engine.ensures.home))) (durable_of_list observable h more calls entries x l rest durable of.trace)

pub returns-clause-home : goal.returns-clause-home
returns-clause-home g c = not_out c.close-engine.ensures.home

pub returns-clause-engine : goal.returns-clause-engine
returns-clause-engine g c =
    let x = opening_of c.args.self in
    let l = seen_of c.args.session in
    let s = c.close-engine.result in
    let of = state_in s l (view c.args.session.pass).setting x c.requires.session.set c.close-engine.ensures.of in
    engine_at s l x of (not_out c.close-engine.ensures.home)
