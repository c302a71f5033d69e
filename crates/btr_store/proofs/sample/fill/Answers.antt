-- One part after another. The session stays alone.
use Rattle.std.proofs.Common.{[], ◌≡◌, refl, Ok}
use Rattle.btr_hall.proofs.SessionLemmas.{alone_alike}
use Rattle.btr_jobs.proofs.DoesLemmas.{does_none}
use Rattle.btr_store.proofs.SampleLemmas.{filled_none, filled_two, filled_three, filled_all, two_parts}
use Rattle.btr_store.proofs.sample.fill.Goals as goal

pub returns-in_err-rows-clause-does : goal.returns-in_err-rows-clause-does
returns-in_err-rows-clause-does g c =
    let p = c.args.parameters in
    filled_none p.number p.streams p.points c.args.hall.now c.args.session.now c.args.session.now c.from_residual.result c.from_residual.ensures.0
    (does_none c.args.hall.now c.args.session.now (λ start log low own. own ≡ []) (λ start log. refl))

pub returns-in_err-loaded-clause-does : goal.returns-in_err-loaded-clause-does
returns-in_err-loaded-clause-does g c =
    let p = c.args.parameters in
    filled_none p.number p.streams p.points c.args.hall.now c.args.session.now c.load.new.session c.from_residual-in_err-loaded.result c.from_residual-in_err-loaded.ensures.0 c.in_err-loaded.ensures.refused

pub returns-in_err-outputs-clause-does : goal.returns-in_err-outputs-clause-does
returns-in_err-outputs-clause-does g c =
    let p = c.args.parameters in
    let hall = c.args.hall.now in
    let old = c.args.session.now in
    let mid = c.load.new.session in
    let new = c.define_outputs.new.session in
    let loaded = c.in_ok-loaded.loaded in
    let result = c.define_outputs.result in
    filled_two p.number p.streams p.points hall old new loaded result c.from_residual-in_err-outputs.result c.from_residual-in_err-outputs.ensures.0
    (two_parts p.number p.streams p.points hall old mid new c.in_ok-rows.rows loaded result c.in_ok-rows.ensures c.define_outputs.ensures.at c.in_ok-loaded.ensures.loads c.define_outputs.ensures.does)

pub returns-in_err-report-clause-alone : goal.returns-in_err-report-clause-alone
returns-in_err-report-clause-alone g c =
    alone_alike c.define_outputs.new.session c.bring_current.new.session c.in_err-report.ensures.refused.1.paths c.define_outputs.ensures.alone

pub returns-in_err-report-clause-does : goal.returns-in_err-report-clause-does
returns-in_err-report-clause-does g c =
    let p = c.args.parameters in
    let hall = c.args.hall.now in
    let old = c.args.session.now in
    let mid = c.load.new.session in
    let next = c.define_outputs.new.session in
    let new = c.bring_current.new.session in
    let loaded = c.in_ok-loaded.loaded in
    let result = c.define_outputs.result in
    filled_three p.number p.streams p.points hall old next new loaded result c.from_residual-in_err-report.result c.from_residual-in_err-report.ensures.0 c.in_err-report.ensures.at
    (two_parts p.number p.streams p.points hall old mid next c.in_ok-rows.rows loaded result c.in_ok-rows.ensures c.define_outputs.ensures.at c.in_ok-loaded.ensures.loads c.define_outputs.ensures.does)
    c.in_err-report.ensures.refused

pub returns-clause-alone : goal.returns-clause-alone
returns-clause-alone g c =
    alone_alike c.define_outputs.new.session c.bring_current.new.session c.in_ok-report.ensures.refreshes.1.paths c.define_outputs.ensures.alone

pub returns-clause-does : goal.returns-clause-does
returns-clause-does g c =
    let p = c.args.parameters in
    let hall = c.args.hall.now in
    let old = c.args.session.now in
    let mid = c.load.new.session in
    let next = c.define_outputs.new.session in
    let new = c.bring_current.new.session in
    let loaded = c.in_ok-loaded.loaded in
    let outputs = c.in_ok-outputs.outputs in
    let report = c.in_ok-report.report in
    filled_all p.number p.streams p.points hall old next new (record { loaded = loaded; outputs = outputs; report = report }) c.in_ok-report.ensures.at
    (two_parts p.number p.streams p.points hall old mid next c.in_ok-rows.rows loaded (Ok outputs) c.in_ok-rows.ensures c.define_outputs.ensures.at c.in_ok-loaded.ensures.loads c.in_ok-outputs.ensures.does)
    c.in_ok-report.ensures.refreshes
