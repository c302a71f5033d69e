-- The start, and then the log, of the device as it was.
use Rattle.std.specs.Prelude.{Err, IfOk, IfErr, OnErr}
use Rattle.std.proofs.lemmas.Result.{err_from_is_err_and}
use Rattle.btr_disk.proofs.MomentLemmas.{Only-kept}
use Rattle.btr_follow.specs.Shipping.{ShipsStore, StopsStore, ShipCause}
use Rattle.btr_follow.proofs.ShippingLemmas.{if-ok-map, on-err-map, if-err-map, start-stops, start-cause, log-back, stop-back, counts-back, send-cause, ships-history, durable-start, durable-log}
use Rattle.btr_follow.proofs.shipping.ship_counted.Given.{Over}
use Rattle.btr_follow.proofs.shipping.ship_counted.Goals.{After-send_log}
use Rattle.btr_follow.proofs.shipping.ship_counted.Goals as goal

its_log : (g : Over) (c : After-send_log g) → g.D.Disk.is_observable → IfOk c.send_log.result (ShipsStore g.D.Disk g.K.Sink c.args.from c.args.disk.now c.args.sink.now c.send_log.new.sink)
its_log g c seen =
    if-ok-map c.send_log.result _ _
    (log-back g.D.Disk g.K.Sink c.args.from c.args.disk.now c.read_super.new.disk c.start_gate.new.disk c.send_log.new.disk c.args.sink.now c.send_log.new.sink c.read_super.ensures.kept c.start_gate.ensures.reads c.in_ok-found.found c.in_ok-start.start (λ t. c.in_ok-found.ensures.chosen t) (λ t. c.in_ok-start.ensures.begins t) seen)
    (c.send_log.ensures.log seen)

its_stop : (g : Over) (c : After-send_log g) → g.D.Disk.is_observable → OnErr c.send_log.result (StopsStore g.D.Disk g.K.Sink c.args.from c.args.disk.now c.args.sink.now c.send_log.new.sink)
its_stop g c seen =
    on-err-map c.send_log.result _ _
    (stop-back g.D.Disk g.K.Sink c.args.from c.args.disk.now c.read_super.new.disk c.start_gate.new.disk c.send_log.new.disk c.args.sink.now c.send_log.new.sink c.read_super.ensures.kept c.start_gate.ensures.reads c.in_ok-found.found c.in_ok-start.start (λ t. c.in_ok-found.ensures.chosen t) (λ t. c.in_ok-start.ensures.begins t) seen)
    (c.send_log.ensures.part seen)

its_cause : (g : Over) (c : After-send_log g) → IfErr c.send_log.result (ShipCause g.D.Disk g.K.Sink c.args.from c.args.disk.now c.send_log.new.disk c.args.sink.now c.send_log.new.sink)
its_cause g c =
    if-err-map c.send_log.result _ _
    (send-cause g.D.Disk g.K.Sink c.args.from c.args.disk.now c.read_super.new.disk c.start_gate.new.disk c.send_log.new.disk c.args.sink.now c.send_log.new.sink c.read_super.ensures.kept c.start_gate.ensures.reads c.in_ok-found.found c.in_ok-start.start (λ t. c.in_ok-found.ensures.chosen t) (λ t. c.in_ok-start.ensures.begins t))
    c.send_log.ensures.cause

pub returns-in_err-found-clause-history : goal.returns-in_err-found-clause-history
returns-in_err-found-clause-history g c = λ seen h holds.
    let p = err_from_is_err_and c.from_residual.result c.from_residual.ensures.1 in
    let d = c.args.disk.now in
    let e = c.read_super.new.disk in
    let k = c.args.sink.now in
    rw (p.1, p.2) (ships-history g.D.Disk g.K.Sink c.args.from h d e k k seen holds (Err c.in_err-found.field-0.0) tt
    (start-stops g.D.Disk g.K.Sink c.args.from d e k)
    (start-cause g.D.Disk g.K.Sink c.args.from d e k c.in_err-found.field-0.0 c.in_err-found.ensures.cause))

pub returns-clause-history : goal.returns-clause-history
returns-clause-history g c = λ seen h holds.
    let at = (goal.at.returns-clause-history g c).After-send_log in
    ships-history g.D.Disk g.K.Sink c.args.from h c.args.disk.now c.send_log.new.disk c.args.sink.now c.send_log.new.sink seen holds c.send_log.result (its_log g at seen) (its_stop g at seen) (its_cause g at)

pub returns-clause-log : goal.returns-clause-log
returns-clause-log g c = its_log g (goal.at.returns-clause-log g c).After-send_log

pub returns-clause-part : goal.returns-clause-part
returns-clause-part g c = its_stop g (goal.at.returns-clause-part g c).After-send_log

pub returns-clause-cause : goal.returns-clause-cause
returns-clause-cause g c = its_cause g (goal.at.returns-clause-cause g c).After-send_log

pub returns-in_err-found-clause-durable : goal.returns-in_err-found-clause-durable
returns-in_err-found-clause-durable g c = λ seen.
    let p = err_from_is_err_and c.from_residual.result c.from_residual.ensures.1 in
    rw (p.1) (durable-start g.D.Disk g.K.Sink c.read_super.new.disk c.args.sink.now p.0)

pub returns-clause-durable : goal.returns-clause-durable
returns-clause-durable g c = λ seen.
    let disk = g.D.Disk in
    let only = Only-kept disk.calls disk.images_since disk.contents disk.images_now c.read_super.new.disk c.start_gate.new.disk (c.in_ok-found.ensures.durable seen) (c.start_gate.ensures.reads.nothing seen) in
    durable-log disk g.K.Sink c.start_gate.new.disk c.send_log.new.disk c.args.sink.now c.send_log.new.sink seen only c.send_log.ensures.reads c.send_log.result

pub returns-clause-counts : goal.returns-clause-counts
returns-clause-counts g c =
    counts-back g.D.Disk g.K.Sink c.args.from c.args.disk.now c.read_super.new.disk c.start_gate.new.disk c.send_log.new.disk c.args.sink.now c.send_log.new.sink c.read_super.ensures.kept c.start_gate.ensures.reads c.in_ok-found.found c.in_ok-start.start (λ t. c.in_ok-found.ensures.chosen t) (λ t. c.in_ok-start.ensures.begins t)
    c.send_log.new.count c.send_log.result c.send_log.ensures.counts
