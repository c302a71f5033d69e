use Rattle.btr_gate.specs.Gates.{view}
use Rattle.btr_group.specs.Seats.{setting_of}
use Rattle.btr_group.proofs.SeatLemmas.{offer_refused, offer_put, offer_led, may_of}
use Rattle.btr_group.proofs.group.Seat.offer.Goals as goal

pub carry-outcome-requires-clause-may : goal.carry-outcome-requires-clause-may
carry-outcome-requires-clause-may g c κs outlives =
    may_of (setting_of c.args.group.now) (view c.offer_in.new.pass) c.in-Ok.put.led c.in-Some.led c.in-Some.is c.in-Ok.ensures.offered.did.may

pub returns-in-Err-clause-offers : goal.returns-in-Err-clause-offers
returns-in-Err-clause-offers g c =
    offer_refused c.args.hall.now c.args.group.now c.args.self.now _ c.args.points.now _ c.in-Err.ensures.offered

pub returns-in-None-clause-offers : goal.returns-in-None-clause-offers
returns-in-None-clause-offers g c =
    offer_put c.args.hall.now c.args.group.now c.args.self.now _ c.args.points.now c.in-Ok.put c.in-Ok.ensures.offered c.in-None.is

pub returns-in-Some-clause-offers : goal.returns-in-Some-clause-offers
returns-in-Some-clause-offers g c =
    offer_led c.args.hall.now c.args.group.now c.args.self.now _ (view c.offer_in.new.pass) c.args.points.now c.in-Ok.put c.in-Some.led c.carry-outcome.result c.in-Ok.ensures.offered c.in-Some.is
    (may_of (setting_of c.args.group.now) (view c.offer_in.new.pass) c.in-Ok.put.led c.in-Some.led c.in-Some.is c.in-Ok.ensures.offered.did.may) c.carry-outcome.ensures.carries c.carry-outcome.ensures.commit
