use Rattle.std.specs.Prelude.{Ok}
use Rattle.std.proofs.Common.{subst}
use Rattle.btr_gate.specs.Gates.{view}
use Rattle.btr_group.specs.Seats.{setting_of}
use Rattle.btr_group.specs.Turns.{HasFlushed}
use Rattle.btr_group.proofs.SeatLemmas.{flush_failed, flush_busy, flush_nothing, flush_led}
use Rattle.btr_group.proofs.group.Seat.flush.Goals as goal

pub carry-outcome-requires-clause-may : goal.carry-outcome-requires-clause-may
carry-outcome-requires-clause-may g c κs outlives =
    (subst (λ b. HasFlushed (setting_of c.args.group.now) (view c.args.self.now.pass) (view c.flush_in.new.pass) (Ok b)) c.in-Led.is c.in-Ok.ensures.flushed).did.may

pub returns-in-Err-clause-flushes : goal.returns-in-Err-clause-flushes
returns-in-Err-clause-flushes g c =
    flush_failed c.args.hall.now c.args.group.now c.args.self.now _ _ c.in-Err.ensures.flushed

pub returns-in-Busy-clause-flushes : goal.returns-in-Busy-clause-flushes
returns-in-Busy-clause-flushes g c =
    flush_busy c.args.hall.now c.args.group.now c.args.self.now _ (subst (λ b. HasFlushed (setting_of c.args.group.now) (view c.args.self.now.pass) (view c.flush_in.new.pass) (Ok b)) c.in-Busy.is c.in-Ok.ensures.flushed)

pub returns-in-Nothing-clause-flushes : goal.returns-in-Nothing-clause-flushes
returns-in-Nothing-clause-flushes g c =
    flush_nothing c.args.hall.now c.args.group.now c.args.self.now _ (subst (λ b. HasFlushed (setting_of c.args.group.now) (view c.args.self.now.pass) (view c.flush_in.new.pass) (Ok b)) c.in-Nothing.is c.in-Ok.ensures.flushed)

pub returns-in-Led-clause-flushes : goal.returns-in-Led-clause-flushes
returns-in-Led-clause-flushes g c =
    flush_led c.args.hall.now c.args.group.now c.args.self.now _ (view c.flush_in.new.pass) c.in-Led.led c.carry-outcome.result
    (subst (λ b. HasFlushed (setting_of c.args.group.now) (view c.args.self.now.pass) (view c.flush_in.new.pass) (Ok b)) c.in-Led.is c.in-Ok.ensures.flushed) c.carry-outcome.ensures.carries c.carry-outcome.ensures.commit
