use Rattle.std.specs.Prelude.{◌++◌}
use Rattle.std.proofs.Common.{sym, ap, subst, arith}
use Rattle.btr_log.specs.Append.{IsAppendRun}
use Rattle.btr_engine.specs.Streamed.{streamed_bytes}
use Rattle.btr_engine.proofs.PendingLemmas.{need_of_ready}
use Rattle.btr_engine.proofs.Appending.{log_rests_now}
use Rattle.btr_engine.proofs.TravelLemmas.{moments_of_write, holds_of_write}
use Rattle.btr_engine.proofs.travel.Ready.append.Goals as goal

pub append-requires : goal.append-requires
append-requires g c =
    let r = c.args.self.now in
    let ready = c.requires.ready.1 in
    let is = ap (λ nodes. r.prefix ++ streamed_bytes r.is_streamed r.staged.receipt.stream nodes) c.deref.ensures.value in
    record {
      able = c.requires.able;
      run = subst IsAppendRun (sym is) (need_of_ready c.requires.ready.0 r ready.some (omega (arith, ready.behind, c.args.log.tail_inside, c.args.log.addressable)) ready.made).1;
    }

pub returns-in-Err-clause-moments : goal.returns-in-Err-clause-moments
returns-in-Err-clause-moments g c e ready is_observable h b s staged fits unsealed now =
    let r = c.args.self.now in
    let is = ap (λ nodes. r.prefix ++ streamed_bytes r.is_streamed r.staged.receipt.stream nodes) c.deref.ensures.value in
    moments_of_write h b s c.args.log e r ready staged fits unsealed now _ is c.append.new.self
    (c.append.ensures.moments is_observable now.holds.bodies (log_rests_now h b s c.args.log now))

pub returns-clause-holds : goal.returns-clause-holds
returns-clause-holds g c e ready is_observable h b s staged fits unsealed now =
    let r = c.args.self.now in
    let is = ap (λ nodes. r.prefix ++ streamed_bytes r.is_streamed r.staged.receipt.stream nodes) c.deref.ensures.value in
    holds_of_write h b s c.args.log e r ready staged fits unsealed now _ is c.append.new.self c.in_default.ensures.appended c.append.ensures.kept (c.in_default.ensures.appended.written is_observable)
    (c.in_default.ensures.at_rest is_observable now.holds.bodies (log_rests_now h b s c.args.log now))

pub returns-clause-moments : goal.returns-clause-moments
returns-clause-moments g c e ready is_observable h b s staged fits unsealed now =
    let r = c.args.self.now in
    let is = ap (λ nodes. r.prefix ++ streamed_bytes r.is_streamed r.staged.receipt.stream nodes) c.deref.ensures.value in
    moments_of_write h b s c.args.log e r ready staged fits unsealed now _ is c.append.new.self
    (c.append.ensures.moments is_observable now.holds.bodies (log_rests_now h b s c.args.log now))
