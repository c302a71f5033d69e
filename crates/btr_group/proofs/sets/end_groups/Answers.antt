use Rattle.std.proofs.Common.{sym, subst, arith}
use Rattle.btr_hall.specs.declared.session.Session.{Session}
use Rattle.btr_group.specs.SetSteps.{IsIdlePart, TakesBack}
use Rattle.btr_group.proofs.SetLemmas.{seats_length, unused, may_last, last_seat, last_first, last_session, last_idle, end_last}
use Rattle.btr_group.proofs.sets.end_groups.Goals as goal

pub close-other-requires-clause-seat : goal.close-other-requires-clause-seat
close-other-requires-clause-seat g c =
    last_seat c.args.hall.now c.args.before.value c.loop-group.session c.pop.new.self.items c.pop-in-Some.new.self.items c.in-Some.group c.in-Some-pop.seat
    (may_last c.args.hall.now c.args.before.value c.loop-group.session c.loop-group.groups.items c.pop.new.self.items c.loop-group.seats.items c.pop-in-Some.new.self.items c.in-Some.group c.in-Some-pop.seat c.loop-group.invariant.1 c.in-Some.ensures.items c.in-Some-pop.ensures.items)

pub close-other-requires-clause-whole : goal.close-other-requires-clause-whole
close-other-requires-clause-whole g c =
    (last_first c.args.hall.now c.args.before.value c.loop-group.session c.pop.new.self.items c.pop-in-Some.new.self.items c.in-Some.group c.in-Some-pop.seat
    (may_last c.args.hall.now c.args.before.value c.loop-group.session c.loop-group.groups.items c.pop.new.self.items c.loop-group.seats.items c.pop-in-Some.new.self.items c.in-Some.group c.in-Some-pop.seat c.loop-group.invariant.1 c.in-Some.ensures.items c.in-Some-pop.ensures.items)).whole

pub take_back-requires-clause-other : goal.take_back-requires-clause-other
take_back-requires-clause-other g c =
    c.close-other.ensures.session.session c.args.hall.now
    (last_session c.args.hall.now c.args.before.value c.loop-group.session c.pop.new.self.items c.pop-in-Some.new.self.items c.in-Some.group c.in-Some-pop.seat
    (may_last c.args.hall.now c.args.before.value c.loop-group.session c.loop-group.groups.items c.pop.new.self.items c.loop-group.seats.items c.pop-in-Some.new.self.items c.in-Some.group c.in-Some-pop.seat c.loop-group.invariant.1 c.in-Some.ensures.items c.in-Some-pop.ensures.items))

pub take_back-requires-clause-idle : goal.take_back-requires-clause-idle
take_back-requires-clause-idle g c =
    let is = unused c.in-Some.group c.in-Some-pop.seat c.close-other.result.session (last_first c.args.hall.now c.args.before.value c.loop-group.session c.pop.new.self.items c.pop-in-Some.new.self.items c.in-Some.group c.in-Some-pop.seat
    (may_last c.args.hall.now c.args.before.value c.loop-group.session c.loop-group.groups.items c.pop.new.self.items c.loop-group.seats.items c.pop-in-Some.new.self.items c.in-Some.group c.in-Some-pop.seat c.loop-group.invariant.1 c.in-Some.ensures.items c.in-Some-pop.ensures.items)) c.close-other.ensures.commits in
    subst (λ (z : Session g.row.D.Denot g.D.Disk). IsIdlePart c.loop-group.session z) is
    (last_idle c.args.hall.now c.args.before.value c.loop-group.session c.pop.new.self.items c.pop-in-Some.new.self.items c.in-Some.group c.in-Some-pop.seat
    (may_last c.args.hall.now c.args.before.value c.loop-group.session c.loop-group.groups.items c.pop.new.self.items c.loop-group.seats.items c.pop-in-Some.new.self.items c.in-Some.group c.in-Some-pop.seat c.loop-group.invariant.1 c.in-Some.ensures.items c.in-Some-pop.ensures.items))

pub loop-group-preserved : goal.loop-group-preserved
loop-group-preserved g c =
    let is = unused c.in-Some.group c.in-Some-pop.seat c.close-other.result.session (last_first c.args.hall.now c.args.before.value c.loop-group.session c.pop.new.self.items c.pop-in-Some.new.self.items c.in-Some.group c.in-Some-pop.seat
    (may_last c.args.hall.now c.args.before.value c.loop-group.session c.loop-group.groups.items c.pop.new.self.items c.loop-group.seats.items c.pop-in-Some.new.self.items c.in-Some.group c.in-Some-pop.seat c.loop-group.invariant.1 c.in-Some.ensures.items c.in-Some-pop.ensures.items)) c.close-other.ensures.commits in (
      c.take_back.ensures.session,
      end_last c.args.hall.now c.args.before.value c.loop-group.session c.pop.new.self.items c.pop-in-Some.new.self.items c.in-Some.group c.in-Some-pop.seat
          (may_last c.args.hall.now c.args.before.value c.loop-group.session c.loop-group.groups.items c.pop.new.self.items c.loop-group.seats.items c.pop-in-Some.new.self.items c.in-Some.group c.in-Some-pop.seat c.loop-group.invariant.1 c.in-Some.ensures.items c.in-Some-pop.ensures.items)
          c.take_back.new.session (subst (λ (z : Session g.row.D.Denot g.D.Disk). TakesBack c.loop-group.session z c.take_back.new.session) (sym is) c.take_back.ensures.takes),
    )

pub unreachable-requires : goal.unreachable-requires
unreachable-requires g c =
    let l = c.loop-group in
    let long = seats_length l.groups.items l.seats.items l.invariant.1.seats_are in
    let some = c.in-Some.ensures.cases in
    let none = c.in_default-pop.ensures.cases.0 in
    omega (arith, long, l.groups.ok.0, l.seats.ok.0, some, none)
