-- One group less is left, and its session was taken back.
use Rattle.std.specs.Prelude.{[]}
use Rattle.std.proofs.Common.{refl, arith}
use Rattle.std.proofs.lemmas.List.{append-nil}
use Rattle.btr_group.proofs.ClosingLemmas.{seats_long, seat_last, hall_last, whole_last, closed_one, closed_all}
use Rattle.btr_group.proofs.closing.close_groups.Goals as goal

pub loop-group-init : goal.loop-group-init
loop-group-init g c = (
  c.requires.session,
  record {
    groups_done = [];
    seats_done = [];
    groups_are = append-nil c.args.groups.items;
    seats_are = append-nil c.args.seats.items;
    fit = c.requires.seats;
    of_hall = c.requires.groups;
    whole = c.requires.whole;
    meets = refl;
  },
)

pub close-other-requires-clause-seat : goal.close-other-requires-clause-seat
close-other-requires-clause-seat g c =
    seat_last c.args.hall.now c.args.session.now c.loop-group.session c.args.groups.items c.loop-group.groups.items c.pop.new.self.items c.args.seats.items c.loop-group.seats.items c.pop-in-Some.new.self.items c.in-Some.group c.in-Some-pop.seat c.loop-group.invariant.1 c.in-Some.ensures.items c.in-Some-pop.ensures.items

pub close-other-requires-clause-whole : goal.close-other-requires-clause-whole
close-other-requires-clause-whole g c =
    whole_last c.args.hall.now c.args.session.now c.loop-group.session c.args.groups.items c.loop-group.groups.items c.pop.new.self.items c.args.seats.items c.loop-group.seats.items c.pop-in-Some.new.self.items c.in-Some.group c.in-Some-pop.seat c.loop-group.invariant.1 c.in-Some.ensures.items c.in-Some-pop.ensures.items

pub meet-requires-clause-other : goal.meet-requires-clause-other
meet-requires-clause-other g c =
    c.close-other.ensures.session.session c.args.hall.now
    (hall_last c.args.hall.now c.args.session.now c.loop-group.session c.args.groups.items c.loop-group.groups.items c.pop.new.self.items c.args.seats.items c.loop-group.seats.items c.pop-in-Some.new.self.items c.in-Some.group c.in-Some-pop.seat c.loop-group.invariant.1 c.in-Some.ensures.items c.in-Some-pop.ensures.items)

pub loop-group-preserved : goal.loop-group-preserved
loop-group-preserved g c =
    let other = c.close-other.ensures.session.session c.args.hall.now
    (hall_last c.args.hall.now c.args.session.now c.loop-group.session c.args.groups.items c.loop-group.groups.items c.pop.new.self.items c.args.seats.items c.loop-group.seats.items c.pop-in-Some.new.self.items c.in-Some.group c.in-Some-pop.seat c.loop-group.invariant.1 c.in-Some.ensures.items c.in-Some-pop.ensures.items) in (
      c.meet.ensures.session,
      closed_one c.args.hall.now c.args.session.now c.loop-group.session c.args.groups.items c.loop-group.groups.items c.pop.new.self.items c.args.seats.items c.loop-group.seats.items c.pop-in-Some.new.self.items c.in-Some.group c.in-Some-pop.seat c.loop-group.invariant.1 c.in-Some.ensures.items c.in-Some-pop.ensures.items
          c.close-other.result.session c.meet.new.self
          (record {
            home = c.close-other.ensures.closes.home;
            tiles = c.close-other.ensures.closes.tiles;
            once = c.close-other.ensures.once;
            commits = c.close-other.ensures.commits;
          })
          other c.meet.ensures.meets c.meet.ensures.session,
    )

pub unreachable-requires : goal.unreachable-requires
unreachable-requires g c =
    let l = c.loop-group in
    let long = seats_long l.groups.items l.seats.items l.invariant.1.fit in
    let some = c.in-Some.ensures.cases in
    let none = c.in_default-pop.ensures.cases.0 in
    omega (arith, long, l.groups.ok.0, l.seats.ok.0, some, none)

pub returns-clause-closes : goal.returns-clause-closes
returns-clause-closes g c =
    let l = c.loop-group in
    let none = c.in_default.ensures.cases.0 in
    closed_all c.args.hall.now c.args.session.now l.session c.args.groups.items l.groups.items c.args.seats.items l.seats.items l.invariant.1 (omega (arith, none, l.groups.ok.0))
