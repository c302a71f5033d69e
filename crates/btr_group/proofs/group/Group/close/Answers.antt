use Rattle.std.specs.Prelude.{Option}
use Rattle.std.specs.Option.{is_some}
use Rattle.std.proofs.Common.{◌∙◌, ap, subst}
use Rattle.btr_feed.specs.Feed.{FeedValue}
use Rattle.btr_gate.specs.Gates.{view}
use Rattle.btr_hall.specs.declared.session.Session.{Session}
use Rattle.btr_hall.specs.GroupBook.{book}
use Rattle.btr_group.specs.Serves.{HasCommitted}
use Rattle.btr_group.specs.Seats.{setting_of, seen_by}
use Rattle.btr_group.specs.State.{state_value}
use Rattle.btr_group.proofs.StateLemmas.{home_is}
use Rattle.btr_group.proofs.PassLemmas.{group_in}
use Rattle.btr_group.proofs.SeatLemmas.{closed_tiles, closed_session, closed_served}
use Rattle.btr_group.proofs.group.Group.close.Goals as goal

pub returns-clause-closes : goal.returns-clause-closes
returns-clause-closes g c =
    let x = setting_of c.args.self in
    let s = c.close-session.result in
    let b = book (seen_by c.args.seat) in
    let at = group_in s (seen_by c.args.seat) (view c.args.seat.pass).setting x c.requires.seat.set c.close-session.ensures.of in
    let home = home_is (state_value s) _ b x at (ap (λ (o : Option (Session g.row.D.Denot g.D.Disk)). is_some o) c.in-Some.is) in
    record {
      home = home;
      batches = at.settled;
      left = c.take.ensures.points ∙ ap (λ (f : FeedValue). f.points) at.filling;
      tiles = closed_tiles b home at.tiles;
    }

pub returns-clause-session : goal.returns-clause-session
returns-clause-session g c =
    let x = setting_of c.args.self in
    let s = c.close-session.result in
    let at = group_in s (seen_by c.args.seat) (view c.args.seat.pass).setting x c.requires.seat.set c.close-session.ensures.of in
    closed_session x (book (seen_by c.args.seat)).settled s.session c.in-Some.session at.served c.in-Some.is

pub returns-clause-served : goal.returns-clause-served
returns-clause-served g c = λ hall h of engine.
    let x = setting_of c.args.self in
    let s = c.close-session.result in
    let at = group_in s (seen_by c.args.seat) (view c.args.seat.pass).setting x c.requires.seat.set c.close-session.ensures.of in
    closed_served hall h x (book (seen_by c.args.seat)).settled s.session c.in-Some.session of engine at.served c.in-Some.is

pub returns-clause-commits : goal.returns-clause-commits
returns-clause-commits g c =
    let x = setting_of c.args.self in
    let s = c.close-session.result in
    let at = group_in s (seen_by c.args.seat) (view c.args.seat.pass).setting x c.requires.seat.set c.close-session.ensures.of in
    subst (λ (o : Option (Session g.row.D.Denot g.D.Disk)). HasCommitted x.stream x.session (book (seen_by c.args.seat)).settled o) c.in-Some.is at.served
