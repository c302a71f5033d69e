-- The lanes ran with their groups, and their seats met.
use Rattle.std.specs.Prelude.{length, nat_lt}
use Rattle.std.specs.List.{AllByRecursion}
use Rattle.std.proofs.Common.{refl, sym, arith, subst}
use Rattle.std.proofs.Crossing.{crosses}
use denote.Param.Send.{sendable}
use Rattle.btr_group.specs.LaneSeats.{IsUnusedLane, AreLaterLanes, IsLaneOf, IsLaterLane, lane_view}
use Rattle.btr_group.proofs.CrossingLemmas.{lane_send}
use Rattle.btr_group.proofs.LaneSeatLemmas.{begun_lanes, later_parts, later_length, later_lanes}
use Rattle.btr_store.proofs.SharedLaneLemmas.{views_seen, lanes_fed, unused_fresh, have_met, last_whole, keep_later, same_later, unused_seen, first_seen, first_start, first_whole, last_start}
use Rattle.btr_store.proofs.shared_live.share_lanes.Goals as goal

pub shared_lanes-requires-clause-script : goal.shared_lanes-requires-clause-script
shared_lanes-requires-clause-script g c κs within = (c.requires.script, c.in-Ok.ensures.begins.count_is)

pub end_lanes-requires-clause-some : goal.end_lanes-requires-clause-some
end_lanes-requires-clause-some g c =
    let lanes = c.in-Ok.lanes.items in
    let news = c.in-Ok-shared_lanes.lanes.items in
    let long = later_length lanes news (keep_later lanes news c.in-Ok-shared_lanes.ensures.later) in
    omega (arith, long, c.in-Ok.ensures.begins.count_is)

pub end_lanes-requires-clause-lanes : goal.end_lanes-requires-clause-lanes
end_lanes-requires-clause-lanes g c =
    let lanes = c.in-Ok.lanes.items in
    let news = c.in-Ok-shared_lanes.lanes.items in
    later_lanes c.args.groups.now lanes news (keep_later lanes news c.in-Ok-shared_lanes.ensures.later)
    (begun_lanes c.args.hall.now c.args.script.threshold 8 c.args.groups.now c.args.seats.items lanes c.in-Ok.ensures.begins)

pub returns-in-Ok-shared_lanes-clause-seats : goal.returns-in-Ok-shared_lanes-clause-seats
returns-in-Ok-shared_lanes-clause-seats g c =
    let lanes = c.in-Ok.lanes.items in
    let news = c.in-Ok-shared_lanes.lanes.items in
    let later = keep_later lanes news c.in-Ok-shared_lanes.ensures.later in
    let last = c.end_lanes.ensures.whole c.args.seats.items c.requires.seats.0 c.requires.seats.1 (later_parts c.args.seats.items lanes news later c.in-Ok.ensures.begins.parts) in
    (c.end_lanes.ensures.seats_are, last_whole c.end_lanes.result.items last)

pub returns-in-Ok-shared_lanes-clause-runs : goal.returns-in-Ok-shared_lanes-clause-runs
returns-in-Ok-shared_lanes-clause-runs g c =
    let hall = c.args.hall.now in
    let threshold = c.args.script.threshold in
    let groups = c.args.groups.now in
    let lanes = c.in-Ok.lanes.items in
    let news = c.in-Ok-shared_lanes.lanes.items in
    let begins = c.in-Ok.ensures.begins in
    let later = keep_later lanes news c.in-Ok-shared_lanes.ensures.later in
    let last = c.end_lanes.ensures.whole c.args.seats.items c.requires.seats.0 c.requires.seats.1 (later_parts c.args.seats.items lanes news later begins.parts) in
    let script = c.args.script.lines.items in
    let replies = c.in-Ok-shared_lanes.replies.items in
    record {
      each = c.in-Ok-shared_lanes.ensures.each;
      befores = views_seen lanes;
      afters = views_seen news;
      fresh = unused_fresh hall threshold groups lanes begins.each;
      met = have_met groups news c.end_lanes.result.items c.end_lanes.ensures last;
      runs = lanes_fed (record { has_group = λ l stream. nat_lt stream (length l.groups.now); threshold = λ l. l.threshold; view_at = λ l. lane_view l; later = λ l n. IsLaterLane l n }) hall threshold groups lanes news c.args.session.now c.shared_lanes.new.session c.args.script.beside.materialize script replies c.in-Ok-shared_lanes.ensures.runs begins.each (λ l. refl) (λ l. refl) (λ l. refl);
    }

pub returns-in-Err-clause-seats : goal.returns-in-Err-clause-seats
returns-in-Err-clause-seats g c = (c.in-Err.ensures.seats, first_whole c.in-Err.seats.items c.in-Err.ensures.first)

pub returns-in-Err-clause-runs : goal.returns-in-Err-clause-runs
returns-in-Err-clause-runs g c = (refl, first_seen c.in-Err.seats.items c.in-Err.ensures.first, first_start c.in-Err.seats.items c.in-Err.ensures.first)

pub end_lanes-requires-in-Err-shared_lanes-clause-lanes : goal.end_lanes-requires-in-Err-shared_lanes-clause-lanes
end_lanes-requires-in-Err-shared_lanes-clause-lanes g c =
    let lanes = c.in-Ok.lanes.items in
    subst (λ ls. AllByRecursion (IsLaneOf c.args.groups.now) ls) (sym c.in-Err-shared_lanes.ensures.back)
    (begun_lanes c.args.hall.now c.args.script.threshold 8 c.args.groups.now c.args.seats.items lanes c.in-Ok.ensures.begins)

pub shared_lanes-requires-send-G : goal.shared_lanes-requires-send-G
shared_lanes-requires-send-G g c κs within =
    let device = c.type_bounds.send-D in
    search (sendable, crosses, lane_send) depth 40

pub returns-in-Err-shared_lanes-clause-seats : goal.returns-in-Err-shared_lanes-clause-seats
returns-in-Err-shared_lanes-clause-seats g c =
    let lanes = c.in-Ok.lanes.items in
    let news = c.in-Err-shared_lanes.lanes.items in
    let later = subst (λ ls. AreLaterLanes lanes ls) (sym c.in-Err-shared_lanes.ensures.back) (same_later lanes) in
    let last = c.end_lanes-in-Err-shared_lanes.ensures.whole c.args.seats.items c.requires.seats.0 c.requires.seats.1 (later_parts c.args.seats.items lanes news later c.in-Ok.ensures.begins.parts) in
    (c.end_lanes-in-Err-shared_lanes.ensures.seats_are, last_whole c.end_lanes-in-Err-shared_lanes.result.items last)

pub returns-in-Err-shared_lanes-clause-runs : goal.returns-in-Err-shared_lanes-clause-runs
returns-in-Err-shared_lanes-clause-runs g c =
    let hall = c.args.hall.now in
    let threshold = c.args.script.threshold in
    let groups = c.args.groups.now in
    let lanes = c.in-Ok.lanes.items in
    let news = c.in-Err-shared_lanes.lanes.items in
    let begins = c.in-Ok.ensures.begins in
    let later = subst (λ ls. AreLaterLanes lanes ls) (sym c.in-Err-shared_lanes.ensures.back) (same_later lanes) in
    let last = c.end_lanes-in-Err-shared_lanes.ensures.whole c.args.seats.items c.requires.seats.0 c.requires.seats.1 (later_parts c.args.seats.items lanes news later begins.parts) in
    let seats = c.end_lanes-in-Err-shared_lanes.result.items in
    let each = subst (λ ls. AllByRecursion (IsUnusedLane hall threshold groups) ls) (sym c.in-Err-shared_lanes.ensures.back) begins.each in
    (c.in-Err-shared_lanes.ensures.refused, unused_seen hall threshold groups news seats each c.end_lanes-in-Err-shared_lanes.ensures, last_start seats last)
