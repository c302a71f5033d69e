use Rattle.std.specs.Prelude.{◌≡◌, ℕ, ◌+◌, ◌<◌, List, length}
use Rattle.std.proofs.Common.{sym, ap, ◌∙◌, subst, arith, get_or}
use Rattle.std.proofs.lemmas.List.{length_push, map-id}
use Rattle.std.proofs.lemmas.Iterator.Adapters.{YieldsList-from_vec}
use Rattle.std.proofs.lemmas.Iterator.Consumers.{YieldsList-turn, YieldsList-end}
use Rattle.btr_disk.specs.declared.disk.Disk.{Ghosts}
use Rattle.btr_group.specs.declared.group.Group.{Group}
use Rattle.btr_group.specs.declared.group.Seat.{Seat}
use Rattle.btr_group.specs.Seats.{MeetsSeat}
use Rattle.btr_group.specs.Sets.{AreSeatsOf}
use Rattle.btr_group.specs.SetSteps.{MeetsBelow}
use Rattle.btr_group.proofs.SetLemmas.{seats_length, seat_read, seats_left, meet_more, meet_all}
use Rattle.btr_group.proofs.sets.meet_seats.Goals as goal

-- a turn has the next of the others, and its place is inside
its_place : {D : Type 0} {disk : Ghosts D} (groups : List (Group D disk)) (others yielded : List (Seat D disk)) (place : ℕ) (other : Seat D disk) → AreSeatsOf groups others → place ≡ length yielded → (length yielded < length others) × (other ≡ get_or others (length yielded) other) → (place < length groups) × (other ≡ get_or others place other)
its_place groups others yielded place other are is turn =
    let long = seats_length groups others are in
    (omega (arith, turn.0, is, long), subst (λ k. other ≡ get_or others k other) (sym is) turn.1)

pub index_mut-requires : goal.index_mut-requires
index_mut-requires g c =
    let l = c.loop-other in
    let place = its_place c.args.groups.now c.args.others.items c.loop-other.yielded c.loop-other.place c.in-Some.other c.requires.others c.loop-other.invariant.0
    (YieldsList-turn (YieldsList-from_vec {s = c.into_iter-other-iterator.result} c.args.others.items c.into_iter-other-iterator.ensures.into_iter_gives.0 (c.into_iter-other-iterator.ensures.into_iter_gives.1 ∙ c.args.others.ok.0)) c.loop-other.yielded c.loop-other.other-iterator c.loop-other.yielded_by c.next.result c.next.new.self c.in-Some.other c.in-Some.is c.next.ensures.steps) in
    let long = seats_length c.args.groups.now l.seats.items l.invariant.1 in
    omega (arith, place.0, long, l.seats.ok.0)

pub offset_bounds-groups-place : goal.offset_bounds-groups-place
offset_bounds-groups-place g c =
    let place = its_place c.args.groups.now c.args.others.items c.loop-other.yielded c.loop-other.place c.in-Some.other c.requires.others c.loop-other.invariant.0
    (YieldsList-turn (YieldsList-from_vec {s = c.into_iter-other-iterator.result} c.args.others.items c.into_iter-other-iterator.ensures.into_iter_gives.0 (c.into_iter-other-iterator.ensures.into_iter_gives.1 ∙ c.args.others.ok.0)) c.loop-other.yielded c.loop-other.other-iterator c.loop-other.yielded_by c.next.result c.next.new.self c.in-Some.other c.in-Some.is c.next.ensures.steps) in
    let bound = c.well_formed.0.1 in
    omega (arith, place.0, bound)

pub bounds-groups-place : goal.bounds-groups-place
bounds-groups-place g c =
    (its_place c.args.groups.now c.args.others.items c.loop-other.yielded c.loop-other.place c.in-Some.other c.requires.others c.loop-other.invariant.0
    (YieldsList-turn (YieldsList-from_vec {s = c.into_iter-other-iterator.result} c.args.others.items c.into_iter-other-iterator.ensures.into_iter_gives.0 (c.into_iter-other-iterator.ensures.into_iter_gives.1 ∙ c.args.others.ok.0)) c.loop-other.yielded c.loop-other.other-iterator c.loop-other.yielded_by c.next.result c.next.new.self c.in-Some.other c.in-Some.is c.next.ensures.steps)).0

pub meet-requires-clause-seat : goal.meet-requires-clause-seat
meet-requires-clause-seat g c =
    let l = c.loop-other in
    let place = its_place c.args.groups.now c.args.others.items c.loop-other.yielded c.loop-other.place c.in-Some.other c.requires.others c.loop-other.invariant.0
    (YieldsList-turn (YieldsList-from_vec {s = c.into_iter-other-iterator.result} c.args.others.items c.into_iter-other-iterator.ensures.into_iter_gives.0 (c.into_iter-other-iterator.ensures.into_iter_gives.1 ∙ c.args.others.ok.0)) c.loop-other.yielded c.loop-other.other-iterator c.loop-other.yielded_by c.next.result c.next.new.self c.in-Some.other c.in-Some.is c.next.ensures.steps) in
    seat_read c.args.groups.now l.seats.items l.place c.index-groups-place.result c.index_mut.result.now l.invariant.1 place.0 c.index-groups-place.is c.index_mut.ensures.value

pub meet-requires-clause-other : goal.meet-requires-clause-other
meet-requires-clause-other g c =
    let place = its_place c.args.groups.now c.args.others.items c.loop-other.yielded c.loop-other.place c.in-Some.other c.requires.others c.loop-other.invariant.0
    (YieldsList-turn (YieldsList-from_vec {s = c.into_iter-other-iterator.result} c.args.others.items c.into_iter-other-iterator.ensures.into_iter_gives.0 (c.into_iter-other-iterator.ensures.into_iter_gives.1 ∙ c.args.others.ok.0)) c.loop-other.yielded c.loop-other.other-iterator c.loop-other.yielded_by c.next.result c.next.new.self c.in-Some.other c.in-Some.is c.next.ensures.steps) in
    seat_read c.args.groups.now c.args.others.items c.loop-other.place c.index-groups-place.result c.in-Some.other c.requires.others place.0 c.index-groups-place.is place.1

pub loop-other-preserved : goal.loop-other-preserved
loop-other-preserved g c =
    let l = c.loop-other in
    let groups = c.args.groups.now in
    let place = its_place c.args.groups.now c.args.others.items c.loop-other.yielded c.loop-other.place c.in-Some.other c.requires.others c.loop-other.invariant.0
    (YieldsList-turn (YieldsList-from_vec {s = c.into_iter-other-iterator.result} c.args.others.items c.into_iter-other-iterator.ensures.into_iter_gives.0 (c.into_iter-other-iterator.ensures.into_iter_gives.1 ∙ c.args.others.ok.0)) c.loop-other.yielded c.loop-other.other-iterator c.loop-other.yielded_by c.next.result c.next.new.self c.in-Some.other c.in-Some.is c.next.ensures.steps) in
    let long = seats_length groups l.seats.items l.invariant.1 in (
      ap (λ k. k + 1) l.invariant.0 ∙ sym (length_push l.yielded c.in-Some.other),
      seats_left groups l.seats.items l.place c.index-groups-place.result c.meet.new.self l.invariant.1 place.0 c.index-groups-place.is c.meet.ensures.seat,
      meet_more c.args.seats.now.items l.yielded l.seats.items l.place c.index_mut.result.now c.in-Some.other c.meet.new.self l.invariant.2 (sym l.invariant.0) (omega (arith, place.0, long))
          (subst (λ (z : Seat g.row.D.Denot g.D.Disk). MeetsSeat z c.in-Some.other c.meet.new.self) c.index_mut.ensures.value c.meet.ensures.meets),
    )

pub returns-clause-meets : goal.returns-clause-meets
returns-clause-meets g c =
    let l = c.loop-other in
    let gives = c.into_iter-other-iterator.ensures.into_iter_gives in
    let last = YieldsList-end (YieldsList-from_vec {s = c.into_iter-other-iterator.result} c.args.others.items gives.0 (gives.1 ∙ c.args.others.ok.0)) l.yielded l.other-iterator l.yielded_by c.next.result c.next.new.self c.in-None.is c.next.ensures.steps in
    let all : l.yielded ≡ c.args.others.items = sym (map-id l.yielded) ∙ last.0 in
    let long = seats_length c.args.groups.now c.args.seats.now.items c.requires.seats in
    let others = seats_length c.args.groups.now c.args.others.items c.requires.others in
    meet_all c.args.seats.now.items c.args.others.items l.seats.items
    (subst (λ (z : List (Seat g.row.D.Denot g.D.Disk)). MeetsBelow c.args.seats.now.items z l.seats.items) all l.invariant.2) (omega (arith, long, others))
