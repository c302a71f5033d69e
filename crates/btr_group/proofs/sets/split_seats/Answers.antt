use Rattle.std.specs.Prelude.{◌+◌, List, length, take, slice_set}
use Rattle.std.proofs.Common.{sym, ap, ◌∙◌, subst, arith}
use Rattle.std.proofs.lemmas.List.{length_push, take_all}
use Rattle.btr_group.specs.declared.group.Group.{Group}
use Rattle.btr_group.specs.declared.group.Seat.{Seat}
use Rattle.btr_group.specs.Seats.{SplitsSeat}
use Rattle.btr_group.specs.Sets.{AreSeatsOf}
use Rattle.btr_group.specs.SetSteps.{SplitsBelow}
use Rattle.btr_group.proofs.SetLemmas.{seats_length, seat_read, seats_left, seats_more, split_more, split_all}
use Rattle.btr_group.proofs.sets.split_seats.Goals as goal

pub index_mut-requires : goal.index_mut-requires
index_mut-requires g c =
    let l = c.loop-place in
    let long = seats_length c.args.groups.now l.seats.items l.invariant.2 in
    omega (arith, long, c.loop-place-test.true, l.seats.ok.0)

pub split-other-requires : goal.split-other-requires
split-other-requires g c =
    let l = c.loop-place in
    record { seat = seat_read c.args.groups.now l.seats.items l.place c.index-groups-place.result c.index_mut.result.now l.invariant.2 c.loop-place-test.true c.index-groups-place.is c.index_mut.ensures.value }

pub loop-place-preserved : goal.loop-place-preserved
loop-place-preserved g c =
    let l = c.loop-place in
    let groups = c.args.groups.now in
    let at = c.index-groups-place.result in
    let lt = c.loop-place-test.true in
    let long = seats_length groups l.seats.items l.invariant.2 in
    let items = c.push_reserved.ensures.items in (
      ap (length {A = Seat g.row.D.Denot g.D.Disk}) items ∙ length_push l.others.items c.split-other.result ∙ ap (λ k. k + 1) l.invariant.0,
      omega (arith, c.push_reserved.ensures.capacity, l.invariant.1),
      seats_left groups l.seats.items l.place at c.split-other.new.self l.invariant.2 lt c.index-groups-place.is c.split-other.ensures.seat,
      subst (λ (z : List (Seat g.row.D.Denot g.D.Disk)). AreSeatsOf (take (l.place + 1) groups) z) (sym {A = List (Seat g.row.D.Denot g.D.Disk)} items)
          (seats_more groups l.others.items l.place at c.split-other.result l.invariant.3 lt c.index-groups-place.is c.split-other.ensures.other),
      subst (λ (z : List (Seat g.row.D.Denot g.D.Disk)). SplitsBelow c.args.seats.now.items (slice_set l.seats.items l.place c.split-other.new.self) z) (sym {A = List (Seat g.row.D.Denot g.D.Disk)} items)
          (split_more c.args.seats.now.items l.seats.items l.others.items l.place c.index_mut.result.now c.split-other.new.self c.split-other.result l.invariant.4 l.invariant.0 (omega (arith, lt, long))
          (subst (λ (z : Seat g.row.D.Denot g.D.Disk). SplitsSeat z c.split-other.new.self c.split-other.result) c.index_mut.ensures.value c.split-other.ensures.splits)),
    )

pub returns-clause-others : goal.returns-clause-others
returns-clause-others g c =
    let l = c.loop-place in
    subst (λ (z : List (Group g.row.D.Denot g.D.Disk)). AreSeatsOf z l.others.items) (take_all l.place c.args.groups.now c.loop-place-test.false) l.invariant.3

pub returns-clause-splits : goal.returns-clause-splits
returns-clause-splits g c =
    let l = c.loop-place in
    let long = seats_length c.args.groups.now c.args.seats.now.items c.requires.seats in
    split_all c.args.seats.now.items l.seats.items l.others.items l.invariant.4 (omega (arith, long, l.invariant.0, c.loop-place-test.false))
