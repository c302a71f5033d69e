use Rattle.std.specs.Prelude.{◌+◌, ◌++◌, List, [], ◌∷◌, length}
use Rattle.std.proofs.Common.{sym, ap, ◌∙◌, subst, arith}
use Rattle.std.proofs.lemmas.List.{length_push}
use Rattle.btr_hall.specs.declared.session.Session.{Session}
use Rattle.btr_group.specs.declared.group.Group.{Group}
use Rattle.btr_group.specs.declared.group.Seat.{Seat}
use Rattle.btr_group.specs.Sets.{BeginsGroups}
use Rattle.btr_group.specs.SetSteps.{MayEnd}
use Rattle.btr_group.proofs.SetLemmas.{begins_push, may_end}
use Rattle.btr_group.proofs.sets.begin_groups.Goals as goal

pub end_groups-requires-clause-may : goal.end_groups-requires-clause-may
end_groups-requires-clause-may g c =
    let l = c.loop-stream in
    subst (λ (z : Session g.row.D.Denot g.D.Disk). MayEnd c.args.hall.now z c.begin_next.new.session l.groups.items l.seats.items) (sym c.of-before.ensures)
    (may_end c.args.hall.now c.args.threshold l.stream c.args.session.now l.session c.begin_next.new.session l.groups.items l.seats.items l.invariant.4 c.in-Err.ensures.refused)

pub loop-stream-preserved : goal.loop-stream-preserved
loop-stream-preserved g c =
    let l = c.loop-stream in
    let groups = c.push_reserved.ensures.items in
    let seats = c.push_reserved-in-Ok.ensures.items in
    let begun = begins_push c.args.hall.now c.args.threshold l.stream c.args.session.now l.session c.begin_next.new.session l.groups.items l.seats.items c.in-Ok.group c.in-Ok.seat l.invariant.4 c.in-Ok.ensures.begins in (
      ap (length {A = Seat g.row.D.Denot g.D.Disk}) seats ∙ length_push l.seats.items c.in-Ok.seat ∙ ap (λ k. k + 1) l.invariant.0,
      omega (arith, c.push_reserved.ensures.capacity, l.invariant.1),
      omega (arith, c.push_reserved-in-Ok.ensures.capacity, l.invariant.2),
      c.in-Ok.ensures.session,
      subst (λ (z : List (Group g.row.D.Denot g.D.Disk)). BeginsGroups c.args.hall.now c.args.threshold (l.stream + 1) c.args.session.now c.begin_next.new.session z c.push_reserved-in-Ok.new.self.items) (sym {A = List (Group g.row.D.Denot g.D.Disk)} groups)
          (subst (λ (z : List (Seat g.row.D.Denot g.D.Disk)). BeginsGroups c.args.hall.now c.args.threshold (l.stream + 1) c.args.session.now c.begin_next.new.session (l.groups.items ++ c.in-Ok.group ∷ []) z) (sym {A = List (Seat g.row.D.Denot g.D.Disk)} seats) begun),
    )
