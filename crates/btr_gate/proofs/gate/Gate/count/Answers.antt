use Rattle.std.proofs.Common.{rules, refl, sym, ap, ◌∙◌, subst}
use Rattle.std.specs.Option.{is_some}
use Rattle.btr_gate.specs.Views.{has_turn}
use Rattle.btr_gate.specs.Seats.{MayLeave, IsCounted}
use Rattle.btr_gate.proofs.KeepsTurns.{counts, same_turn}
use Rattle.btr_gate.proofs.Counted.{some_added, counted_me, is_counted}
use Rattle.btr_gate.proofs.gate.Gate.count.Goals as goal

pub fetch_add-requires : goal.fetch_add-requires
fetch_add-requires g c =
    let me = c.put.ensures.left in
    let adds = some_added c.args.turn.added (c.if-is_none.ensures {u = tt}) in (
      search rules,
      search rules,
      counts g.T.Chronicle g.met.T.Chronicle.bounded g.met.T.Chronicle.lent_is _ _ _ c.args.turn adds.0
          (ap (λ m. is_some m.0.setting) me ∙ c.requires.slot.live) (ap (λ m. has_turn m.0) me ∙ c.requires.slot.turn) (ap (λ m. m.1) me)
          adds.1 (subst (λ m. MayLeave g.T.Chronicle m.0 c.args.turn) (sym me) c.requires.may),
    )

pub take-state-requires-clause-full : goal.take-state-requires-clause-full
take-state-requires-clause-full g c =
    let step = counted_me g.T.Chronicle c.args.seat.now.me.0 c.args.turn _ _ c.requires.slot.turn c.put.ensures.left c.fetch_add.ensures.2 in
    (c.args.turn, ap (λ m. m.1) step.1)

pub returns-clause-slot : goal.returns-clause-slot
returns-clause-slot g c =
    let step = counted_me g.T.Chronicle c.args.seat.now.me.0 c.args.turn _ _ c.requires.slot.turn c.put.ensures.left c.fetch_add.ensures.2 in
    let left = c.take-state.ensures.left in
    let same = ap (λ m. m.0) left ∙ ap (λ m. m.0) step.1 in record {
      live = ap (λ v. is_some v.setting) same ∙ c.requires.slot.live;
      turn = ap (λ v. has_turn v) same;
      empty = ap (λ m. m.1) left;
    }

pub returns-clause-counted : goal.returns-clause-counted
returns-clause-counted g c =
    let step = counted_me g.T.Chronicle c.args.seat.now.me.0 c.args.turn _ _ c.requires.slot.turn c.put.ensures.left c.fetch_add.ensures.2 in
    let same = ap (λ m. m.0) c.take-state.ensures.left ∙ ap (λ m. m.0) step.1 in
    subst (λ v. IsCounted g.T.Chronicle c.args.seat.now.me.0 c.args.turn v) (sym same) (is_counted g.T.Chronicle c.args.seat.now.me.0 c.args.turn step.0)

pub returns-clause-turn : goal.returns-clause-turn
returns-clause-turn g c =
    let step = counted_me g.T.Chronicle c.args.seat.now.me.0 c.args.turn _ _ c.requires.slot.turn c.put.ensures.left c.fetch_add.ensures.2 in
    (ap (λ t. t.state) (same_turn _ c.take-state.result c.args.turn c.take-state.ensures.taken (ap (λ m. m.1) step.1)), refl)
