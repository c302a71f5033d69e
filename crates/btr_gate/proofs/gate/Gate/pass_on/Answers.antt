use Rattle.std.proofs.Common.{rules, sym, ap, ◌∙◌, subst, []}
use Rattle.std.specs.Option.{is_some}
use Rattle.btr_gate.specs.declared.view.Stage.TheVariants.{Idle}
use Rattle.btr_gate.specs.Views.{has_turn}
use Rattle.btr_gate.specs.Steps.{settled}
use Rattle.btr_gate.specs.Seats.{MayLeave}
use Rattle.btr_gate.proofs.KeepsTurns.{passes}
use Rattle.btr_gate.proofs.gate.Gate.pass_on.Goals as goal

pub fetch_add-requires : goal.fetch_add-requires
fetch_add-requires g c =
    let me = c.put.ensures.left in (
      search rules,
      search rules,
      passes g.T.Chronicle g.met.T.Chronicle.bounded g.met.T.Chronicle.lent_is _ _ _ c.args.turn
          (ap (λ m. is_some m.0.setting) me ∙ c.requires.slot.live) (ap (λ m. has_turn m.0) me ∙ c.requires.slot.turn) (ap (λ m. m.1) me)
          c.requires.counted (subst (λ m. MayLeave g.T.Chronicle m.0 c.args.turn) (sym me) c.requires.may),
    )

pub returns-clause-passed : goal.returns-clause-passed
returns-clause-passed g c =
    let me = c.put.ensures.left in
    c.fetch_add.ensures.2 c.args.turn (ap (λ m. m.1) me) ∙ ap (λ m. (settled g.T.Chronicle m.0 c.args.turn Idle, [])) me
