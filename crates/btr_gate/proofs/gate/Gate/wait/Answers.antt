use Rattle.std.proofs.Common.{rules, ap, ◌∙◌, subst}
use Rattle.std.specs.Option.{is_some}
use Rattle.btr_gate.specs.Steps.{Served}
use Rattle.btr_gate.proofs.KeepsLooks.{looks}
use Rattle.btr_gate.proofs.gate.Gate.wait.Goals as goal

pub load-serving-requires : goal.load-serving-requires
load-serving-requires g c =
    let same = c.loop.invariant.1 in (
      search rules,
      search rules,
      looks g.T.Chronicle _ _ c.args.ticket _ (ap (λ m. is_some m.0.setting) same ∙ c.requires.live) (ap (λ m. m.0.stage) same ∙ c.requires.waits) (ap (λ m. m.1) same ∙ c.requires.empty),
    )

pub returns-then-serving-ticket-clause-served : goal.returns-then-serving-ticket-clause-served
returns-then-serving-ticket-clause-served g c =
    let same = c.loop.invariant.1 in
    let reported = c.load-serving.ensures.2 c.args.ticket (ap (λ m. m.0.stage) same ∙ c.requires.waits) in
    subst (λ m. Served g.T.Chronicle m c.load-serving.new.seat.me) same (reported.0 (search rules))
