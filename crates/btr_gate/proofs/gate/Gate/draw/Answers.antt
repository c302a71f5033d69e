use Rattle.std.proofs.Common.{rules, ap, ◌∙◌}
use Rattle.std.specs.Option.{is_some}
use Rattle.btr_gate.proofs.KeepsTickets.{draws}
use Rattle.btr_gate.proofs.gate.Gate.draw.Goals as goal

pub compare_exchange-found-requires : goal.compare_exchange-found-requires
compare_exchange-found-requires g c =
    let same = c.loop.invariant.1 in (
      search rules,
      search rules,
      draws g.T.Chronicle _ _ _ _ _ (ap (λ m. is_some m.0.setting) same ∙ c.requires.live) (ap (λ m. m.0.stage) same ∙ c.requires.idle) (search rules) (search rules),
    )
