use Rattle.std.proofs.Common.{sym, ap, subst, ◌∙◌}
use Rattle.btr_distil.specs.Plan.{change, IsMapped}
use Rattle.btr_distil.proofs.PlanLemmas.{plan-is, mapped-is}
use Rattle.btr_distil.proofs.planning.plan_shared.Goals as goal

pub returns-clause-distillate : goal.returns-clause-distillate
returns-clause-distillate g c old new of =
    ap change c.planned.ensures
    ∙ plan-is c.args.sight.now.spec old new _ _ (c.in_ok-cut.ensures old new of) (c.in_ok-added.ensures old new of)

pub returns-clause-mapped : goal.returns-clause-mapped
returns-clause-mapped g c =
    subst (λ p. IsMapped c.args.sight.now p) (sym c.planned.ensures) (λ none old new of. mapped-is c.args.sight.now.spec new _ _ none (c.in_ok-added.ensures old new of))
