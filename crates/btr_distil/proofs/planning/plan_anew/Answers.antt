use Rattle.std.proofs.Common.{◌≡◌, sym, ap, subst, ◌∙◌}
use Rattle.btr_hist.specs.Distil.{Inputs, output_points}
use Rattle.btr_distil.specs.Sight.{IsSightOf}
use Rattle.btr_distil.specs.Plan.{change, IsMapped}
use Rattle.btr_distil.proofs.PartLemmas.{points_in}
use Rattle.btr_distil.proofs.SightLemmas.{at-new_inputs}
use Rattle.btr_distil.proofs.PlanLemmas.{plan-is, mapped-is}
use Rattle.btr_distil.proofs.planning.plan_anew.Goals as goal

pub returns-clause-distillate : goal.returns-clause-distillate
returns-clause-distillate c old new of =
    let s = c.args.sight.now in
    let added = at-new_inputs (λ i. c.in_ok-added.added ≡ points_in (output_points s.spec i) c.in_ok-cut.cut) s old new of c.in_ok-added.ensures in
    ap change c.planned.ensures ∙ plan-is s.spec old new _ _ (c.in_ok-cut.ensures old new of) added

pub returns-clause-mapped : goal.returns-clause-mapped
returns-clause-mapped c =
    let s = c.args.sight.now in
    let added = λ (old new : Inputs) (of : IsSightOf s old new). at-new_inputs (λ i. c.in_ok-added.added ≡ points_in (output_points s.spec i) c.in_ok-cut.cut) s old new of c.in_ok-added.ensures in
    subst (λ p. IsMapped s p) (sym c.planned.ensures) (λ none old new of. mapped-is s.spec new _ _ none (added old new of))
