use Rattle.std.proofs.Common.{List, map, refl, sym, ap, subst, ◌∙◌}
use Rattle.std.proofs.lemmas.Result.{IfOk-weaker}
use Rattle.btr_base.specs.declared.point.Point.{Point}
use Rattle.btr_base.specs.Cut.{union}
use Rattle.btr_base.specs.Changes.{changes as changes_of}
use Rattle.btr_tree.specs.History.{bag}
use Rattle.btr_tree.specs.Nodes.{up_to}
use Rattle.btr_tree.specs.Root.{IsTree}
use Rattle.btr_hist.specs.Kernel.{window_kernel}
use Rattle.btr_hist.specs.Distil.{widened}
use Rattle.btr_distil.proofs.PlanLemmas.{not-windows, widened-cells, widened-anchors}
use Rattle.btr_distil.proofs.changed.changed.Goals as goal

pub returns-in-Cell : goal.returns-in-Cell
returns-in-Cell c =
    let spec = c.args.spec.now in
    let since = c.args.since in
    let longer = λ (b a : List Point). union (map (widened spec) (changes_of spec.grain b a)) in
    let kernel = ap window_kernel c.in-Cell.is in
    IfOk-weaker c.changes.result _ _ (λ r runs before after is.
    let past = up_to since is.past in
    runs past is.past (subst (IsTree past) (sym c.uncounted-older.ensures) is.older) is.newer refl
    ∙ ap (λ p. changes_of p (bag past) (bag is.past)) c.max.ensures
    ∙ widened-cells spec _ (bag past) (bag is.past) c.requires kernel
    ∙ ap (λ b. longer b (bag is.past)) (sym is.was)
    ∙ ap (longer before) (sym is.is)) c.changes.ensures.runs

pub returns-in_default : goal.returns-in_default
returns-in_default c =
    let spec = c.args.spec.now in
    let since = c.args.since in
    let longer = λ (b a : List Point). union (map (widened spec) (changes_of spec.grain b a)) in
    let none = not-windows spec.kernel (λ which p is. c.in_default.not-Cell which p is) in
    IfOk-weaker c.changes_with_lead.result _ _ (λ r runs before after is.
    let past = up_to since is.past in
    runs past is.past (subst (IsTree past) (sym c.uncounted-older.ensures) is.older) is.newer refl
    ∙ widened-anchors spec (bag past) (bag is.past) none
    ∙ ap (λ b. longer b (bag is.past)) (sym is.was)
    ∙ ap (longer before) (sym is.is)) c.changes_with_lead.ensures.runs
