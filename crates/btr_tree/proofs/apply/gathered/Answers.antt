use Rattle.std.proofs.Common.{◌∙◌, ◌++◌, List, ap, sym, subst}
use Rattle.std.proofs.lemmas.Result.{IfOk-weaker}
use Rattle.btr_base.specs.declared.point.Point.{Point}
use Rattle.btr_base.specs.Bag.{IsInOrder, outside, sort}
use Rattle.btr_base.proofs.PointLemmas.{filter-in_order}
use Rattle.btr_tree.specs.History.{bag}
use Rattle.btr_tree.specs.Nodes.{points_of}
use Rattle.btr_tree.proofs.VersionLemmas.{points-in_order}
use Rattle.btr_tree.proofs.apply.gathered.Goals as goal

pub merged-requires-clause-a : goal.merged-requires-clause-a
merged-requires-clause-a c =
    let st = c.requires.some in
    let left = outside (points_of c.args.span.height c.args.span.start (bag st.2.commits)) c.args.cut.now in
    subst IsInOrder (sym (c.deref.ensures.value ∙ c.in_ok-gather_outside_slots.ensures st.0 st.2.commits st.1 st.2.holds st.2.each ∙ ap (λ (x : List Point). x ++ left) c.new-kept.ensures.items)) (filter-in_order _ (points_of c.args.span.height c.args.span.start (bag st.2.commits)) (points-in_order c.args.span.height c.args.span.start st.2.commits))

pub returns : goal.returns
returns c =
    IfOk-weaker c.merged.result _ _ (λ v e below h high slots each.
    let left = outside (points_of c.args.span.height c.args.span.start (bag h)) c.args.cut.now in
    e ∙ ap (λ (x : List Point). sort (x ++ c.args.added.now)) (c.deref.ensures.value ∙ c.in_ok-gather_outside_slots.ensures below h high slots each ∙ ap (λ (x : List Point). x ++ left) c.new-kept.ensures.items)) c.merged.ensures
