use Rattle.std.proofs.Common.{◌∙◌, sym, ap, subst, w64}
use Rattle.std.proofs.lemmas.Int.{to_z-of_z}
use Rattle.btr_base.specs.Agg.{agg}
use Rattle.btr_kernel.specs.Window.{AreUntil, HasPointAt}
use Rattle.btr_kernel.proofs.WindowLemmas.{window-has, window-until, window-count, window-words}
use Rattle.btr_kernel.proofs.sweep.Sweep.value.Goals as goal

pub total_value-requires : goal.total_value-requires
total_value-requires c =
    let t = c.args.t in
    let b = c.args.first.now in
    let lead = c.args.spec.now.lead in
    let window = window-words lead _ t b _ c.moved_to-self.ensures.points (to_z-of_z w64 t c.ranges.t) in
    window-count lead t b c.in_ok-all.all (c.in_ok-all.ensures.total ∙ ap agg window) c.requires.anchor.point

pub eval-requires-clause-first : goal.eval-requires-clause-first
eval-requires-clause-first c =
    let t = c.args.t in
    let b = c.args.first.now in
    let lead = c.args.spec.now.lead in
    let fits = to_z-of_z w64 t c.ranges.t in
    let window = c.points.ensures ∙ window-words lead _ t b _ c.moved_to-self.ensures.points fits in
    subst (λ s. AreUntil s c.points.result.now) (sym fits) (subst (AreUntil t) (sym window) (window-until lead t b c.requires.first))

pub eval-requires-clause-second : goal.eval-requires-clause-second
eval-requires-clause-second c =
    let t = c.args.t in
    let b = c.args.second.now in
    let lead = c.args.spec.now.lead in
    let fits = to_z-of_z w64 t c.ranges.t in
    let window = c.points-2.ensures ∙ window-words lead _ t b _ c.moved_to-self-2.ensures.points fits in
    subst (λ s. AreUntil s c.points-2.result.now) (sym fits) (subst (AreUntil t) (sym window) (window-until lead t b c.requires.second))

pub eval-requires-clause-anchor : goal.eval-requires-clause-anchor
eval-requires-clause-anchor c =
    let t = c.args.t in
    let b = c.args.first.now in
    let lead = c.args.spec.now.lead in
    let fits = to_z-of_z w64 t c.ranges.t in
    let window = c.points.ensures ∙ window-words lead _ t b _ c.moved_to-self.ensures.points fits in
    subst (λ s. HasPointAt s c.points.result.now) (sym fits) (subst (HasPointAt t) (sym window) (window-has lead t b c.requires.anchor.point))
