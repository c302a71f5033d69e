use Rattle.std.proofs.Common.{◌≡◌, ℤ, ◌∙◌, ap, subst, rules, w64, SFits, slice_get}
use Rattle.std.specs.Ordering.{int_eq}
use Rattle.std.specs.Option.{option_to_list}
use Rattle.std.proofs.lemmas.Int.{to_z-of_z}
use Rattle.btr_base.specs.Point.{InDomain}
use Rattle.btr_base.specs.Range.{covered}
use Rattle.btr_tree.specs.History.{bag}
use Rattle.btr_tree.proofs.VersionLemmas.{bag-in_order}
use Rattle.btr_kernel.specs.Sources.{second_past_points}
use Rattle.btr_kernel.proofs.OneTimeLemmas.{one-point}
use Rattle.btr_kernel.proofs.output.point_at.Goals as goal

pub returns : goal.returns
returns c h k tree second =
    let points = c.in_ok-points.points.items in
    let fits : SFits w64 c.args.t = search rules in
    let only = subst (λ t. (u : ℤ) → InDomain u → covered c.in_ok-time.time u ≡ int_eq u t) (to_z-of_z w64 c.args.t fits) c.in_ok-time.ensures in
    ap option_to_list (c.copied.ensures ∙ c.first.ensures.value ∙ ap (λ l. slice_get l 0) c.deref.ensures.value)
    ∙ one-point c.args.spec.now (record { first = bag h; second = second_past_points k }) c.args.t c.in_ok-time.time points (bag-in_order h) tree.times only (c.in_ok-points.ensures h k tree second)
