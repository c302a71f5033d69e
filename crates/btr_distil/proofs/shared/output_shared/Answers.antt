use Rattle.std.proofs.Common.{◌≡◌, ◌∙◌, subst}
use Rattle.std.specs.List.{AllZip}
use Rattle.std.proofs.lemmas.Result.{MatchResult-weaker}
use Rattle.btr_hist.specs.Distil.{output_points}
use Rattle.btr_kernel.specs.Sources.{AtEachInputs}
use Rattle.btr_distil.proofs.PartLemmas.{points_in}
use Rattle.btr_distil.proofs.SightLemmas.{at-new_inputs, shared-is}
use Rattle.btr_distil.proofs.shared.output_shared.Goals as goal

pub returns-then-is_empty : goal.returns-then-is_empty
returns-then-is_empty g c =
    let s = c.args.sight.now in
    let cut = c.args.ranges.now in
    MatchResult-weaker c.output_over.result c.output_over.ensures (λ b each old new of. at-new_inputs (λ i. b ≡ points_in (output_points s.spec i) cut) s old new of each) (λ e h. tt)

pub returns : goal.returns
returns g c =
    let s = c.args.sight.now in
    let cut = c.args.ranges.now in
    let parts = c.in_ok-parts.parts.items in
    let bags = c.in_ok-made.made.items in
    let each = subst (λ ps. AllZip (λ r b. AtEachInputs s.new_first s.new_second (λ i. b ≡ points_in (output_points s.spec i) r)) ps bags) c.deref-2.ensures.value c.in_ok-made.ensures in
    MatchResult-weaker c.joined.result c.joined.ensures (λ b h old new of. h ∙ shared-is s cut parts bags old new of c.in_ok-parts.ensures each) (λ e h. tt)
