use Rattle.std.proofs.Common.{◌≡◌, ◌+◌, false, sym, subst, arith}
use Rattle.std.proofs.lemmas.Result.{on_ok_weaker}
use Rattle.btr_base.specs.Range.{IsCut}
use Rattle.btr_tree.specs.History.{bag}
use Rattle.btr_tree.specs.Nodes.{above_root, points_of}
use Rattle.btr_tree.specs.NodeSource.{IsFoundAt, IsSafeFound}
use Rattle.btr_diff.proofs.ChangedSlots.{adds-none}
use Rattle.btr_diff.proofs.Found.{found-version, refused-weaker}
use Rattle.btr_diff.proofs.Roots.{root-place, root-adds, root-changes, root-below, root-bounded, agree-since}
use Rattle.btr_diff.proofs.Slots.{adds-as}
use Rattle.btr_diff.proofs.comparing.compare.Goals as goal

pub returns-then-not-is_newer-clause-finds : goal.returns-then-not-is_newer-clause-finds
returns-then-not-is_newer-clause-finds g c h k was now version =
    let src = g.S.NodeSource in
    let span = c.root_span.result in
    let is = c.root_span.ensures in
    let by = c.args.comparison in
    let changed = c.args.findings.now.changed in
    let told = src.told c.args.state.now in
    let off : c.is_newer.result ≡ false = grind (arith, c.if-not-is_newer.true) in
    let found = c.in-Ok.ensures.found above_root k (root-place (src.IsAt told) span (src.site c.args.new) k is now.holds) in
    let low = found-version src.leaf_points src.inner_slot src.inner_place span (src.IsAt told) above_root k by.since c.in-Ok.found (c.is_newer.ensures off) found in
    let agree = agree-since by.since h k version in
    let equal = agree.nodes above_root span.height span.start low in
    let none : IsCut changed = subst IsCut (sym c.requires.given.1) (record { each = tt; apart = tt }) in
    root-changes by changed changed h k c.requires.given.0 c.requires.given.1 none was.times now.times (root-adds span by changed changed (bag h) (bag k) is (adds-as by changed changed _ _ _ _ (λ i. points_of span.height span.start (bag h)) equal (adds-none by changed (points_of span.height span.start (bag h)))))

pub compare_found-compared-requires-clause-new : goal.compare_found-compared-requires-clause-new
compare_found-compared-requires-clause-new g c =
    let src = g.S.NodeSource in
    (src.count (src.site c.args.new), subst (λ u. IsSafeFound (src.IsSafe u) src.count src.leaf_points src.inner_slot src.inner_place (src.count (src.site c.args.new)) c.root_span.result c.in-Ok.found) (sym c.in-Ok.ensures.uses.same) c.in-Ok.ensures.safe)

pub returns-else-not-is_newer-clause-finds : goal.returns-else-not-is_newer-clause-finds
returns-else-not-is_newer-clause-finds g c =
    let src = g.S.NodeSource in
    let span = c.root_span.result in
    let is = c.root_span.ensures in
    let by = c.args.comparison in
    let back = c.in-Ok.ensures.uses.same in
    let told = src.told c.args.state.now in
    let cut : IsCut c.compare_found-compared.new.findings.changed = c.as_slice-apart.ensures.cut in
    on_ok_weaker c.compare_found-compared.result (λ e h k was now version.
    let old = root-place (src.IsAt told) span (src.site c.args.old) h is was.holds in
    let found = c.in-Ok.ensures.found above_root k (root-place (src.IsAt told) span (src.site c.args.new) k is now.holds) in
    root-changes by c.args.findings.now.changed c.compare_found-compared.new.findings.changed h k c.requires.given.0 c.requires.given.1 cut was.times now.times (root-adds span by c.args.findings.now.changed c.compare_found-compared.new.findings.changed (bag h) (bag k) is (e h k (above_root, subst (λ u. src.IsAt u (src.site c.args.old) span.height span.start above_root h) (sym back) old) (above_root, subst (λ u. IsFoundAt (src.IsAt u) src.leaf_points src.inner_slot src.inner_place span above_root k c.in-Ok.found) (sym back) found) (agree-since by.since h k version)))) c.compare_found-compared.ensures.adds

pub returns-else-not-is_newer-clause-sound : goal.returns-else-not-is_newer-clause-sound
returns-else-not-is_newer-clause-sound g c =
    let src = g.S.NodeSource in
    let span = c.root_span.result in
    let is = c.root_span.ensures in
    let back = c.in-Ok.ensures.uses.same in
    let told = src.told c.args.state.now in
    refused-weaker _ _ c.compare_found-compared.result (λ e f h k was now.
    let old = root-place (src.IsThere told) span (src.site c.args.old) h is was.holds in
    let found = c.in-Ok.ensures.there above_root k (root-place (src.IsThere told) span (src.site c.args.new) k is now.holds) in
    f h k (above_root, subst (λ u. src.IsThere u (src.site c.args.old) span.height span.start above_root h) (sym back) old) (above_root, subst (λ u. IsFoundAt (src.IsThere u) src.leaf_points src.inner_slot src.inner_place span above_root k c.in-Ok.found) (sym back) found)) c.compare_found-compared.ensures.sound

pub returns-else-not-is_newer-clause-newer : goal.returns-else-not-is_newer-clause-newer
returns-else-not-is_newer-clause-newer g c =
    let src = g.S.NodeSource in
    let span = c.root_span.result in
    let is = c.root_span.ensures in
    let since = c.args.comparison.since in
    let back = c.in-Ok.ensures.uses.same in
    let told = src.told c.args.state.now in
    let counts = c.in-Ok.ensures.counts in
    let up = counts.never_falls in
    let most = counts.at_most in
    let below = c.compare_found-compared.ensures.newer in
    let more = below.never_falls in
    record {
      bounded = λ k holds.
          let found = c.in-Ok.ensures.found above_root k (root-place (src.IsAt told) span (src.site c.args.new) k is holds) in
          let few = below.bounded k (above_root, subst (λ u. IsFoundAt (src.IsAt u) src.leaf_points src.inner_slot src.inner_place span above_root k c.in-Ok.found) (sym back) found) in
          root-bounded c.args.steps.now c.compare_found-compared.new.steps since k (root-below span (c.args.steps.now + 1) c.compare_found-compared.new.steps since k is (omega arith));
      never_falls = omega arith;
    }
