use Rattle.std.proofs.Common.{◌<◌, ◌≤◌, length, get_or, ap, ◌∙◌, arith}
use Rattle.btr_streams.specs.Board.{Versions}
use Rattle.btr_streams.proofs.RollingLemmas.{versions-push, versions-all}
use Rattle.btr_streams.proofs.rolling.roll_stream.Goals as goal

pub loop-version-preserved : goal.loop-version-preserved
loop-version-preserved c =
    let size = ap (λ (s : Versions). length s.trees) c.kept.view_is in
    let low : c.loop-version.version < length c.args.kept.now.trees = omega (arith, c.loop-version-test.true, c.len-version-end.ensures, size) in
    (omega arith, versions-push c.args.kept.now c.loop-version.version c.loop-version.versions.items c.push.new.self.items c.in-Some.rolled c.loop-version.invariant.0 low c.in-Some.ensures.there c.loop-version.invariant.1 c.in_ok-push.ensures.items)

pub returns : goal.returns
returns c =
    let size = ap (λ (s : Versions). length s.trees) c.kept.view_is in
    let past : length c.args.kept.now.trees ≤ c.loop-version.version = omega (arith, c.loop-version-test.false, c.len-version-end.ensures, size) in
    let same = c.kept.view_is in
    let first = c.number_at.ensures ∙ ap (λ (s : Versions). get_or s.numbers 0 0) same in
    let all = versions-all c.args.kept.now c.loop-version.version c.loop-version.versions.items c.loop-version.invariant.0 past c.loop-version.invariant.1 in
    λ i. record { id = (same i).id; entry = first i; spec = (same i).spec; first = (same i).earliest; versions = all i }
