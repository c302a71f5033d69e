use Rattle.std.specs.Prelude.{◌≡◌, length}
use Rattle.std.specs.List.{flat_map}
use Rattle.std.proofs.Common.{arith, ap, ◌∙◌}
use Rattle.btr_roll.specs.Roll.{RollStreamValue, has_firsts, first_bytes, version_bytes, kind_bytes}
use Rattle.btr_roll.proofs.LengthLemmas.{stream-parts}
use Rattle.btr_roll.proofs.lengths.stream_length.Goals as goal

pub returns-clause-length : goal.returns-clause-length
returns-clause-length c =
    let s = c.args.stream.now in
    let kind : c.kind_length.result ≡ length (kind_bytes s.spec) = c.kind_length.ensures.length ∙ ap (λ (x : RollStreamValue). length (kind_bytes x.spec)) c.stream.view_is in
    let versions : c.versions_length.result ≡ length (flat_map version_bytes s.versions) =
    c.versions_length.ensures.length ∙ ap (λ l. length (flat_map version_bytes l)) (c.deref.ensures.value ∙ ap (λ (x : RollStreamValue). x.versions) c.stream.view_is) in
    let first : c.first_length.result ≡ length (first_bytes (has_firsts c.args.format) s.first) = c.first_length.ensures.length s.first in
    omega (arith, stream-parts c.args.format s, kind, first, versions)
