use Rattle.std.proofs.Common.{◌≡◌, None, sym, ap, ◌∙◌, arith, take}
use Rattle.std.specs.List.{last_or}
use Rattle.std.specs.Option.{option_map}
use Rattle.std.proofs.lemmas.Int.{ints}
use Rattle.btr_base.specs.declared.point.Point.{Point}
use Rattle.btr_kernel.specs.Places.{place_of}
use Rattle.btr_kernel.proofs.LastLemmas.{value_before-last}
use Rattle.btr_kernel.proofs.PlaceLemmas.{place-found, place-take}
use Rattle.btr_kernel.proofs.latest.value_before.Goals as goal

pub returns : goal.returns
returns c =
    let b = c.args.points.now in
    let t = c.args.t in
    let place : c.place_behind-place.result ≡ place_of t b = place-found b _ t _ _ c.place_behind-place.ensures (omega arith) (omega (arith, ints)) in
    c.last_value.ensures
    ∙ ap (λ l. option_map (λ (p : Point). p.value) (last_or None l)) (ap (λ n. take n b) place ∙ place-take t b c.requires)
    ∙ sym (value_before-last t b c.requires)
