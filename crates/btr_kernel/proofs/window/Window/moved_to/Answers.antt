use Rattle.std.proofs.Common.{pos, ◌+ℤ◌, ◌-ℤ◌, ◌∙◌, arith, slice_range}
use Rattle.std.proofs.lemmas.Int.{ints}
use Rattle.btr_kernel.proofs.PlaceLemmas.{place-rises, place-within, place-at, window-places}
use Rattle.btr_kernel.proofs.window.Window.moved_to.Goals as goal

pub returns-clause-points : goal.returns-clause-points
returns-clause-points c =
    let b = c.args.points.now in
    let from = place-at b _ (c.args.t -ℤ pos c.args.lead) _ c.place_near.ensures (omega (arith, ints)) in
    let to = place-at b _ (c.args.t +ℤ pos 1) _ c.place_near-2.ensures (omega (arith, ints)) in
    (λ i. slice_range b (from i) (to i)) ∙ window-places c.args.lead c.args.t b c.requires.order

pub returns-clause-placed : goal.returns-clause-placed
returns-clause-placed c =
    let b = c.args.points.now in
    let from = place-at b _ (c.args.t -ℤ pos c.args.lead) _ c.place_near.ensures (omega (arith, ints)) in
    let to = place-at b _ (c.args.t +ℤ pos 1) _ c.place_near-2.ensures (omega (arith, ints)) in
    record {
      order = omega (arith, from, to, place-rises (c.args.t -ℤ pos c.args.lead) (c.args.t +ℤ pos 1) b (omega (arith, ints)));
      within = omega (arith, to, place-within (c.args.t +ℤ pos 1) b);
    }
