use Rattle.std.proofs.Common.{◌-◌, ◌+◌, ◌∙◌, arith}
use Rattle.std.proofs.lemmas.List.{length-set}
use Rattle.btr_tree.proofs.PlaceLemmas.{places-next}
use Rattle.btr_tree.proofs.opened.places_of.Goals as goal

pub loop-n-preserved-then-i-lt64 : goal.loop-n-preserved-then-i-lt64
loop-n-preserved-then-i-lt64 c = record {
  slots = length-set c.loop-n.places c.from-i.result (c.loop-n.n - 1 + 1) ∙ c.loop-n.invariant.slots;
  places = places-next c.args.children.now c.loop-n.places c.loop-n.n c.from-i.result c.index-children-n.result c.loop-n-test.true c.loop-n.auto.n c.from-i.ensures (omega (arith, c.if-i-lt64.true, c.loop-n.invariant.slots)) c.loop-n.invariant.places;
}
