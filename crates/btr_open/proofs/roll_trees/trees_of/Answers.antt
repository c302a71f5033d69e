use Rattle.std.specs.Prelude.{map, ◌∷◌, []}
use Rattle.std.proofs.Common.{arith, ap, ◌∙◌}
use Rattle.std.proofs.lemmas.List.{map-append}
use Rattle.btr_open.proofs.StartTrees.{trees-on}
use Rattle.btr_open.proofs.roll_trees.trees_of.Goals as goal

pub loop-number-preserved : goal.loop-number-preserved
loop-number-preserved c =
    let l = c.loop-number in
    trees-on c.args.nodes.now c.args.streams.now l.number (map (λ ts. ts.items) l.trees.items) (map (λ ts. ts.items) c.push.new.items.items) c.in_ok-of_stream.of_stream.items l.invariant (omega (arith, c.loop-number-test.true)) c.in_ok-of_stream.ensures.trees
    (ap (map (λ ts. ts.items)) c.in_ok-push.ensures ∙ map-append (λ ts. ts.items) l.trees.items (c.in_ok-of_stream.of_stream ∷ []))
