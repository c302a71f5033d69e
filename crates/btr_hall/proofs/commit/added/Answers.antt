use Rattle.btr_hall.specs.declared.item.Item.TheVariants.{Added}
use Rattle.btr_hall.proofs.CommitLemmas.{shown_is}
use Rattle.btr_hall.proofs.commit.added.Goals as goal

pub returns : goal.returns
returns g c =
    let entry = shown_is c.of.result c.args.entry.now c.of.ensures in
    let engine = shown_is c.of-2.result c.args.engine.now c.of-2.ensures in
    λ i. Added (entry i) (engine i)
