use Rattle.btr_hall.specs.declared.item.Item.TheVariants.{Halted}
use Rattle.btr_hall.proofs.CommitLemmas.{shown_is}
use Rattle.btr_hall.proofs.commit.halted.Goals as goal

pub returns : goal.returns
returns g c =
    let entry = shown_is c.of.result c.args.entry.now c.of.ensures in
    let engine = shown_is c.of-2.result c.args.engine.now c.of-2.ensures in
    λ i. Halted (entry i) (engine i)
