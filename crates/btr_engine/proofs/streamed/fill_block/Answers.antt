use Rattle.std.specs.Prelude.{option_map}
use Rattle.std.proofs.Common.{sym, ap, ◌∙◌}
use Rattle.btr_disk.specs.Gate.{zeros}
use Rattle.btr_engine.specs.Streamed.{node_block}
use Rattle.btr_engine.proofs.streamed.fill_block.Goals as goal

pub returns-in-None : goal.returns-in-None
unfolding zeros
returns-in-None c =
    c.fill.ensures.after (λ y e. e)
    ∙ ap zeros c.told-to
    ∙ sym (ap (λ node. node_block c.args.stream (option_map (λ n. n.now) node)) c.in-None.is)
