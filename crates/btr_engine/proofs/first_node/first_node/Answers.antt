use Rattle.std.proofs.Common.{sym, subst, arith}
use Rattle.btr_entry.proofs.SpellingLemmas.{length-commit, length-distillate}
use Rattle.btr_engine.specs.Travel.{IsFirstNode}
use Rattle.btr_engine.proofs.first_node.first_node.Goals as goal

pub returns-in-Commit-clause-block : goal.returns-in-Commit-clause-block
returns-in-Commit-clause-block c =
    subst (λ e. IsFirstNode c.args.tail e c.block_after.result) (sym c.in-Commit.is)
    (λ bounds. omega (arith, c.block_after.ensures.block, c.items_length.ensures.length (omega (arith, bounds.few_ranges)) (omega (arith, bounds.few_points)), length-commit c.in-Commit.stream c.in-Commit.cut c.in-Commit.added))

pub returns-in-Distillate-clause-block : goal.returns-in-Distillate-clause-block
returns-in-Distillate-clause-block c =
    let d = c.in-Distillate in
    subst (λ e. IsFirstNode c.args.tail e c.block_after-in-Distillate.result) (sym d.is)
    (λ bounds. omega (arith, c.block_after-in-Distillate.ensures.block, c.items_length-in-Distillate.ensures.length (omega (arith, bounds.few_ranges)) (omega (arith, bounds.few_points)), c.reads_length.ensures.length, length-distillate d.stream d.cut d.added d.reads))
