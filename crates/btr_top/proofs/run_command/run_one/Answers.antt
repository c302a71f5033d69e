-- A run of `format` reads nothing of the source, and makes a store of the blocks that the words say.
use Rattle.std.proofs.Common.{◌≡◌, ℕ, sym, ap, subst, ◌∙◌, arith, List, length, drop, ◌-◌}
use Rattle.btr_io.specs.Bytes.{Gives}
use Rattle.btr_words.specs.declared.command.Command.TheVariants.{Format}
use Rattle.btr_top.specs.Format.{FormatLeaves}
use Rattle.btr_top.proofs.run_command.run_one.Goals as goal

same_blocks : (a b : ℕ) → Format a ≡ Format b → a ≡ b
same_blocks a b is = cc

gives_none : (most : ℕ) (left : List ℕ) → Gives most left left
gives_none most left =
    let none : length left - length left ≡ 0 = omega arith in
    record { bounded = omega arith; rest = ap (λ n. drop n left) (sym none) }

pub returns-in-Format-clause-input : goal.returns-in-Format-clause-input
returns-in-Format-clause-input g c = λ at_once reported. gives_none 268435457 (g.S.Source.left c.args.source.now)

pub returns-in-Format-clause-format_leaves : goal.returns-in-Format-clause-format_leaves
returns-in-Format-clause-format_leaves g c = λ reported blocks is.
    subst (λ (n : ℕ). FormatLeaves g.D.Disk n c.args.disk c.make_store.result.disk) (same_blocks _ blocks (sym c.in-Format.is ∙ is)) (c.make_store.ensures.format_leaves reported)

pub returns-in-Sample-clause-input : goal.returns-in-Sample-clause-input
returns-in-Sample-clause-input g c = λ at_once reported. gives_none 268435457 (g.S.Source.left c.args.source.now)

pub returns-in-Checkpoint-clause-input : goal.returns-in-Checkpoint-clause-input
returns-in-Checkpoint-clause-input g c = λ at_once reported. gives_none 268435457 (g.S.Source.left c.args.source.now)

pub returns-in-Seal-clause-input : goal.returns-in-Seal-clause-input
returns-in-Seal-clause-input g c = λ at_once reported. gives_none 268435457 (g.S.Source.left c.args.source.now)

pub returns-in-Check-clause-input : goal.returns-in-Check-clause-input
returns-in-Check-clause-input g c = λ at_once reported. gives_none 268435457 (g.S.Source.left c.args.source.now)

pub returns-in-Ship-clause-input : goal.returns-in-Ship-clause-input
returns-in-Ship-clause-input g c = λ at_once reported. gives_none 268435457 (g.S.Source.left c.args.source.now)

pub returns-in-Distil-clause-input : goal.returns-in-Distil-clause-input
returns-in-Distil-clause-input g c = λ at_once reported. gives_none 268435457 (g.S.Source.left c.args.source.now)
