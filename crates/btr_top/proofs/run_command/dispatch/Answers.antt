-- A run of `format` makes a store of the blocks that the words say. A command that reads the device, and one for whose words there is no
-- memory, keeps it.
use Rattle.std.specs.Prelude.{map, string_bytes, Option}
use Rattle.std.proofs.Common.{◌≡◌, sym, ◌∙◌, subst, Some}
use Rattle.btr_words.specs.declared.command.Command.{Command}
use Rattle.btr_words.specs.Words.{command_of}
use Rattle.btr_top.specs.Run.{IsReader, KeepsDevice}
use Rattle.btr_top.proofs.ColdCauses.{uncalled_keeps}
use Rattle.btr_top.proofs.run_command.dispatch.Goals as goal

same_command : (a b : Command) → Some a ≡ Some b → a ≡ b
same_command a b is = cc

pub returns-in-Ok-Some-clause-format_leaves : goal.returns-in-Ok-Some-clause-format_leaves
returns-in-Ok-Some-clause-format_leaves g c = λ reported blocks is.
    let arm = c.in-Ok-Some in
    c.run_one.ensures.format_leaves reported blocks (same_command arm.command _ (sym arm.field-0-is ∙ arm.ensures.command ∙ is))

pub returns-in-Ok-Some-clause-kept : goal.returns-in-Ok-Some-clause-kept
returns-in-Ok-Some-clause-kept g c =
    let arm = c.in-Ok-Some in
    subst (λ (o : Option Command). IsReader o → KeepsDevice g.D.Disk o c.args.disk c.run_one.result.disk) (sym arm.field-0-is ∙ arm.ensures.command) c.run_one.ensures.kept

pub returns-in-Ok-None-clause-kept : goal.returns-in-Ok-None-clause-kept
returns-in-Ok-None-clause-kept g c = λ reader.
    subst (λ d. KeepsDevice g.D.Disk (command_of (map string_bytes c.args.words.now)) c.args.disk d) (sym c.undone.ensures.disk)
    (uncalled_keeps g.D.Disk (command_of (map string_bytes c.args.words.now)) c.args.disk (λ reported. (g.met.D.Disk g.world.𝓛 g.world.𝓜 g.world.𝓡 ((λ s x. x), (λ x. x), (λ x. x), λ x. x)).only_now reported c.args.disk))

pub returns-in-Err-clause-kept : goal.returns-in-Err-clause-kept
returns-in-Err-clause-kept g c = λ reader.
    subst (λ d. KeepsDevice g.D.Disk (command_of (map string_bytes c.args.words.now)) c.args.disk d) (sym c.undone-in-Err.ensures.disk)
    (uncalled_keeps g.D.Disk (command_of (map string_bytes c.args.words.now)) c.args.disk (λ reported. (g.met.D.Disk g.world.𝓛 g.world.𝓜 g.world.𝓡 ((λ s x. x), (λ x. x), (λ x. x), λ x. x)).only_now reported c.args.disk))
