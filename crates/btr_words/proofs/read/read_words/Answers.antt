use Rattle.std.proofs.Common.{◌≡◌, ◌∙◌, ap, sym, subst, inl, inr, map, string_bytes, List, [], Global, true, false}
use Rattle.clap.specs.Words.{App, app_of, fault_of, is_simple, is_simple_and_free, kind_of, subcommand_of, subcommand_rows_of}
use Rattle.clap.specs.Kinds.{HasKind}
use Rattle.clap.specs.Walk.{Text}
use Rattle.std.specs.Prelude.{IfSome}
use Rattle.std.proofs.Common.{Option}
use Rattle.btr_words.specs.declared.command.Command.{Command}
use Rattle.btr_words.specs.Words.{command_of, IsInBounds}
use Rattle.btr_words.specs.Program.{program_app}
use Rattle.btr_words.proofs.Bounds.{in_bounds}
use Rattle.btr_words.proofs.Meaning.{command_found, no_command_found, program_is_free, program_is_simple}
use Rattle.btr_words.proofs.read.read_words.Goals as goal

pub returns-in-Ok : goal.returns-in-Ok
returns-in-Ok c =
    let words : List Text = map (string_bytes {Z = Global}) c.args.words.now in
    let app : app_of c.in_ok-program.field-0 ≡ program_app = c.in_ok-program.ensures in
    let none : fault_of program_app words ≡ [] =
    subst (λ (a : App). fault_of a words ≡ []) app (c.in-Ok.ensures.kinds (ap is_simple_and_free app ∙ program_is_free)) in
    let found : subcommand_rows_of c.in-Ok.matches ≡ subcommand_of program_app words =
    subst (λ (a : App). subcommand_rows_of c.in-Ok.matches ≡ subcommand_of a words) app (c.in-Ok.ensures.matches (ap is_simple app ∙ program_is_simple)).1 in
    let means : c.command_in.result ≡ command_of words = c.command_in.ensures ∙ command_found words (subcommand_rows_of c.in-Ok.matches) none found in
    record { command = means; bounds = subst (λ (o : Option Command). IfSome o IsInBounds) (sym means) (in_bounds words) }

pub returns-clause-command : goal.returns-clause-command
returns-clause-command c =
    let words : List Text = map (string_bytes {Z = Global}) c.args.words.now in
    let app : app_of c.in_ok-program.field-0 ≡ program_app = c.in_ok-program.ensures in
    let why : HasKind (fault_of program_app words) c.in-Err.error =
    subst (λ (a : App). HasKind (fault_of a words) c.in-Err.error) app (c.in-Err.ensures.kinds (ap is_simple_and_free app ∙ program_is_free)) in
    elim why [
      | inl memory ↦
          let other : false ≡ true = rw (c.kind.ensures, memory) at (sym c.if-eq.false ∙ c.eq.ensures) in
          absurd (cc)
      | inr among ↦ no_command_found words (kind_of c.in-Err.error) among
    ]
