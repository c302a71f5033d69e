use Rattle.std.proofs.Common.{[], rules, ◌≡◌, ap, ap₂, ◌∙◌}
use Rattle.std.proofs.lemmas.Result.{IfOk-weaker}
use Rattle.clap.specs.Words.{App, app_of, with_subcommand}
use Rattle.clap.proofs.SimpleLemmas.{plain_fields}
use Rattle.btr_words.specs.Program.{program_shape, format_app, load_app}
use Rattle.btr_words.proofs.program.first_commands.Goals as goal

pub returns : goal.returns
returns c =
    let start : app_of c.subcommand_required.result ≡ record { top = program_shape; subs = [] } = search rules in
    let with_format : app_of c.in_ok-subcommand.field-0 ≡ with_subcommand (record { top = program_shape; subs = [] }) format_app.top =
    c.in_ok-subcommand.ensures.shape (plain_fields _ (ap (λ (a : App). a.top.is_plain) c.in_ok-format_command.ensures)).globals ∙ ap₂ with_subcommand start (ap (λ (a : App). a.top) c.in_ok-format_command.ensures) in
    let with_load : app_of c.in_ok-subcommand-2.field-0 ≡ with_subcommand (with_subcommand (record { top = program_shape; subs = [] }) format_app.top) load_app.top =
    c.in_ok-subcommand-2.ensures.shape (plain_fields _ (ap (λ (a : App). a.top.is_plain) c.in_ok-load_command.ensures)).globals ∙ ap₂ with_subcommand with_format (ap (λ (a : App). a.top) c.in_ok-load_command.ensures) in
    IfOk-weaker c.subcommand-3.result _ _ (λ m h. h.shape (plain_fields _ (ap (λ (a : App). a.top.is_plain) c.in_ok-ask_command.ensures)).globals ∙ ap₂ with_subcommand with_load (ap (λ (a : App). a.top) c.in_ok-ask_command.ensures)) c.subcommand-3.ensures
