use Rattle.std.proofs.Common.{◌≡◌, ap, ap₂, ◌∙◌}
use Rattle.std.proofs.lemmas.Result.{IfOk-weaker}
use Rattle.clap.specs.Words.{App, app_of, with_subcommand}
use Rattle.clap.proofs.SimpleLemmas.{plain_fields}
use Rattle.btr_words.specs.Program.{main_app, ship_app, hear_app}
use Rattle.btr_words.proofs.program.program.Goals as goal

pub returns : goal.returns
returns c =
    let with_ship : app_of c.in_ok-subcommand.field-0 ≡ with_subcommand main_app ship_app.top =
    c.in_ok-subcommand.ensures.shape (plain_fields _ (ap (λ (a : App). a.top.is_plain) c.in_ok-ship_command.ensures)).globals ∙ ap₂ with_subcommand c.in_ok-main_commands.ensures (ap (λ (a : App). a.top) c.in_ok-ship_command.ensures) in
    let with_hear : app_of c.in_ok-subcommand-2.field-0 ≡ with_subcommand (with_subcommand main_app ship_app.top) hear_app.top =
    c.in_ok-subcommand-2.ensures.shape (plain_fields _ (ap (λ (a : App). a.top.is_plain) c.new.ensures.app)).globals ∙ ap₂ with_subcommand with_ship (ap (λ (a : App). a.top) c.new.ensures.app) in
    IfOk-weaker c.subcommand-3.result _ _ (λ m h. h.shape (plain_fields _ (ap (λ (a : App). a.top.is_plain) c.in_ok-serve_command.ensures)).globals ∙ ap₂ with_subcommand with_hear (ap (λ (a : App). a.top) c.in_ok-serve_command.ensures)) c.subcommand-3.ensures
