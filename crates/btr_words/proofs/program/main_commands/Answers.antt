use Rattle.std.proofs.Common.{◌≡◌, ap, ap₂, ◌∙◌}
use Rattle.std.proofs.lemmas.Result.{IfOk-weaker}
use Rattle.clap.specs.Words.{App, app_of, with_subcommand}
use Rattle.clap.proofs.SimpleLemmas.{plain_fields}
use Rattle.btr_words.specs.Program.{first_app, distil_app, live_app, sample_app, checkpoint_app, seal_app}
use Rattle.btr_words.proofs.program.main_commands.Goals as goal

pub returns : goal.returns
returns c =
    let with_distil : app_of c.in_ok-subcommand.field-0 ≡ with_subcommand first_app distil_app.top =
    c.in_ok-subcommand.ensures.shape (plain_fields _ (ap (λ (a : App). a.top.is_plain) c.in_ok-distil_command.ensures)).globals ∙ ap₂ with_subcommand c.in_ok-first_commands.ensures (ap (λ (a : App). a.top) c.in_ok-distil_command.ensures) in
    let with_live : app_of c.in_ok-subcommand-2.field-0 ≡ with_subcommand (with_subcommand first_app distil_app.top) live_app.top =
    c.in_ok-subcommand-2.ensures.shape (plain_fields _ (ap (λ (a : App). a.top.is_plain) c.in_ok-live_command.ensures)).globals ∙ ap₂ with_subcommand with_distil (ap (λ (a : App). a.top) c.in_ok-live_command.ensures) in
    let with_sample : app_of c.in_ok-subcommand-3.field-0 ≡ with_subcommand (with_subcommand (with_subcommand first_app distil_app.top) live_app.top) sample_app.top =
    c.in_ok-subcommand-3.ensures.shape (plain_fields _ (ap (λ (a : App). a.top.is_plain) c.in_ok-sample_command.ensures)).globals ∙ ap₂ with_subcommand with_live (ap (λ (a : App). a.top) c.in_ok-sample_command.ensures) in
    let with_checkpoint : app_of c.in_ok-subcommand-4.field-0 ≡ with_subcommand (with_subcommand (with_subcommand (with_subcommand first_app distil_app.top) live_app.top) sample_app.top) checkpoint_app.top =
    c.in_ok-subcommand-4.ensures.shape (plain_fields _ (ap (λ (a : App). a.top.is_plain) c.new.ensures.app)).globals ∙ ap₂ with_subcommand with_sample (ap (λ (a : App). a.top) c.new.ensures.app) in
    let with_seal : app_of c.in_ok-subcommand-5.field-0 ≡ with_subcommand (with_subcommand (with_subcommand (with_subcommand (with_subcommand first_app distil_app.top) live_app.top) sample_app.top) checkpoint_app.top) seal_app.top =
    c.in_ok-subcommand-5.ensures.shape (plain_fields _ (ap (λ (a : App). a.top.is_plain) c.new-2.ensures.app)).globals ∙ ap₂ with_subcommand with_checkpoint (ap (λ (a : App). a.top) c.new-2.ensures.app) in
    IfOk-weaker c.subcommand-6.result _ _ (λ m h. h.shape (plain_fields _ (ap (λ (a : App). a.top.is_plain) c.new-3.ensures.app)).globals ∙ ap₂ with_subcommand with_seal (ap (λ (a : App). a.top) c.new-3.ensures.app)) c.subcommand-6.ensures
