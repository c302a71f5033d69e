-- The line's text and status were added.
use Rattle.std.specs.Prelude.{◌≡◌, ◌++◌}
use Rattle.std.proofs.Common.{◌∙◌, ap}
use Rattle.btr_store.specs.Report.{report_text}
use Rattle.btr_store.specs.declared.status.Status.{Status}
use Rattle.btr_store.specs.Status.{greater}
use Rattle.btr_store.proofs.TranscriptLemmas.{adds_line, on_ok}
use Rattle.btr_store.proofs.transcript.Transcript.add.Goals as goal

pub returns : goal.returns
returns c =
    on_ok c.write_line.result (c.write_line.new.out.items ≡ c.args.self.now.text.items ++ report_text c.args.line.now) _ (λ written.
    adds_line c.args.line.now c.args.self.now _ written (c.greater-self.ensures ∙ ap (λ (s : Status). greater c.args.self.now.status s) c.of_line.ensures))
    c.write_line.ensures.ok
