-- What the version has read, or version 0 of each input.
use Rattle.std.proofs.Common.{ap, sym, ◌∙◌, Option}
use Rattle.std.specs.Option.{unwrap_or}
use Rattle.btr_hist.specs.declared.kernel.Reads.{Reads}
use Rattle.btr_hist.specs.History.{nothing_read}
use Rattle.btr_plan.proofs.sighting.reads_of.Goals as goal

pub returns-in-Some : goal.returns-in-Some
returns-in-Some c = λ h of.
    ap (λ (o : Option Reads). unwrap_or o (nothing_read c.args.spec.now)) (sym c.in-Some.is ∙ c.reads.ensures h of)

pub returns-in-None : goal.returns-in-None
returns-in-None c = λ h of.
    c.nothing_read.ensures ∙ ap (λ (o : Option Reads). unwrap_or o (nothing_read c.args.spec.now)) (sym c.in-None.is ∙ c.reads.ensures h of)
