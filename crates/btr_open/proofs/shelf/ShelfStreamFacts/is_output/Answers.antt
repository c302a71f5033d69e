use Rattle.std.specs.Prelude.{is_some}
use Rattle.std.proofs.Common.{sym, ap, subst, ◌∙◌, arith}
use Rattle.btr_hist.specs.declared.kernel.Spec.{Spec}
use Rattle.btr_roll.specs.Roll.{RollStreamValue}
use Rattle.btr_open.specs.Shelf.{HasRollOf}
use Rattle.btr_open.proofs.ShelfLemmas.{no-stream, spec-is}
use Rattle.btr_open.proofs.shelf.ShelfStreamFacts.is_output.Goals as goal

pub returns-in-Some : goal.returns-in-Some
returns-in-Some c h of low =
    let its = subst (HasRollOf h) (sym c.self.view_is) of in
    c.is_some.ensures ∙ ap (λ (s : RollStreamValue). is_some s.spec) c.its.view_is ∙ ap (is_some {T = Spec}) (spec-is h (record { roll = c.self.inside.roll; entries = c.self.inside.entries }) its c.args.stream c.in-Some.its.now c.in-Some.ensures)

pub returns-in-None : goal.returns-in-None
returns-in-None c h of low =
    let past = no-stream h (record { roll = c.self.inside.roll; entries = c.self.inside.entries }) (subst (HasRollOf h) (sym c.self.view_is) of) c.args.stream c.in-None.ensures in
    absurd (omega (arith, low, past))
