use Rattle.std.proofs.Common.{sym, ap, subst, ◌∙◌, arith}
use Rattle.btr_roll.specs.Roll.{RollStreamValue}
use Rattle.btr_open.specs.Shelf.{HasRollOf}
use Rattle.btr_open.proofs.ShelfLemmas.{no-stream, first-is}
use Rattle.btr_open.proofs.shelf.ShelfStreamFacts.earliest_version.Goals as goal

pub returns-in-Some : goal.returns-in-Some
returns-in-Some c h of low =
    let its = subst (HasRollOf h) (sym c.self.view_is) of in
    ap (λ (s : RollStreamValue). s.first) c.its.view_is ∙ first-is h (record { roll = c.self.inside.roll; entries = c.self.inside.entries }) its c.args.stream c.in-Some.its.now c.in-Some.ensures

pub returns-in-None : goal.returns-in-None
returns-in-None c h of low =
    let past = no-stream h (record { roll = c.self.inside.roll; entries = c.self.inside.entries }) (subst (HasRollOf h) (sym c.self.view_is) of) c.args.stream c.in-None.ensures in
    absurd (omega (arith, low, past))
