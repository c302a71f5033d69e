use Rattle.std.proofs.Common.{sym, subst, ◌∙◌, arith}
use Rattle.btr_open.specs.Shelf.{HasRollOf}
use Rattle.btr_open.proofs.ShelfLemmas.{no-stream, reads-are}
use Rattle.btr_open.proofs.shelf.ShelfStreamFacts.versions_read.Goals as goal

pub returns-in-Some : goal.returns-in-Some
returns-in-Some c h of has =
    let its = subst (HasRollOf h) (sym c.self.view_is) of in
    c.reads_of.ensures ∙ reads-are h (record { roll = c.self.inside.roll; entries = c.self.inside.entries }) its c.args.stream c.args.version c.in-Some.its.now c.in-Some.ensures has.1

pub returns-in-None : goal.returns-in-None
returns-in-None c h of has =
    let low = has.0 in
    let past = no-stream h (record { roll = c.self.inside.roll; entries = c.self.inside.entries }) (subst (HasRollOf h) (sym c.self.view_is) of) c.args.stream c.in-None.ensures in
    absurd (omega (arith, low, past))
