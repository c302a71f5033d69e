use Rattle.std.specs.Prelude.{length, map}
use Rattle.std.proofs.Common.{rules, ◌≡◌, sym, ap, subst, ◌∙◌}
use Rattle.btr_hist.specs.declared.answer.Answer.TheVariants.{Found}
use Rattle.btr_hist.specs.declared.answer.Rows.TheVariants.{Streams}
use Rattle.btr_open.specs.Shelf.{HasRollOf, row_on}
use Rattle.btr_open.proofs.ShelfLemmas.{all-rows}
use Rattle.btr_open.proofs.shelf.Shelf.all_streams.Goals as goal

pub returns-in-Ok-clause-answer : goal.returns-in-Ok-clause-answer
returns-in-Ok-clause-answer c h of =
    let its = subst (HasRollOf h) (sym c.self.view_is) of in
    let same : c.deref.result.now ≡ c.self.inside.roll = search rules in
    ap (λ n. Found n (Streams c.from_rows.result)) (c.entries-entries.ensures.of h of) ∙ ap (λ l. Found (length h) (Streams l)) (c.from_rows.ensures ∙ c.in-Ok.ensures ∙ ap (map row_on) same ∙ all-rows h (record { roll = c.self.inside.roll; entries = c.self.inside.entries }) its)
