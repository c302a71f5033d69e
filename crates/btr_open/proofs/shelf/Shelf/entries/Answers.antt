use Rattle.std.proofs.Common.{ap, ◌∙◌}
use Rattle.btr_open.specs.Shelf.{ShelfValue}
use Rattle.btr_open.proofs.shelf.Shelf.entries.Goals as goal

pub returns-clause-of : goal.returns-clause-of
returns-clause-of c h of = ap (λ (s : ShelfValue). s.entries) c.self.view_is ∙ of.entries
