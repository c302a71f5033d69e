use Rattle.std.proofs.Common.{ap, ◌∙◌}
use Rattle.std.specs.Prelude.{map}
use Rattle.btr_roll.specs.Roll.{RollStreamValue}
use Rattle.btr_streams.specs.Board.{place_of}
use Rattle.btr_open.specs.Shelf.{ShelfValue}
use Rattle.btr_open.proofs.ShelfLemmas.{ids-are}
use Rattle.btr_open.proofs.shelf.Shelf.find.Goals as goal

pub returns : goal.returns
returns c h of =
    c.copied.ensures ∙ c.get.ensures.value ∙ c.self.invariant c.args.id
    ∙ ap (λ (s : ShelfValue). place_of (map (λ (x : RollStreamValue). x.id) s.roll) c.args.id) c.self.view_is
    ∙ ap (λ l. place_of l c.args.id) (ids-are h c.args.self.now of)
