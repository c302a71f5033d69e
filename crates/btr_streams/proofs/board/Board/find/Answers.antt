use Rattle.std.proofs.Common.{ap, ◌∙◌}
use Rattle.btr_streams.specs.Board.{Kept, place_of, ids_of}
use Rattle.btr_streams.proofs.StreamsLemmas.{has-streams, ids-of}
use Rattle.btr_streams.proofs.BoardNext.{place-below}
use Rattle.btr_streams.proofs.board.Board.find.Goals as goal

pub returns-clause-of : goal.returns-clause-of
returns-clause-of c h of =
    c.find.ensures ∙ c.self.invariant.numbered c.args.id ∙ ap (λ (b : Kept). place_of (ids_of b.streams) c.args.id) c.self.view_is ∙ ap (λ l. place_of l c.args.id) (ids-of h c.args.self.now (has-streams h c.args.self.now of))

pub returns-clause-below : goal.returns-clause-below
returns-clause-below c =
    place-below c.args.self.now.streams c.args.id c.find.result
    (c.find.ensures ∙ c.self.invariant.numbered c.args.id ∙ ap (λ (b : Kept). place_of (ids_of b.streams) c.args.id) c.self.view_is)
