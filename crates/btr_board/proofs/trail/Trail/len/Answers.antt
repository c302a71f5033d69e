use Rattle.std.proofs.Common.{◌∙◌, sym, ap, length}
use Rattle.btr_board.specs.Places.{found, node_of}
use Rattle.btr_board.proofs.ListedLemmas.{listed-length}
use Rattle.btr_board.proofs.trail.Trail.len.Goals as goal

pub returns : goal.returns
returns g c =
    sym (listed-length c.self.inside.len (found c.self.inside.height (node_of c.self.inside.root)) c.self.invariant.filled)
    ∙ ap length c.self.view_is
