use Rattle.std.proofs.Common.{◌∙◌, sym, ap, length, slice_get, arith}
use Rattle.btr_board.specs.Places.{found, node_of}
use Rattle.btr_board.proofs.ValueLemmas.{link-same}
use Rattle.btr_board.proofs.ListedLemmas.{listed-length, listed-get}
use Rattle.btr_board.proofs.TrailLemmas.{match-item}
use Rattle.btr_board.proofs.trail.Trail.get.Goals as goal

pub returns-then-place-self : goal.returns-then-place-self
returns-then-place-self g c =
    let long = listed-length c.self.inside.len (found c.self.inside.height (node_of c.self.inside.root)) c.self.invariant.filled in
    omega (arith, ap length c.self.view_is)

pub returns : goal.returns
returns g c =
    match-item c.args.self.now c.args.place c.get_at.result (c.get_at.ensures
    ∙ ap (λ o. found c.self.inside.height o c.args.place) (link-same c.self.inside.root c.as_ref.result c.as_ref.ensures.value)
    ∙ sym (listed-get c.self.inside.len (found c.self.inside.height (node_of c.self.inside.root)) c.args.place c.self.invariant.filled c.if-place-self.false)
    ∙ ap (λ xs. slice_get xs c.args.place) c.self.view_is)
