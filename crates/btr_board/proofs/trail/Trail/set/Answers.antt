use Rattle.std.proofs.Common.{◌∙◌, Some, is_some, ap, length, set, arith}
use Rattle.btr_board.specs.Put.{put_at}
use Rattle.btr_board.specs.Places.{found, node_of}
use Rattle.btr_board.proofs.ValueLemmas.{link-same}
use Rattle.btr_board.proofs.ListedLemmas.{listed-length}
use Rattle.btr_board.proofs.TrailLemmas.{set-trail, set-list}
use Rattle.btr_board.proofs.trail.Trail.set.Goals as goal

pub put-requires-clause-filled : goal.put-requires-clause-filled
put-requires-clause-filled g c i lt =
    let long = listed-length c.self.inside.len (found c.self.inside.height (node_of c.self.inside.root)) c.self.invariant.filled in
    let same = ap length c.self.view_is in
    ap (λ o. is_some (found c.self.inside.height o i)) (link-same c.self.inside.root c.as_ref.result c.as_ref.ensures.value)
    ∙ c.self.invariant.filled i (omega (arith, long, same, c.requires))

pub invariant_of-result : goal.invariant_of-result
invariant_of-result g c =
    let h = c.self.inside.height in
    let link = link-same c.self.inside.root c.as_ref.result c.as_ref.ensures.value in
    set-trail h c.self.inside.len c.args.place c.args.item (found h (node_of c.self.inside.root)) (found h (Some c.in_ok-root.root.value)) c.self.invariant (λ j. c.in_ok-root.ensures j ∙ ap (λ o. put_at c.args.place c.args.item (found h o) j) link)

pub returns : goal.returns
returns g c =
    let h = c.self.inside.height in
    let link = link-same c.self.inside.root c.as_ref.result c.as_ref.ensures.value in
    let long = listed-length c.self.inside.len (found h (node_of c.self.inside.root)) c.self.invariant.filled in
    let same = ap length c.self.view_is in
    set-list h c.self.inside.len c.args.place c.args.item (found h (node_of c.self.inside.root)) (found h (Some c.in_ok-root.root.value)) c.self.invariant (omega (arith, long, same, c.requires)) (λ j. c.in_ok-root.ensures j ∙ ap (λ o. put_at c.args.place c.args.item (found h o) j) link)
    ∙ ap (λ xs. set xs c.args.place c.args.item) c.self.view_is
