use Rattle.std.proofs.Common.{◌+◌, ◌++◌, ◌∷◌, [], ◌∙◌, ◌<◌, ◌^◌, Some, is_some, ap, refl, arith}
use Rattle.btr_board.specs.Put.{put_at}
use Rattle.btr_board.specs.Places.{found, node_of, width}
use Rattle.btr_board.proofs.ValueLemmas.{link-same}
use Rattle.btr_board.proofs.TrailLemmas.{pushed-is, raised-is, raised-push, full-is}
use Rattle.btr_board.proofs.trail.Trail.push.Goals as goal

pub put-requires-clause-filled : goal.put-requires-clause-filled
put-requires-clause-filled g c i lt =
    ap (λ o. is_some (found c.self.inside.height o i)) (link-same c.self.inside.root c.as_ref.result c.as_ref.ensures.value)
    ∙ c.self.invariant.filled i (omega arith)

pub invariant_of-result : goal.invariant_of-result
invariant_of-result g c =
    let h = c.self.inside.height in
    let n = c.self.inside.len in
    let link = link-same c.self.inside.root c.as_ref.result c.as_ref.ensures.value in
    (pushed-is h n (n + 1) c.args.item (found h (node_of c.self.inside.root)) (found h (Some c.in_ok-root.root.value)) c.self.invariant.low (c.has_room.ensures.0 c.if-has_room.true) c.self.invariant.filled refl (λ j. c.in_ok-root.ensures j ∙ ap (λ o. put_at n c.args.item (found h o) j) link)).trail

pub returns-then-has_room : goal.returns-then-has_room
returns-then-has_room g c =
    let h = c.self.inside.height in
    let n = c.self.inside.len in
    let link = link-same c.self.inside.root c.as_ref.result c.as_ref.ensures.value in
    (pushed-is h n (n + 1) c.args.item (found h (node_of c.self.inside.root)) (found h (Some c.in_ok-root.root.value)) c.self.invariant.low (c.has_room.ensures.0 c.if-has_room.true) c.self.invariant.filled refl (λ j. c.in_ok-root.ensures j ∙ ap (λ o. put_at n c.args.item (found h o) j) link)).list
    ∙ ap (λ xs. xs ++ c.args.item ∷ []) c.self.view_is

pub put-requires-2-clause-low : goal.put-requires-2-clause-low
put-requires-2-clause-low g c =
    let full = full-is c.has_room.result c.self.inside.len (width (c.self.inside.height + 1)) c.if-has_room.false c.has_room.ensures.1 in
    let short : c.self.inside.len < 2 ^ 64 = omega arith in
    (raised-is c.self.inside.height c.self.inside.len (found c.self.inside.height (node_of c.self.inside.root)) (found (c.self.inside.height + 1) (Some c.in_ok-above.above.value)) c.self.invariant short full c.in_ok-above.ensures).low

pub put-requires-2-clause-filled : goal.put-requires-2-clause-filled
put-requires-2-clause-filled g c =
    let full = full-is c.has_room.result c.self.inside.len (width (c.self.inside.height + 1)) c.if-has_room.false c.has_room.ensures.1 in
    let short : c.self.inside.len < 2 ^ 64 = omega arith in
    (raised-is c.self.inside.height c.self.inside.len (found c.self.inside.height (node_of c.self.inside.root)) (found (c.self.inside.height + 1) (Some c.in_ok-above.above.value)) c.self.invariant short full c.in_ok-above.ensures).filled

pub invariant_of-result-2 : goal.invariant_of-result-2
invariant_of-result-2 g c =
    let full = full-is c.has_room.result c.self.inside.len (width (c.self.inside.height + 1)) c.if-has_room.false c.has_room.ensures.1 in
    let short : c.self.inside.len < 2 ^ 64 = omega arith in
    (raised-push c.self.inside.height c.self.inside.len c.args.item (found c.self.inside.height (node_of c.self.inside.root)) (found (c.self.inside.height + 1) (Some c.in_ok-above.above.value)) (found (c.self.inside.height + 1) (Some c.in_ok-root-2.root.value)) c.self.invariant short full c.in_ok-above.ensures c.in_ok-root-2.ensures).trail

pub returns : goal.returns
returns g c =
    let full = full-is c.has_room.result c.self.inside.len (width (c.self.inside.height + 1)) c.if-has_room.false c.has_room.ensures.1 in
    let short : c.self.inside.len < 2 ^ 64 = omega arith in
    (raised-push c.self.inside.height c.self.inside.len c.args.item (found c.self.inside.height (node_of c.self.inside.root)) (found (c.self.inside.height + 1) (Some c.in_ok-above.above.value)) (found (c.self.inside.height + 1) (Some c.in_ok-root-2.root.value)) c.self.invariant short full c.in_ok-above.ensures c.in_ok-root-2.ensures).list
    ∙ ap (λ xs. xs ++ c.args.item ∷ []) c.self.view_is
