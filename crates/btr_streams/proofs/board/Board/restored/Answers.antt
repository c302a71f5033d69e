use Rattle.std.proofs.Common.{◌≡◌, length, map, ap, ◌∙◌, rules}
use Rattle.btr_streams.specs.Board.{Kept}
use Rattle.btr_streams.proofs.BoardStreamLemmas.{none-in}
use Rattle.btr_streams.proofs.RestoringLemmas.{found-at, restoring-next, restoring-push, restoring-all}
use Rattle.btr_streams.proofs.board.Board.restored.Goals as goal

pub with_restored-requires-clause-fresh : goal.with_restored-requires-clause-fresh
with_restored-requires-clause-fresh c =
    let b : Kept = c.loop-trees.board in
    let found = c.in-Some-get.ensures.lookup in
    let place = c.len.ensures ∙ ap (λ (k : Kept). length k.streams) c.board.view_is in
    let at = found-at c.deref.result.now c.args.roll.now c.len.result (length b.streams) c.in-Some-get.stream.now found.3.0 found.1 (c.deref.ensures.value ∙ c.roll.view_is) place in
    (restoring-next c.args.roll.now _ c.requires.roll.0 c.requires.roll.1 c.requires.trees _ c.args.entries b c.loop-trees.invariant c.in-Some-get.stream.now c.in-Some.trees.items _ at (ap (map (λ v. v.items)) c.in-Some.ensures.steps.0)).fresh

pub with_restored-requires-clause-trees : goal.with_restored-requires-clause-trees
with_restored-requires-clause-trees c =
    let b : Kept = c.loop-trees.board in
    let found = c.in-Some-get.ensures.lookup in
    let place = c.len.ensures ∙ ap (λ (k : Kept). length k.streams) c.board.view_is in
    let at = found-at c.deref.result.now c.args.roll.now c.len.result (length b.streams) c.in-Some-get.stream.now found.3.0 found.1 (c.deref.ensures.value ∙ c.roll.view_is) place in
    (restoring-next c.args.roll.now _ c.requires.roll.0 c.requires.roll.1 c.requires.trees _ c.args.entries b c.loop-trees.invariant c.in-Some-get.stream.now c.in-Some.trees.items _ at (ap (map (λ v. v.items)) c.in-Some.ensures.steps.0)).trees

pub with_restored-requires-clause-inputs : goal.with_restored-requires-clause-inputs
with_restored-requires-clause-inputs c =
    let b : Kept = c.loop-trees.board in
    let found = c.in-Some-get.ensures.lookup in
    let place = c.len.ensures ∙ ap (λ (k : Kept). length k.streams) c.board.view_is in
    let at = found-at c.deref.result.now c.args.roll.now c.len.result (length b.streams) c.in-Some-get.stream.now found.3.0 found.1 (c.deref.ensures.value ∙ c.roll.view_is) place in
    (restoring-next c.args.roll.now _ c.requires.roll.0 c.requires.roll.1 c.requires.trees _ c.args.entries b c.loop-trees.invariant c.in-Some-get.stream.now c.in-Some.trees.items _ at (ap (map (λ v. v.items)) c.in-Some.ensures.steps.0)).inputs

pub loop-trees-preserved : goal.loop-trees-preserved
loop-trees-preserved c =
    let b : Kept = c.loop-trees.board in
    let found = c.in-Some-get.ensures.lookup in
    let place = c.len.ensures ∙ ap (λ (k : Kept). length k.streams) c.board.view_is in
    let at = found-at c.deref.result.now c.args.roll.now c.len.result (length b.streams) c.in-Some-get.stream.now found.3.0 found.1 (c.deref.ensures.value ∙ c.roll.view_is) place in
    restoring-push c.args.roll.now _ c.requires.roll.0 c.requires.roll.1 c.requires.trees _ c.args.entries b c.loop-trees.invariant c.in-Some-get.stream.now c.in-Some.trees.items _ at (ap (map (λ v. v.items)) c.in-Some.ensures.steps.0) c.in_ok-board.board c.in_ok-board.ensures

pub returns : goal.returns
returns c =
    let size : length c.loop-trees.trees-iterator.rest.items ≡ c.loop-trees.trees-iterator.rest.len = search rules in
    let none = none-in c.loop-trees.trees-iterator.rest.items (size ∙ c.in-None.ensures.steps.0) in
    restoring-all c.args.roll.now _ c.requires.roll.0 c.requires.roll.1 c.requires.trees _ c.args.entries c.loop-trees.board c.loop-trees.invariant (ap (map (λ v. v.items)) none)
