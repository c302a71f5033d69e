use Rattle.std.specs.Prelude.{◌≡◌, ◌+◌, ◌<◌, ◌++◌, ◌∷◌, [], length, take, slice_get, Some, IfSome}
use Rattle.std.proofs.Common.{sym, ◌∙◌, ap, subst, arith}
use Rattle.std.proofs.lemmas.List.{take_more, take_all, length-take-le}
use Rattle.std.proofs.lemmas.Option.{slice_get-get_or}
use Rattle.btr_roll.specs.declared.roll.RollVersion.{RollVersion}
use Rattle.btr_roll.specs.Roll.{RollStreamValue}
use Rattle.btr_open.specs.Checkpoint.{IsVersionTree, MayBeRootOf, IsWrongRootOf, AreFirstTrees}
use Rattle.btr_open.proofs.StartContent.{if-none}
use Rattle.btr_open.proofs.StartTrees.{first-trees-more, names-wrong}
use Rattle.btr_open.proofs.roll_trees.trees_of_stream.Goals as goal

pub returns-in_default-clause-cause : goal.returns-in_default-clause-cause
returns-in_default-clause-cause c =
    let nodes = c.args.nodes.now in
    let k = c.loop-k.k in
    let s = c.index-streams-number.result in
    let v = c.index.result.now in
    let versions = c.stream.inside.versions.items in
    let there : slice_get c.args.streams.now c.args.number ≡ Some s = slice_get-get_or c.args.streams.now c.args.number s c.requires.there ∙ ap Some (sym c.index-streams-number.is) in
    let here : slice_get versions k ≡ Some v = slice_get-get_or versions k v (omega (arith, c.loop-k-test.true)) ∙ ap Some (sym c.index.ensures) in
    let at : slice_get s.versions k ≡ Some v = ap (λ (x : RollStreamValue). slice_get x.versions k) (sym c.stream.view_is) ∙ here in
    let wrong = if-none c.in_ok-tree-2.field-0 (IsWrongRootOf nodes c.args.limit c.args.number (k + 1) v.root) c.in_default.not-Some c.in_ok-tree-2.ensures.wrong in
    names-wrong nodes c.args.limit c.args.format c.args.streams.now c.args.number k s v c.wrong_root_of.result there at wrong c.wrong_root_of.ensures

pub loop-k-preserved : goal.loop-k-preserved
loop-k-preserved c =
    let nodes = c.args.nodes.now in
    let k = c.loop-k.k in
    let v = c.index.result.now in
    let t = c.in-Some.tree in
    let versions = c.stream.inside.versions.items in
    let low : k < length versions = omega (arith, c.loop-k-test.true) in
    let is = subst (λ o. IfSome o (IsVersionTree nodes v.root)) c.in-Some.is c.in_ok-tree-2.ensures.tree in
    let may = subst (λ o. IfSome o (λ x. MayBeRootOf nodes c.args.number (k + 1) v.root)) c.in-Some.is c.in_ok-tree-2.ensures.right in
    let size : k ≡ length (take k versions) = sym (length-take-le k versions (omega (arith, low))) in
    let more = first-trees-more nodes c.args.number (take k versions) c.loop-k.trees.items c.loop-k.invariant v t is (subst (λ n. MayBeRootOf nodes c.args.number (n + 1) v.root) size may) in
    let longer : take k versions ++ v ∷ [] ≡ take (k + 1) versions = sym (take_more versions k v low ∙ ap (λ (x : RollVersion). take k versions ++ x ∷ []) (sym c.index.ensures)) in
    subst (AreFirstTrees nodes c.args.number (take (k + 1) versions)) (sym c.in_ok-push-2.ensures) (subst (λ l. AreFirstTrees nodes c.args.number l (c.loop-k.trees.items ++ t ∷ [])) longer more)

pub returns-clause-trees : goal.returns-clause-trees
returns-clause-trees c r at =
    let nodes = c.args.nodes.now in
    let k = c.loop-k.k in
    let s = c.index-streams-number.result in
    let versions = c.stream.inside.versions.items in
    let there : slice_get c.args.streams.now c.args.number ≡ Some s = slice_get-get_or c.args.streams.now c.args.number s c.requires.there ∙ ap Some (sym c.index-streams-number.is) in
    let two : Some s ≡ Some r = sym there ∙ at in
    let one : s ≡ r = cc in
    let all : take k versions ≡ r.versions = take_all k versions (omega (arith, c.loop-k-test.false)) ∙ ap (λ (x : RollStreamValue). x.versions) (c.stream.view_is ∙ one) in
    subst (λ l. AreFirstTrees nodes c.args.number l c.loop-k.trees.items) all c.loop-k.invariant
