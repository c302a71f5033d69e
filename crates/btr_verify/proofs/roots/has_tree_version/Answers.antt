use Rattle.std.specs.Prelude.{◌≡◌, ◌↔◌, IsTrue, nat_eq}
use Rattle.std.proofs.Common.{sym, ap, subst, ◌∙◌}
use Rattle.btr_tree.specs.Root.{TreeValue, version_of}
use Rattle.btr_verify.specs.Judging.{HasTreeVersion}
use Rattle.btr_verify.proofs.RootLemmas.{same-version}
use Rattle.btr_verify.proofs.roots.has_tree_version.Goals as goal

pub returns-in-Some-Some-clause-same : goal.returns-in-Some-Some-clause-same
returns-in-Some-Some-clause-same c pages h known of is =
    let made = c.args.made.now in
    let k = c.in-Some-Some.known.now in
    let t = c.in-Some-Some.tree.now in
    let version : c.version.result ≡ version_of k.tree.node = c.version.ensures ∙ ap (λ (x : TreeValue). version_of x.node) c.tree-in-Some-Some.ensures in
    let same = same-version pages h made is c.args.nodes.now k t known (sym c.in-Some-Some.ensures) (c.in-Some-Some.ensures' h of) in
    subst (λ m. IsTrue (nat_eq m c.version-in-Some-Some.result) ↔ HasTreeVersion pages h made) (sym version) (subst (λ n. IsTrue (nat_eq (version_of k.tree.node) n) ↔ HasTreeVersion pages h made) (sym c.version-in-Some-Some.ensures) same)
