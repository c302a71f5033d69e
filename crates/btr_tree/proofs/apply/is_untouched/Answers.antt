use Rattle.std.proofs.Common.{◌≡◌, ◌∙◌, ◌==◌, List, [], ◌∷◌, length, true, refl, ap, sym, arith}
use Rattle.std.proofs.lemmas.Bool.Decides.{nat_tests}
use Rattle.btr_base.proofs.AggLemmas.{agg-count}
use Rattle.btr_tree.specs.History.{bag}
use Rattle.btr_tree.specs.Nodes.{points_of}
use Rattle.btr_tree.proofs.AppliedNodeLemmas.{untouched-kept}
use Rattle.btr_tree.proofs.apply.is_untouched.Goals as goal

empty-is : {X : Type 0} (xs : List X) → (length xs == 0) ≡ true → xs ≡ []
empty-is [] e = refl
empty-is (x ∷ xs) e = absurd (grind (arith, nat_tests))

pub returns : goal.returns
returns c was h commit holds change counted =
    let here = points_of c.args.span.height c.args.span.start (bag h) in
    let count : c.agg.inside.count ≡ length here = ap (λ u. u.count) c.agg.view_is ∙ ap (λ u. u.count) counted ∙ agg-count here in
    let none = empty-is c.args.commit.added.now (sym c.is_empty.ensures ∙ c.if-not-is_empty.false) in
    untouched-kept c.args.span.height c.args.span.start h commit c.args.commit.cut.now c.args.commit.added.now c.args.commit.numbering.version c.in_ok-left.left c.agg.inside.count change none (c.in_ok-left.ensures was h holds count) count
