use Rattle.std.proofs.Common.{◌≡◌, ◌∙◌, ◌==◌, List, [], ◌∷◌, length, true, refl, ap, sym, arith}
use Rattle.std.proofs.lemmas.Bool.Decides.{nat_tests}
use Rattle.btr_base.specs.Bag.{outside}
use Rattle.btr_tree.specs.History.{bag}
use Rattle.btr_tree.specs.Nodes.{points_of}
use Rattle.btr_tree.specs.EachHistory.{points_in}
use Rattle.btr_tree.proofs.CutLemmas.{outside-length, outside-nothing}
use Rattle.btr_tree.proofs.apply.is_few.Goals as goal

empty-is : {X : Type 0} (xs : List X) → (length xs == 0) ≡ true → xs ≡ []
empty-is [] e = refl
empty-is (x ∷ xs) e = absurd (grind (arith, nat_tests))

pub returns-then-is_empty-clause-many : goal.returns-then-is_empty-clause-many
returns-then-is_empty-clause-many c _ below h high slots each many =
    let none = empty-is c.args.cut.now (sym c.is_empty.ensures ∙ c.if-is_empty.true) in
    let all = ap length (ap (outside (points_in c.args.span (bag h))) none ∙ outside-nothing (points_in c.args.span (bag h))) in
    omega arith

pub overflow_add-result : goal.overflow_add-result
overflow_add-result c =
    let st = c.requires.some in
    let left = c.in_ok-left.ensures st.0 st.2.commits st.1 st.2.holds st.2.each in
    let fewer = outside-length (points_of c.args.span.height c.args.span.start (bag st.2.commits)) c.args.cut.now in
    let high = ap (λ k. length (points_of k c.args.span.start (bag st.2.commits))) st.1 in
    let few = st.2.few in
    omega arith

pub returns-clause-few : goal.returns-clause-few
returns-clause-few c test below h high slots each =
    let left = c.in_ok-left.ensures below h high slots each in grind (arith, nat_tests)

pub returns-clause-many : goal.returns-clause-many
returns-clause-many c test below h high slots each many =
    let left = c.in_ok-left.ensures below h high slots each in grind (arith, nat_tests)
