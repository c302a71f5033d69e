use Rattle.std.specs.Prelude.{IfSome, length, slice_get}
use Rattle.std.proofs.Common.{sym, subst, arith, inl, inr, below_more, refl}
use Rattle.std.proofs.lemmas.Bool.{cases_lt}
use Rattle.std.proofs.lemmas.Option.{slice_get-get_or, slice_get_past}
use Rattle.btr_verify.specs.declared.verifying.Made.{Made}
use Rattle.btr_verify.specs.Trees.{IsCommitOf, LeadsToTree}
use Rattle.btr_verify.proofs.roots.first_that_fails.Goals as goal

none : Made
none = record { stream = 0; version = 0; root = 0 }

pub returns-then-not-leads : goal.returns-then-not-leads
unfolding none
returns-then-not-leads c pages h judged each =
    let i = c.loop-commit.commit-index in
    let is = slice_get-get_or c.args.made.now i none c.loop-commit-test.true in
    let made = subst (λ o. IfSome o (IsCommitOf pages h)) is (each i) in
    record {
      at = i;
      is = is;
      before = c.loop-commit.invariant pages h judged each;
      fails = λ leads. let e = (c.if-not-leads.ensures pages h judged made).1 leads in absurd (cc);
    }

pub loop-commit-preserved : goal.loop-commit-preserved
unfolding none
loop-commit-preserved c pages h judged each =
    let i = c.loop-commit.commit-index in
    let is = slice_get-get_or c.args.made.now i none c.loop-commit-test.true in
    let made = subst (λ o. IfSome o (IsCommitOf pages h)) is (each i) in
    let leads = (c.if-not-leads.ensures pages h judged made).0 refl in
    below_more (λ k. IfSome (slice_get c.args.made.now k) (LeadsToTree pages h)) i (c.loop-commit.invariant pages h judged each) (subst (λ o. IfSome o (LeadsToTree pages h)) (sym is) leads)

pub returns : goal.returns
returns c pages h judged each i =
    elim (cases_lt i (length c.args.made.now)) [
      | inl lt ↦ c.loop-commit.invariant pages h judged each i (omega (arith, c.loop-commit-test.false))
      | inr le ↦ subst (λ o. IfSome o (LeadsToTree pages h)) (sym (slice_get_past c.args.made.now i le)) tt
    ]
