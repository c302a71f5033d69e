use Rattle.std.proofs.Common.{◌≡◌, ℕ, List, Option, Result, IfOk, sym, ◌∙◌, subst}
use Rattle.btr_base.specs.declared.point.Point.{Point}
use Rattle.btr_base.specs.Range.{RangeValue}
use Rattle.btr_hist.specs.declared.entry.Entry.{Entry}
use Rattle.btr_hist.specs.declared.entry.Entry.TheVariants.{Commit, Distillate}
use Rattle.btr_hist.specs.declared.kernel.Reads.{Reads}
use Rattle.btr_hist.specs.declared.rejection.Rejection.{Rejection}
use Rattle.btr_hist.specs.Legal.{rejection, commit_rejection, distillate_rejection}
use Rattle.btr_hist.proofs.history.History.rejection.Goals as goal

of_commit : {E : Type 0} (r : Result (Option Rejection) E) (h l : List Entry) (e : Entry) (s : ℕ) (cut : List RangeValue) (added : List Point) → e ≡ Commit s cut added → l ≡ h → IfOk r (λ x. x ≡ commit_rejection l s (record { cut = cut; added = added })) → IfOk r (λ x. x ≡ rejection h e)
of_commit r h l e s cut added is same given =
    subst (λ (f : Entry). IfOk r (λ x. x ≡ rejection h f)) (sym is) (subst (λ (k : List Entry). IfOk r (λ x. x ≡ commit_rejection k s (record { cut = cut; added = added }))) same given)

of_distillate : {E : Type 0} (r : Result (Option Rejection) E) (h l : List Entry) (e : Entry) (s : ℕ) (cut : List RangeValue) (added : List Point) (new : Reads) → e ≡ Distillate s cut added new → l ≡ h → IfOk r (λ x. x ≡ distillate_rejection l s (record { cut = cut; added = added }) new) → IfOk r (λ x. x ≡ rejection h e)
of_distillate r h l e s cut added new is same given =
    subst (λ (f : Entry). IfOk r (λ x. x ≡ rejection h f)) (sym is) (subst (λ (k : List Entry). IfOk r (λ x. x ≡ distillate_rejection k s (record { cut = cut; added = added }) new)) same given)

pub returns-in-Commit : goal.returns-in-Commit
returns-in-Commit c =
    of_commit c.commit.result c.args.self.now c.deref-in-Commit.result.now c.args.entry.now c.in-Commit.stream c.in-Commit.cut c.in-Commit.added c.in-Commit.is (c.deref-in-Commit.ensures.value ∙ c.self.view_is) c.commit.ensures

pub returns-in-Distillate : goal.returns-in-Distillate
returns-in-Distillate c =
    of_distillate c.distillate.result c.args.self.now c.deref-in-Distillate.result.now c.args.entry.now c.in-Distillate.stream c.in-Distillate.cut c.in-Distillate.added c.in-Distillate.reads c.in-Distillate.is (c.deref-in-Distillate.ensures.value ∙ c.self.view_is) c.distillate.ensures
