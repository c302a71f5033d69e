use Rattle.std.specs.Prelude.{◌+◌, ◌*◌, map}
use Rattle.std.proofs.Common.{refl, sym, ◌∙◌, subst}
use Rattle.std.proofs.lemmas.Bool.{false≢true}
use Rattle.btr_check.specs.Whole.{IsNamedStart}
use Rattle.btr_check.specs.Checkpoints.{mark_of}
use Rattle.btr_check.specs.Checking.{VerdictBetween}
use Rattle.btr_check.proofs.CheckLemmas.{unnamed-wrong, open-tail-wrong, named-verdict}
use Rattle.btr_check.proofs.checking.check_whole.Goals as goal

pub returns-then-not-is_named-clause-verdict : goal.returns-then-not-is_named-clause-verdict
returns-then-not-is_named-clause-verdict g c =
    let a = c.args in
    unnamed-wrong g.D.Disk a.disk a.disk a.found a.checker.now a.whole.now c.requires.chosen c.requires.read
    (λ named. false≢true (sym c.if-not-is_named.true ∙ c.is_named.ensures.1 (subst (λ cs. IsNamedStart a.found (map mark_of cs)) (sym c.deref.ensures.value) named))) (2 * a.found.side + 1) refl

pub returns-then-not-ends_at_seal-clause-verdict : goal.returns-then-not-ends_at_seal-clause-verdict
returns-then-not-ends_at_seal-clause-verdict g c =
    let a = c.args in
    let named = subst (λ cs. IsNamedStart a.found (map mark_of cs)) c.deref.ensures.value (c.is_named.ensures.0 c.if-not-is_named.false) in
    open-tail-wrong g.D.Disk a.disk a.disk a.found a.checker.now a.whole.now c.requires.chosen c.requires.read named
    (λ ends. false≢true (sym c.if-not-ends_at_seal.true ∙ c.ends_at_seal.ensures.1 ends))

pub returns-clause-verdict : goal.returns-clause-verdict
returns-clause-verdict g c =
    let a = c.args in
    let new = c.judge_trees-trees.new.disk in
    let judged = c.judge_trees-trees.ensures in
    let named = subst (λ cs. IsNamedStart a.found (map mark_of cs)) c.deref.ensures.value (c.is_named.ensures.0 c.if-not-is_named.false) in
    let here = named-verdict g.D.Disk a.disk new a.found a.checker.now a.whole.now c.requires.chosen c.requires.read named (c.ends_at_seal.ensures.0 c.if-not-ends_at_seal.false) c.judge_trees-trees.result (λ reported. judged.found reported a.found) judged.cause in
    subst (VerdictBetween g.D.Disk a.disk new) (sym c.verdict_of_trees-verdict.ensures) (rw c.entries.ensures here)
