use Rattle.std.specs.Prelude.{IfSome}
use Rattle.std.proofs.Common.{sym, subst}
use Rattle.btr_verify.specs.Judging.{CanJudge, IsMarkOf}
use Rattle.btr_verify.proofs.marking.mark_of.Goals as goal

pub returns-in-Some : goal.returns-in-Some
returns-in-Some c pages h image block can =
    subst (λ o. IfSome o (IsMarkOf pages h block c.judge.result)) (sym c.in-Some.is)
    (c.judge.ensures pages h image block (subst (CanJudge pages h image block c.args.marks.now c.args.snapshot.now) c.in-Some.is can))
