use Rattle.std.proofs.Common.{refl, arith}
use Rattle.btr_verify.proofs.JudgeLemmas.{right-here, not-right}
use Rattle.btr_verify.proofs.judging.judge.Goals as goal

pub returns-in-Some : goal.returns-in-Some
returns-in-Some c pages h image block can has = (
  (c.if-not-is_own_page.ensures h can.of has).0 refl,
  not-right image pages h block c.args.marks.now can.stored can.marked block c.args.page.now can.is (omega arith) has c.in-Some.field-0 c.in-Some.ensures.found,
)

pub returns-in-None : goal.returns-in-None
returns-in-None c pages h image block can has =
    right-here image pages h block c.args.marks.now can.stored can.marked block c.args.page.now can.is (omega arith) has ((c.if-not-is_own_page.ensures h can.of has).0 refl) c.in-None.ensures.none
