use Rattle.std.specs.Prelude.{◌≡◌}
use Rattle.std.proofs.Common.{refl, subst, arith}
use Rattle.btr_node.specs.Page.{slots_of_page}
use Rattle.btr_verify.specs.Judging.{AreMarkedRight, IsFirstNotRight}
use Rattle.btr_verify.proofs.JudgeLemmas.{stored-page}
use Rattle.btr_verify.proofs.DownLemmas.{wrong-here, some-wrong, child-lower, goes-down}
use Rattle.btr_verify.proofs.descending.wrong_child.Goals as goal

pub returns-then-not-is_wrong_below-clause-child : goal.returns-then-not-is_wrong_below-clause-child
returns-then-not-is_wrong_below-clause-child g c reported pages h page wrong =
    wrong-here pages h (g.D.Disk.contents c.args.disk.now) c.args.tail c.args.marks.now c.args.block page wrong c.requires.below (λ is. absurd (let e = c.if-not-is_wrong_below.ensures.1 is in cc))

pub returns-in_default-clause-child : goal.returns-in_default-clause-child
returns-in_default-clause-child g c reported pages h page wrong =
    let stored = stored-page (g.D.Disk.contents c.args.disk.now) pages c.args.block page wrong.stored wrong.is in
    let some = c.in_ok-page.ensures.page reported pages page stored in
    let none = c.in_default.is in
    absurd (cc)

pub returns-in_default-first_not_right-clause-child : goal.returns-in_default-first_not_right-clause-child
returns-in_default-first_not_right-clause-child g c reported pages h page wrong =
    let stored = stored-page (g.D.Disk.contents c.args.disk.now) pages c.args.block page wrong.stored wrong.is in
    let some = c.in_ok-page.ensures.page reported pages page stored in
    let read = c.in-Some.is in
    let same : c.in-Some.page ≡ page = cc in
    absurd (some-wrong pages h (g.D.Disk.contents c.args.disk.now) c.args.tail c.args.marks.now c.args.block page wrong c.requires.below (c.if-not-is_wrong_below.ensures.0 refl) (subst (λ p. AreMarkedRight c.args.marks.now (slots_of_page p)) same c.in_default-first_not_right.ensures.none))

pub returns-then-child-block-clause-child : goal.returns-then-child-block-clause-child
returns-then-child-block-clause-child g c reported pages h page wrong =
    let stored = stored-page (g.D.Disk.contents c.args.disk.now) pages c.args.block page wrong.stored wrong.is in
    let some = c.in_ok-page.ensures.page reported pages page stored in
    let read = c.in-Some.is in
    let same : c.in-Some.page ≡ page = cc in
    let child = c.in-Some-first_not_right.child in
    let first = subst (λ p. IsFirstNotRight c.args.marks.now (slots_of_page p) child) same c.in-Some-first_not_right.ensures.found in
    let lower = child-lower pages h (g.D.Disk.contents c.args.disk.now) c.args.tail c.args.marks.now c.args.block page wrong c.requires.below child first in
    absurd (omega (arith, lower, c.if-child-block.true))

pub returns-clause-child : goal.returns-clause-child
returns-clause-child g c reported pages h page wrong =
    let stored = stored-page (g.D.Disk.contents c.args.disk.now) pages c.args.block page wrong.stored wrong.is in
    let some = c.in_ok-page.ensures.page reported pages page stored in
    let read = c.in-Some.is in
    let same : c.in-Some.page ≡ page = cc in
    let child = c.in-Some-first_not_right.child in
    let first = subst (λ p. IsFirstNotRight c.args.marks.now (slots_of_page p) child) same c.in-Some-first_not_right.ensures.found in
    goes-down pages h (g.D.Disk.contents c.args.disk.now) c.args.tail c.args.marks.now c.args.block page wrong c.requires.below (c.if-not-is_wrong_below.ensures.0 refl) child first
