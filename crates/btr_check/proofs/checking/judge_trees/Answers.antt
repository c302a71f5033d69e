use Rattle.std.proofs.Common.{sym, subst}
use Rattle.std.proofs.lemmas.Result.{IfOk-weaker}
use Rattle.btr_verify.specs.Trees.{IsVerified}
use Rattle.btr_check.specs.Checker.{AreMade}
use Rattle.btr_check.specs.Checking.{AreTreesFound}
use Rattle.btr_check.proofs.PageLemmas.{read-whole}
use Rattle.btr_check.proofs.TreesLemmas.{to-verify, trees-found}
use Rattle.btr_check.proofs.checking.judge_trees.Goals as goal

pub returns-clause-found : goal.returns-clause-found
returns-clause-found g c reported s l =
    let image = g.D.Disk.contents c.args.disk.now in
    let made = c.deref.result.now in
    let are = subst (AreMade l.seen.entries l.seen.roots) (sym c.deref.ensures.value) l.judged.made in
    let read = read-whole image s l.log l.seen l.walk l.keeps in
    let ready = to-verify image l.log l.seen made read are c.args.whole.now.nodes c.in_ok-snapshot.snapshot l.known (c.in_ok-snapshot.ensures l.seen.entries l.judged.of) in
    IfOk-weaker c.first_wrong_node.result (IsVerified l.log.pages l.seen.entries made) (AreTreesFound l.log.pages l.seen.entries l.seen.roots)
    (trees-found image l.log l.seen made read are) (c.first_wrong_node.ensures.verified reported l.log.pages l.seen.entries ready)
