use Rattle.std.proofs.Common.{not, ap, ◌∙◌}
use Rattle.std.proofs.lemmas.Result.{IfOk-weaker}
use Rattle.btr_verify.specs.Judging.{IsPageRead, IsKnownPage}
use Rattle.btr_verify.proofs.MarkLemmas.{has-page}
use Rattle.btr_verify.proofs.marking.known_page.Goals as goal

pub returns-clause-page : goal.returns-clause-page
returns-clause-page g c reported =
    let image = g.D.Disk.contents c.args.disk.now in
    let nodes = c.args.nodes.now in
    let block = c.args.block in
    IfOk-weaker c.read_page.result (IsPageRead image block) (IsKnownPage image nodes block) (λ read is pages known stored. has-page (λ k. k.now) c.get.result image pages nodes block read c.get.ensures (c.is_none.ensures ∙ ap not c.if-is_none.false) known stored is) (c.read_page.ensures.page reported)
