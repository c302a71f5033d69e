use Rattle.std.specs.Prelude.{◌≡◌, ◌+◌}
use Rattle.std.proofs.Common.{sym, subst}
use Rattle.btr_verify.specs.Judging.{AreMarked}
use Rattle.btr_verify.proofs.MarkLemmas.{HasMarked, has-more}
use Rattle.btr_verify.proofs.marking.mark_blocks.Goals as goal

pub loop-block-preserved : goal.loop-block-preserved
loop-block-preserved g c =
    let disk = g.D.Disk in
    let l = c.loop-block in
    let value = c.deref.ensures.value in
    let same : c.deref.result.now ≡ l.marks.items = cc in
    subst (HasMarked disk c.args.tail c.args.nodes.now c.args.snapshot.now c.args.disk.now c.known_page.new.disk c.known_page.new.piece (l.block + 1)) (sym c.in_ok-add.ensures) (has-more disk c.args.tail c.args.nodes.now c.args.snapshot.now c.args.disk.now l.disk c.known_page.new.disk l.piece c.known_page.new.piece l.block l.marks.items c.in_ok-page.page c.mark_of-mark.result l.invariant c.known_page.ensures.reads c.in_ok-page.ensures.page (λ pages h image block can. c.mark_of-mark.ensures pages h image block (record { of = can.of; is = can.is; stored = can.stored; marked = subst (AreMarked pages h block) (sym same) can.marked })))
