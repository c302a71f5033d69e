use Rattle.std.proofs.Common.{◌≡◌, ◌+◌, ◌*◌, ◌<◌, length, true, false, sym, ap, subst, arith}
use Rattle.std.specs.Prelude.{Ok}
use Rattle.btr_pages.specs.Blocks.{IsDamagedBlock}
use Rattle.btr_pages.specs.Made.{IsAddedPage, IsDamagedPage}
use Rattle.btr_pages.proofs.BlockLemmas.{damaged-block, to-none, to-more}
use Rattle.btr_pages.proofs.trees.Trees.add_blocks.Goals as goal

pub loop-i-init : goal.loop-i-init
loop-i-init g c = to-none c.args.self.now c.args.first c.args.bytes.now c.requires.above

pub returns-then-not-branch-clause-damaged : goal.returns-then-not-branch-clause-damaged
returns-then-not-branch-clause-damaged g c block is =
    let old = c.args.self.now in
    let mid = c.loop-i.self in
    let first = c.args.first in
    let bytes = c.args.bytes.now in
    let i = c.loop-i.i in
    let to = c.loop-i.invariant in
    let no : c.in_ok-add_block.field-0 ≡ false = cc in
    let damaged = subst (IsDamagedPage mid (first + i)) c.block_at.ensures (c.in_ok-add_block.ensures.damaged (ap Ok no)) in
    let kept = c.in_ok-add_block.ensures.kept (λ yes. absurd (cc)) in
    let inside : 4096 * i < length bytes = omega (arith, c.loop-i-test.true, c.loop-i.auto.i-end) in
    let here = damaged-block old mid first i bytes to.added to.are to.number inside damaged in
    let same : first + i ≡ block = cc in
    subst (IsDamagedBlock old c.add_block.new.self first bytes) same (subst (λ n. IsDamagedBlock old n first bytes (first + i)) (sym kept) here)

pub loop-i-preserved : goal.loop-i-preserved
loop-i-preserved g c =
    let mid = c.loop-i.self in
    let new = c.add_block.new.self in
    let first = c.args.first in
    let bytes = c.args.bytes.now in
    let i = c.loop-i.i in
    let yes : c.in_ok-add_block.field-0 ≡ true = cc in
    let added = subst (IsAddedPage mid new (first + i)) c.block_at.ensures (c.in_ok-add_block.ensures.added (ap Ok yes)) in
    to-more c.args.self.now mid new first i bytes c.loop-i.invariant added c.in_ok-add_block.ensures.above
