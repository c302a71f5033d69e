use Rattle.btr_engine.specs.Engine.{board_of}
use Rattle.btr_engine.specs.Travel.{WritesAfter}
use Rattle.std.proofs.Common.{subst}
use Rattle.btr_engine.proofs.FirstNode.{writes_after}
use Rattle.btr_engine.proofs.engine.Engine.make_ready.Goals as goal

pub returns-clause-staged : goal.returns-clause-staged
returns-clause-staged g c h of =
    let b = board_of c.args.self.now in
    let e = c.args.entry.now in
    let s = c.in_ok-staged.staged in
    record {
      before = of;
      allowed = (c.in_ok-staged.ensures.staged h of).allowed;
      of = (c.in_ok-staged.ensures.staged h of).next;
      is_receipt = (c.in_ok-staged.ensures.staged h of).receipt;
      writes = subst (λ n. WritesAfter b e n s) c.requires.tail
          (writes_after b e c.args.tail c.first_node-first.result s c.first_node-first.ensures.block c.in_ok-staged.ensures.bounds c.in_ok-staged.ensures.writes);
    }
