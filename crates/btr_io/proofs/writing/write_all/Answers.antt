use Rattle.std.proofs.Common.{◌∙◌}
use Rattle.btr_io.proofs.TakenBytes.{is_rest-turn, taken-turn}
use Rattle.btr_io.proofs.writing.write_all.Goals as goal

pub loop-rest-preserved : goal.loop-rest-preserved
loop-rest-preserved g c = record {
  is_rest = is_rest-turn _ c.loop-rest.rest.now c.in_ok-n.n c.in_ok-n.ensures.bound c.loop-rest.invariant.is_rest;
  written = λ t. taken-turn _ c.loop-rest.rest.now _ _ _ c.in_ok-n.n c.in_ok-n.ensures.bound c.loop-rest.invariant.is_rest (c.loop-rest.invariant.written t) (c.in_ok-n.ensures.written t);
  faults = c.in_ok-n.ensures.cause.same ∙ c.loop-rest.invariant.faults;
}
