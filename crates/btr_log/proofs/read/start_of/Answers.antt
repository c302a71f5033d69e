use Rattle.std.specs.Prelude.{◌≡◌, ◌+◌, ◌<◌, ◌≤◌, length}
use Rattle.std.proofs.Common.{refl, arith}
use Rattle.btr_log.proofs.GateAndHead.{damaged_by_no_head, damaged_by_no_room}
use Rattle.btr_log.proofs.read.start_of.Goals as goal

pub returns-in_default-clause-damaged : goal.returns-in_default-clause-damaged
returns-in_default-clause-damaged c image has =
    let below : c.args.gate + 1 < c.args.blocks = omega arith in
    let size : length c.args.prefix.now ≡ 8192 = grind arith in
    damaged_by_no_head image c.args.gate c.args.prefix.now size has c.args.blocks below (c.if-not-is_open_gate.ensures.0 refl) (c.in_default.ensures.none refl)

pub returns-then-head-blocks-clause-damaged : goal.returns-then-head-blocks-clause-damaged
returns-then-head-blocks-clause-damaged c image has =
    let head = c.in-Some.head in
    let below : c.args.gate + 1 < c.args.blocks = omega arith in
    let much : c.args.blocks ≤ c.args.gate + head.n + 1 = omega (arith, c.if-head-blocks.true) in
    let size : length c.args.prefix.now ≡ 8192 = grind arith in
    damaged_by_no_room image c.args.gate c.args.prefix.now size has c.args.blocks below (c.if-not-is_open_gate.ensures.0 refl) head c.in-Some.ensures.found much

pub returns-clause-start : goal.returns-clause-start
returns-clause-start c = record {
  is_open = c.if-not-is_open_gate.ensures.0 refl;
  spells = c.in-Some.ensures.found;
  inside = omega (arith, c.if-head-blocks.false);
}
