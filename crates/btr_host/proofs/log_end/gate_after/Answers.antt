use Rattle.std.specs.Prelude.{◌+◌, ◌≤◌}
use Rattle.std.proofs.Common.{refl, arith}
use Rattle.btr_host.proofs.LogEndLemmas.{leads_by_head, nowhere_headless, nowhere_full}
use Rattle.btr_host.proofs.log_end.gate_after.Goals as goal

pub returns-in_default-clause-next : goal.returns-in_default-clause-next
returns-in_default-clause-next c image has =
    nowhere_headless image c.args.gate c.args.bytes.now c.requires.size has c.args.blocks (c.in_default.ensures.none refl)

pub returns-then-head-blocks-clause-next : goal.returns-then-head-blocks-clause-next
returns-then-head-blocks-clause-next c image has =
    leads_by_head image c.args.gate c.args.bytes.now c.requires.size has c.in-Some.head (c.if-not-is_open_gate.ensures.0 refl) c.in-Some.ensures.found

pub returns-else-head-blocks-clause-next : goal.returns-else-head-blocks-clause-next
returns-else-head-blocks-clause-next c image has =
    let head = c.in-Some.head in
    let much : c.args.blocks ≤ c.args.gate + head.n + 1 = omega (arith, c.if-head-blocks.false, c.requires.inside) in
    nowhere_full image c.args.gate c.args.bytes.now c.requires.size has c.args.blocks head c.in-Some.ensures.found much
