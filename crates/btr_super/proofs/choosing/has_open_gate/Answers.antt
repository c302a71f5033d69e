use Rattle.std.proofs.Common.{arith}
use Rattle.btr_super.proofs.Prefix.{open_as_bytes, open_from_bytes}
use Rattle.btr_super.proofs.choosing.has_open_gate.Goals as goal

pub returns-in-Some : goal.returns-in-Some
returns-in-Some c image has =
    let there = c.in-Some.ensures.there in
    let stored = there.stored image has in (
      λ yes. (omega (arith, there.inside), open_from_bytes image c.args.block c.in-Some.bytes.now stored (c.is_open_gate.ensures.0 yes)),
      λ opened. c.is_open_gate.ensures.1 (open_as_bytes image c.args.block c.in-Some.bytes.now there.whole stored opened.1),
    )
