use Rattle.std.specs.Prelude.{◌≡◌, ◌+◌, ◌*◌, length}
use Rattle.std.proofs.Common.{ap, ◌∙◌, arith, length-append}
use Rattle.btr_engine.specs.Streamed.{streamed_bytes}
use Rattle.btr_engine.proofs.StreamedLemmas.{length-streamed}
use Rattle.btr_engine.proofs.travel.Ready.blocks.Goals as goal

pub returns-then-self : goal.returns-then-self
returns-then-self c =
    let r = c.args.self.now in
    let nodes = r.staged.nodes.items in
    let streamed = streamed_bytes r.is_streamed r.staged.receipt.stream nodes in
    let size : length streamed ≡ 4096 * (length nodes + 1) = ap (λ is_streamed. length (streamed_bytes is_streamed r.staged.receipt.stream nodes)) c.if-self.true ∙ length-streamed r.staged.receipt.stream nodes in
    omega (arith, length-append r.prefix streamed, size)
