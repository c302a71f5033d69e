use Rattle.std.specs.Prelude.{ℕ, List}
use Rattle.std.proofs.Common.{arith, Vec, Global}
use Rattle.btr_disk.proofs.PartLemmas.{parts_fit}
use Rattle.btr_host.proofs.block_sink.write_each.Goals as goal

abbrev items : Vec ℕ Global → List ℕ
items v = v.items

pub overflow_add-place : goal.overflow_add-place
overflow_add-place c =
    let fit = parts_fit items c.args.parts.now c.loop-part.part-index c.part-item.result c.loop-part-test.true c.part-item.is in
    omega (arith, c.requires, fit, c.loop-part.invariant, c.len.ensures)
