use Rattle.std.specs.Prelude.{◌+◌, ◌/◌, ◌<◌}
use Rattle.std.proofs.Common.{arith}
use Rattle.btr_disk.proofs.PutLemmas.{below_taken, portion_of}
use Rattle.btr_disk.proofs.putting.write_by_threads.Goals as goal

pub returns-clause-blocks : goal.returns-clause-blocks
returns-clause-blocks g c done i inside =
    let each = c.div_ceil-each.result in
    let blocks = c.blocks-blocks.result in
    let weight = c.prefix_len-weight.result / 8192 in
    let some : 0 < c.clamp-portions.result = omega (arith, c.clamp-portions.ensures) in
    let within : weight + i < weight + blocks = omega (arith, inside, c.blocks-blocks.ensures.whole) in
    let here = portion_of each c.clamp-portions.result (weight + blocks) (weight + i) some c.div_ceil-each.ensures within in
    c.mark_portions.ensures.portions done ((weight + i) / each) (below_taken c.clamp-portions.result ((weight + i) / each) _ (omega (arith, c.clamp-portions.ensures)) here.0) i here.1 here.2 inside
