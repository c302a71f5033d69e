use Rattle.std.proofs.Common.{arith}
use Rattle.std.specs.Int.{w64}
use Rattle.btr_entry.proofs.NumberLemmas.{number_read, wide64}
use Rattle.btr_entry.proofs.fields.read_u64.Goals as goal

pub returns-clause-some : goal.returns-clause-some
returns-clause-some c =
    number_read w64 _ wide64 c.args.bytes.now c.split_at.result.0.now c.split_at.result.1.now c.from_be_bytes-number.result (λ i. omega (arith, c.type_inv.bytes i)) (omega arith) c.split_at.ensures.front c.split_at.ensures.back c.from_be_bytes-number.ensures
