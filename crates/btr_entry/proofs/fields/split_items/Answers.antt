use Rattle.std.proofs.Common.{ℕ, ap, length, arith, length-append}
use Rattle.btr_entry.proofs.FrameLemmas.{counted_long, counted_number}
use Rattle.btr_entry.proofs.fields.split_items.Goals as goal

pub returns-in_err-count-clause-none : goal.returns-in_err-count-clause-none
returns-in_err-count-clause-none c = rw c.from_residual.ensures (λ items rest h. omega (arith, counted_long c.args.limit c.args.bytes.now items rest h, c.in_err-count.ensures.none))

pub returns-then-count-limit-clause-none : goal.returns-then-count-limit-clause-none
returns-then-count-limit-clause-none c items rest h =
    let same = counted_number c.args.limit c.requires c.args.bytes.now items rest c.in_ok-count.count c.in_ok-count.rest.now c.in_ok-count.ensures.fits c.in_ok-count.ensures.some h in
    omega (arith, same.0, h.bounded)

pub returns-then-rest-len-clause-none : goal.returns-then-rest-len-clause-none
returns-then-rest-len-clause-none c items rest h =
    let same = counted_number c.args.limit c.requires c.args.bytes.now items rest c.in_ok-count.count c.in_ok-count.rest.now (omega arith) c.in_ok-count.ensures.some h in
    let len = length-append items rest in
    omega (arith, same.0, h.long, ap (length {A = ℕ}) same.1, len)
