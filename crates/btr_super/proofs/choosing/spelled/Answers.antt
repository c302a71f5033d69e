use Rattle.std.proofs.Common.{◌≡◌, ◌*◌, sym, subst, arith, rules}
use Rattle.std.proofs.lemmas.Bool.{false≢true}
use Rattle.btr_disk.specs.Bytes.{Has}
use Rattle.btr_super.specs.Super.{IsSuper}
use Rattle.btr_super.proofs.SuperLemmas.{FitsFields-from_table}
use Rattle.btr_super.proofs.Prefix.{spelled_bytes}
use Rattle.btr_super.proofs.choosing.spelled.Goals as goal

pub returns-in_err-found : goal.returns-in_err-found
returns-in_err-found c image has =
    let there = c.in_ok-block_of.ensures.there in
    let bytes = c.in_ok-block_of.field-0.now in
    rw c.from_residual-in_err-found.ensures
    (λ s side spelled.
    let e = c.in_err-found.ensures.only s side (FitsFields-from_table c.args.size s spelled.keeps)
    (spelled_bytes c.args.size image c.args.block bytes s there.whole (there.stored image has) spelled) in
    absurd (cc))

pub returns-then-keeps_table : goal.returns-then-keeps_table
returns-then-keeps_table c image has =
    let there = c.in_ok-block_of.ensures.there in
    let found = c.in_ok-found.ensures.found in (
      found.0,
      record {
        has_block = omega (arith, there.inside);
        stored = subst (Has image (4096 * c.args.block)) found.1 (there.stored image has);
        keeps = search rules;
      },
    )

pub returns-else-keeps_table : goal.returns-else-keeps_table
returns-else-keeps_table c image has s side spelled =
    let there = c.in_ok-block_of.ensures.there in
    let bytes = c.in_ok-block_of.field-0.now in
    let e = c.in_ok-found.ensures.only s side (FitsFields-from_table c.args.size s spelled.keeps)
    (spelled_bytes c.args.size image c.args.block bytes s there.whole (there.stored image has) spelled) in
    let same : c.in_ok-found.found ≡ s = cc in
    let keeps : IsSuper c.args.size c.in_ok-found.found = subst (IsSuper c.args.size) (sym same) spelled.keeps in
    absurd (false≢true (c.if-keeps_table.ensures.1 keeps))
