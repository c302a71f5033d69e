use Rattle.std.proofs.Common.{◌≡◌, Some, true, sym, ◌∙◌, ap}
use Rattle.std.proofs.lemmas.Bool.Decides.{Decides-eqb}
use Rattle.std.proofs.lemmas.Slice.Eq.{slice_eq-Decides}
use Rattle.btr_super.specs.Super.{super_bytes}
use Rattle.btr_super.proofs.SuperLemmas.{read-super_bytes}
use Rattle.btr_super.proofs.codec.decode.Goals as goal

pub returns-then-eq-clause-only : goal.returns-then-eq-clause-only
returns-then-eq-clause-only c s side fits spelled =
    ap (λ x. Some x) (read-super_bytes s c.args.side c.u32_at.result c.u64_at.result c.u64_at-2.result c.u64_at-3.result c.u64_at-4.result c.args.block.now fits spelled side
    c.u32_at.ensures c.u64_at.ensures c.u64_at-2.ensures c.u64_at-3.ensures c.u64_at-4.ensures)

pub returns-else-eq-clause-only : goal.returns-else-eq-clause-only
returns-else-eq-clause-only c s side fits spelled =
    let read = read-super_bytes s c.args.side c.u32_at.result c.u64_at.result c.u64_at-2.result c.u64_at-3.result c.u64_at-4.result c.args.block.now fits spelled side
    c.u32_at.ensures c.u64_at.ensures c.u64_at-2.ensures c.u64_at-3.ensures c.u64_at-4.ensures in
    let same : c.args.block.now ≡ c.as_slice.result.now = spelled ∙ ap super_bytes (sym read) ∙ sym c.encode.ensures ∙ sym c.as_slice.ensures in
    let is : c.eq.result ≡ true = (slice_eq-Decides Decides-eqb _ _ _ c.eq.ensures).1 same in
    absurd (cc)
