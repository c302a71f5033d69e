use Rattle.std.proofs.Common.{◌≡◌, ap, ◌∙◌, sym, arith, length, List, ℕ, take}
use Rattle.std.proofs.lemmas.List.{take_all}
use Rattle.btr_log.specs.Piece.{bytes_at}
use Rattle.btr_log.proofs.PieceLemmas.{length-bytes_at}
use Rattle.btr_log.proofs.piece.Piece.held.Goals as goal

-- The bytes are those of one block.
pub unreachable-requires : goal.unreachable-requires
unreachable-requires c =
    let size : length (bytes_at c.args.self.now c.args.block 1) ≡ 4096 = length-bytes_at c.args.self.now c.args.block 1 c.requires in
    let same = ap (λ (xs : List ℕ). length xs) c.blocks-2.ensures in
    omega (arith, c.in-None.ensures.cases, same, size)

pub returns : goal.returns
returns c =
    let bytes = bytes_at c.args.self.now c.args.block 1 in
    let size : length bytes ≡ 4096 = length-bytes_at c.args.self.now c.args.block 1 c.requires in
    c.in-Some.ensures.cases.same ∙ ap (take 4096) c.blocks-2.ensures ∙ take_all 4096 bytes (omega (arith, size))
