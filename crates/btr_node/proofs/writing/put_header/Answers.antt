use Rattle.std.proofs.Common.{◌≡◌, ◌++◌, take, ap, ◌∙◌, rules, FitsSigned}
use Rattle.std.specs.Int.{w32, w64, cast_unsigned}
use Rattle.std.proofs.lemmas.Int.{to_z-of_z}
use Rattle.btr_node.specs.Page.{number, signed, zeros, header_bytes}
use Rattle.btr_node.proofs.Pieces.{six-pieces}
use Rattle.btr_node.proofs.writing.put_header.Goals as goal

pub returns : goal.returns
unfolding header_bytes zeros
returns c =
    let f = c.args.header.now in
    let to = c.args.to.now in
    let fits : FitsSigned w64 f.start = search rules in
    let start : c.cast_unsigned.result ≡ cast_unsigned w64 f.start = c.cast_unsigned.ensures ∙ ap (cast_unsigned w64) (to_z-of_z w64 f.start fits) in
    six-pieces (take 8 to) (take 16 c.put_u64.new.to) (take 20 c.put_u32.new.to) (take 24 c.put_u32-2.new.to) (take 32 c.put_u64-2.new.to) (take 40 c.put_u64-3.new.to) (take 64 c.put.new.to)
    (signed f.start) (number w32 f.height) (number w32 f.stream) (number w64 f.version) (number w64 f.count) (zeros 24)
    (c.put_u64.ensures ∙ ap (λ n. take 8 to ++ number w64 n) start) c.put_u32.ensures c.put_u32-2.ensures c.put_u64-2.ensures c.put_u64-3.ensures c.put.ensures
