use Rattle.std.proofs.Common.{◌≡◌, ◌+◌, ◌++◌, take, ap, ◌∙◌, arith, rules, FitsSigned}
use Rattle.std.specs.Int.{w64, cast_unsigned}
use Rattle.std.proofs.lemmas.Int.{to_z-of_z}
use Rattle.btr_node.specs.Page.{number, signed, point_bytes}
use Rattle.btr_node.proofs.Pieces.{ends-at, two-pieces}
use Rattle.btr_node.proofs.writing.put_point.Goals as goal

pub returns : goal.returns
unfolding point_bytes
returns c =
    let p = c.args.point.now in
    let at = c.args.at in
    let time_fits : FitsSigned w64 p.time = search rules in
    let value_fits : FitsSigned w64 p.value = search rules in
    let time : c.cast_unsigned.result ≡ cast_unsigned w64 p.time = c.cast_unsigned.ensures ∙ ap (cast_unsigned w64) (to_z-of_z w64 p.time time_fits) in
    let value : c.cast_unsigned-2.result ≡ cast_unsigned w64 p.value = c.cast_unsigned-2.ensures ∙ ap (cast_unsigned w64) (to_z-of_z w64 p.value value_fits) in
    let end : at + 16 ≡ at + 8 + 8 = omega arith in
    two-pieces (take at c.args.to.now) (take (at + 8) c.put_u64.new.to) (take (at + 16) c.put_u64-2.new.to) (signed p.time) (signed p.value)
    (c.put_u64.ensures ∙ ap (λ n. take at c.args.to.now ++ number w64 n) time)
    (ends-at (at + 16) (at + 8 + 8) c.put_u64-2.new.to _ end (c.put_u64-2.ensures ∙ ap (λ n. take (at + 8) c.put_u64.new.to ++ number w64 n) value))
