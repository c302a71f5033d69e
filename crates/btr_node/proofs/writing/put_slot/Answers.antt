use Rattle.std.proofs.Common.{◌+◌, ◌*◌, ◌++◌, take, ap, ◌∙◌, arith}
use Rattle.std.specs.Int.{w64, w128, cast_unsigned}
use Rattle.btr_node.specs.Page.{number, signed, slot_bytes, ends_or}
use Rattle.btr_node.proofs.Pieces.{ends-at, six-pieces}
use Rattle.btr_node.proofs.writing.put_slot.Goals as goal

pub returns : goal.returns
unfolding slot_bytes
returns c =
    let s = c.args.slot.now in
    let at = 64 + 56 * c.args.i in
    let t1 = c.put_u64.new.to in
    let t2 = c.put_u128.new.to in
    let t3 = c.put_u64-2.new.to in
    let t4 = c.put_u64-3.new.to in
    let t5 = c.put_u64-4.new.to in
    let t6 = c.put_u64-5.new.to in
    six-pieces (take at c.args.to.now) (take (at + 8) t1) (take (at + 24) t2) (take (at + 32) t3) (take (at + 40) t4) (take (at + 48) t5) (take (at + 56) t6)
    (number w64 s.agg.count) (number w128 (cast_unsigned w128 s.agg.total)) (signed (ends_or s.agg.ends).0) (signed (ends_or s.agg.ends).1) (number w64 s.version) (number w64 s.child)
    (c.put_u64.ensures ∙ ap (λ n. take at c.args.to.now ++ number w64 n) c.count.ensures)
    (ends-at (at + 24) (at + 8 + 16) t2 _ (omega arith) (c.put_u128.ensures ∙ ap (λ n. take (at + 8) t1 ++ number w128 n) c.sum_of.ensures))
    (ends-at (at + 32) (at + 24 + 8) t3 _ (omega arith) (c.put_u64-2.ensures ∙ ap (λ n. take (at + 24) t2 ++ number w64 n) c.ends_of-least.ensures.least))
    (ends-at (at + 40) (at + 32 + 8) t4 _ (omega arith) (c.put_u64-3.ensures ∙ ap (λ n. take (at + 32) t3 ++ number w64 n) c.ends_of-least.ensures.greatest))
    (ends-at (at + 48) (at + 40 + 8) t5 _ (omega arith) c.put_u64-4.ensures)
    (ends-at (at + 56) (at + 48 + 8) t6 _ (omega arith) c.put_u64-5.ensures)
