use Rattle.std.specs.Prelude.{◌≡◌, length, take}
use Rattle.std.proofs.Common.{sym, subst, ◌∙◌, arith}
use Rattle.std.proofs.Math.Seq.{take-length}
use Rattle.std.specs.Int.{w32, w64, to_be_bytes}
use Rattle.btr_disk.specs.Gate.{zeros}
use Rattle.btr_log.specs.Head.{head_mark, head_bytes}
use Rattle.btr_log.proofs.Pieces.{assembled}
use Rattle.btr_log.proofs.head.Head.encode.Goals as goal

pub returns : goal.returns
unfolding head_bytes zeros
returns c =
    let h = c.args.self.now in
    let x9 = c.put-9.new.to in
    let e2 = rw c.to_be_bytes.ensures at c.put-2.ensures.begins in
    let e3 = rw c.to_be_bytes-2.ensures at c.put-3.ensures.begins in
    let e4 = rw c.to_be_bytes-3.ensures at c.put-4.ensures.begins in
    let e5 = rw c.to_be_bytes-4.ensures at c.put-5.ensures.begins in
    let e6 = rw c.to_be_bytes-5.ensures at c.put-6.ensures.begins in
    let e7 = rw c.to_be_bytes-6.ensures at c.put-7.ensures.begins in
    let e8 = rw c.to_be_bytes-7.ensures at c.put-8.ensures.begins in
    let whole : length x9 ≡ 64 = omega arith in
    let all : take 64 x9 ≡ x9 = subst (λ n. take n x9 ≡ x9) whole (take-length x9) in
    sym all ∙ assembled c.put.new.to c.put-2.new.to c.put-3.new.to c.put-4.new.to c.put-5.new.to c.put-6.new.to c.put-7.new.to c.put-8.new.to x9 head_mark (to_be_bytes w32 h.kind) (to_be_bytes w32 h.format) (to_be_bytes w64 h.number) (to_be_bytes w64 h.n) (to_be_bytes w64 h.length) (to_be_bytes w64 h.nodes) (to_be_bytes w64 h.root) (zeros 8) c.put.ensures.begins e2 e3 e4 e5 e6 e7 e8 c.put-9.ensures.begins
