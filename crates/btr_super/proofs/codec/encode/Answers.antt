use Rattle.std.proofs.Common.{refl, ◌∙◌, ap, subst}
use Rattle.std.specs.Int.{w64, to_be_bytes}
use Rattle.btr_disk.specs.Gate.{zeros}
use Rattle.btr_super.proofs.Fields.{Puts, put-grown, super_bytes_put}
use Rattle.btr_super.proofs.codec.encode.Goals as goal

pub returns : goal.returns
unfolding zeros
returns c =
    super_bytes_put c.args.s.now _ c.put.new.to c.put-2.new.to c.put-3.new.to c.put-4.new.to c.put-5.new.to c.put-6.new.to c.put-7.new.to refl
    (put-grown 0 _ c.put.new.to _ c.put.ensures.begins c.put.ensures.rest)
    (subst (λ x. Puts 8 x c.put.new.to c.put-2.new.to) c.to_be_bytes.ensures (put-grown 8 c.put.new.to c.put-2.new.to _ c.put-2.ensures.begins c.put-2.ensures.rest))
    (subst (λ x. Puts 16 x c.put-2.new.to c.put-3.new.to) c.to_be_bytes-2.ensures (put-grown 16 c.put-2.new.to c.put-3.new.to _ c.put-3.ensures.begins c.put-3.ensures.rest))
    (subst (λ x. Puts 24 x c.put-3.new.to c.put-4.new.to) c.to_be_bytes-3.ensures (put-grown 24 c.put-3.new.to c.put-4.new.to _ c.put-4.ensures.begins c.put-4.ensures.rest))
    (subst (λ x. Puts 32 x c.put-4.new.to c.put-5.new.to) c.to_be_bytes-4.ensures (put-grown 32 c.put-4.new.to c.put-5.new.to _ c.put-5.ensures.begins c.put-5.ensures.rest))
    (subst (λ x. Puts 40 x c.put-5.new.to c.put-6.new.to) c.to_be_bytes-5.ensures (put-grown 40 c.put-5.new.to c.put-6.new.to _ c.put-6.ensures.begins c.put-6.ensures.rest))
    (subst (λ x. Puts 48 x c.put-6.new.to c.put-7.new.to) (c.to_be_bytes-6.ensures ∙ ap (to_be_bytes w64) c.seal_word.ensures) (put-grown 48 c.put-6.new.to c.put-7.new.to _ c.put-7.ensures.begins c.put-7.ensures.rest))
