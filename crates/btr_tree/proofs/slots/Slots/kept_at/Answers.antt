use Rattle.std.proofs.Common.{◌%◌, sym, ap, count_ones}
use Rattle.std.proofs.lemmas.Nat.{one_shl}
use Rattle.btr_tree.specs.Slots.{mask_of}
use Rattle.btr_tree.proofs.KeptSlotLemmas.{kept-not, kept-got}
use Rattle.btr_tree.proofs.slots.Slots.kept_at.Goals as goal

pub returns-then-self-i-eq0 : goal.returns-then-self-i-eq0
returns-then-self-i-eq0 c = sym (kept-not c.args.self.now c.args.i c.if-self-i-eq0.true)

pub returns : goal.returns
returns c =
    kept-got c.args.self.now c.args.i _ c.deref.result.now c.get.result c.if-self-i-eq0.false c.deref.ensures.value (ap (λ k. count_ones (mask_of c.args.self.now % k)) (one_shl c.args.i 64 c.requires)) c.get.ensures.lookup
