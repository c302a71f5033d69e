use Rattle.std.proofs.lemmas.Nat.{one_shl}
use Rattle.btr_tree.proofs.KeptSlotLemmas.{put-rolled}
use Rattle.btr_tree.proofs.slots.Slots.keep.Goals as goal

pub returns : goal.returns
returns c =
    put-rolled c.args.i c.args.slot c.args.child c.args.self.now c.push.new.self _ c.of.result c.requires.filled c.in_ok-push.ensures.items (one_shl c.args.i 64 c.requires.place) c.of.ensures
