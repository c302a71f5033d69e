use Rattle.std.proofs.Common.{◌∙◌}
use Rattle.std.proofs.lemmas.Result.{on_ok_weaker}
use Rattle.btr_tree.specs.Slots.{linked}
use Rattle.btr_tree.proofs.KeptSlotLemmas.{kept-found, kept-missing, put-found, put-missing}
use Rattle.btr_tree.proofs.slots.Slots.put_from.Goals as goal

pub returns-in_ok-share-in-Some : goal.returns-in_ok-share-in-Some
returns-in_ok-share-in-Some c =
    on_ok_weaker c.keep.result (put-found c.args.i c.args.other.now c.args.self.now c.keep.new.self c.in-Some.kept.now c.slot.result (linked c.in_ok-share-in-Some.field-0) (kept-found c.args.other.now c.args.i c.kept_at.result c.in-Some.kept c.kept_at.ensures c.in-Some.is) c.slot.ensures (c.in_ok-share-in-Some.ensures ∙ c.seen.ensures)) c.keep.ensures

pub returns-in-None : goal.returns-in-None
returns-in-None c =
    put-missing c.args.i c.args.other.now c.args.self.now (kept-missing c.args.other.now c.args.i c.kept_at.result c.kept_at.ensures c.in-None.is) c.requires.base c.requires.filled
