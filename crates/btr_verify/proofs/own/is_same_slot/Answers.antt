use Rattle.btr_verify.proofs.SameLemmas.{same-slot}
use Rattle.btr_verify.proofs.own.is_same_slot.Goals as goal

pub returns-then-eq : goal.returns-then-eq
returns-then-eq c = same-slot c.args.one.now c.args.other.now c.if-eq.ensures
