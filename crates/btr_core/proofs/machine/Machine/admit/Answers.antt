-- The actor has the snapshot of all entries so far.
use Rattle.std.proofs.Common.{refl}
use Rattle.btr_core.proofs.MachineLemmas.{after-admit}
use Rattle.btr_core.proofs.machine.Machine.admit.Goals as goal

pub returns-clause-next : goal.returns-clause-next
returns-clause-next c = λ m of.
    after-admit m c.args.actor c.in_ok-snapshot.snapshot c.args.self.now _ of (c.in_ok-snapshot.ensures m.history of.board) refl refl c.in_ok-insert.ensures.updates
