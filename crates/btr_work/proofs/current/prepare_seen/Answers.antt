-- The work is that of the history that the session has seen.
use Rattle.btr_work.proofs.current.prepare_seen.Goals as goal

pub returns-clause-prepared : goal.returns-clause-prepared
returns-clause-prepared g c h of = c.prepare.ensures _ (c.in_ok-snapshot.ensures.snapshot h of)
