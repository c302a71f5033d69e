use Rattle.btr_diff.proofs.comparing.changes_with_lead.Goals as goal

pub returns-in-Ok-clause-runs : goal.returns-in-Ok-clause-runs
returns-in-Ok-clause-runs g c h k old new version =
    c.in-Ok.ensures.finds h k (record { holds = c.link-older.ensures.child h old; times = old.times }) (record { holds = c.link-newer.ensures.child k new; times = new.times }) version

pub returns-in-Ok-clause-bounded : goal.returns-in-Ok-clause-bounded
returns-in-Ok-clause-bounded g c k new = c.in-Ok.ensures.newer.bounded k (c.link-newer.ensures.child k new)

pub returns-in-Err-Want-clause-bounded : goal.returns-in-Err-Want-clause-bounded
returns-in-Err-Want-clause-bounded g c k new = c.in-Err-Want.ensures.newer.bounded k (c.link-newer.ensures.child k new)
