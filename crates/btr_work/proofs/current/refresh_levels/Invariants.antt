use Rattle.btr_work.proofs.DoneLemmas.{LevelsDoneTo}
use Rattle.btr_work.proofs.current.refresh_levels.Given as goal

abbrev pub invariant-loop-level : goal.invariant-loop-level
invariant-loop-level g l = LevelsDoneTo l.hall l.workers l.initial.session l.session l.level-index l.initial.levels l.levels
