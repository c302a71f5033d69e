use Rattle.btr_work.proofs.DoneLemmas.{LevelsDoneTo}
use Rattle.btr_work.proofs.here.refresh_levels_here.Given as goal

abbrev pub invariant-loop-level : goal.invariant-loop-level
invariant-loop-level g l = LevelsDoneTo l.hall 1 l.initial.session l.session l.level-index l.initial.levels l.levels
