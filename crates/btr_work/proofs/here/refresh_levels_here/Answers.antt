use Rattle.std.proofs.Common.{◌<◌, length, get_or, arith}
use Rattle.btr_jobs.proofs.InTurnLemmas.{in_turn_all}
use Rattle.btr_work.specs.Refreshing.{IsDone}
use Rattle.btr_work.specs.ReportLaws.{done_lasts, done_lowers}
use Rattle.btr_work.proofs.DoneLemmas.{levels-begin, levels-step}
use Rattle.btr_work.proofs.here.refresh_levels_here.Goals as goal

pub loop-level-init : goal.loop-level-init
loop-level-init g c = levels-begin c.args.hall.now 1 c.args.session.now c.args.levels.now c.requires.at

pub loop-level-preserved : goal.loop-level-preserved
loop-level-preserved g c =
    let done = c.refresh_level_here.ensures in
    let hall = c.args.hall.now in
    let mid = c.loop-level.session in
    let new = c.refresh_level_here.new.session in
    let now = c.loop-level.levels in
    let i = c.loop-level.level-index in
    let was = c.level-item.result in
    let level = c.refresh_level_here.new.level in
    let inside : i < length now = omega (arith, c.loop-level-test.true, c.loop-level.invariant.1) in
    levels-step hall 1 c.args.session.now mid new c.args.levels.now now i was level inside c.loop-level.invariant c.level-item.is done.at
    (in_turn_all IsDone hall done_lasts done_lowers mid new (get_or now i was).jobs.items level.jobs.items done.in_turn) (λ few. done.in_turn)
