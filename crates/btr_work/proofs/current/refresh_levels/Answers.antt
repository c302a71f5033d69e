use Rattle.std.proofs.Common.{◌<◌, ◌≤◌, length, arith}
use Rattle.btr_jobs.specs.Jobs.{DidInTurn}
use Rattle.btr_work.specs.Refreshing.{IsDone}
use Rattle.btr_work.proofs.DoneLemmas.{levels-begin, levels-step, levels-end}
use Rattle.btr_work.proofs.current.refresh_levels.Goals as goal

pub loop-level-init : goal.loop-level-init
loop-level-init g c = levels-begin c.args.hall.now c.args.workers c.args.session.now c.args.levels.now c.requires.at

pub loop-level-preserved : goal.loop-level-preserved
loop-level-preserved g c =
    let done = c.refresh_level.ensures in
    let now = c.loop-level.levels in
    let i = c.loop-level.level-index in
    let inside : i < length now = omega (arith, c.loop-level-test.true, c.loop-level.invariant.1) in
    levels-step c.args.hall.now c.args.workers c.args.session.now c.loop-level.session c.refresh_level.new.session c.args.levels.now now i c.level-item.result c.refresh_level.new.level inside c.loop-level.invariant c.level-item.is done.at done.done done.in_turn

pub returns-clause-in_turn : goal.returns-clause-in_turn
returns-clause-in_turn g c few =
    let now = c.loop-level.levels in
    let i = c.loop-level.level-index in
    let invariant = c.loop-level.invariant in
    let ends : length now ≤ i = omega (arith, c.loop-level-test.false, invariant.1) in
    levels-end (DidInTurn IsDone) c.args.hall.now c.args.session.now c.loop-level.session i c.args.levels.now now invariant.1 ends (invariant.4 few)
