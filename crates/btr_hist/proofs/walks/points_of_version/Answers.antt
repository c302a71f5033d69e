use Rattle.std.proofs.Common.{◌≡◌, ◌+◌, ◌∙◌, drop, arith, None}
use Rattle.btr_base.specs.Commit.{Change}
use Rattle.btr_hist.specs.History.{change_of, commits, bag}
use Rattle.btr_hist.proofs.Steps.{step-some, step-none, walk-commit, walk-same, walk-done}
use Rattle.btr_hist.proofs.walks.points_of_version.Goals as goal
use Rattle.btr_hist.proofs.walks.points_of_version.Goals.{in-Some+then-left-gt0+in_ok-bag, in-Some+else-left-gt0, in_default}

pub loop-entry-preserved : goal.loop-entry-preserved
loop-entry-preserved c =
    let h = c.args.entries.now in
    let i = c.loop-entry.entry-index in
    let e = c.entry-item.result in
    let s = c.args.stream in
    let cs = commits (drop i h) s in
    let rest = commits (drop (i + 1) h) s in
    let all = bag h s c.args.version in
    elim c.match-change.branch [
      | in-Some+then-left-gt0+in_ok-bag w ↦
          let change : Change = record { cut = w.in-Some.cut.now; added = w.in-Some.added.now } in
          let step = step-some (change_of s) h i e change c.loop-entry-test.true c.entry-item.is w.in-Some.ensures in
          walk-commit c.loop-entry.bag c.match-change.bag all change cs rest c.loop-entry.left c.match-change.left step c.loop-entry.invariant (w.bag-is ∙ w.in_ok-bag.ensures) (omega arith)
      | in-Some+else-left-gt0 w ↦
          walk-done c.loop-entry.bag c.match-change.bag all cs rest c.loop-entry.left c.match-change.left w.if-left-gt0.false c.loop-entry.invariant w.bag-is w.left-is
      | in_default w ↦
          let none : change_of s e ≡ None = w.in_default.ensures in
          let step = step-none (change_of s) h i e c.loop-entry-test.true c.entry-item.is none in
          walk-same c.loop-entry.bag c.match-change.bag all cs rest c.loop-entry.left c.match-change.left step c.loop-entry.invariant w.bag-is w.left-is
    ]
