-- One frame more, or why the frames after it were not heard.
use Rattle.std.proofs.Common.{◌≡◌, length, take, arith}
use Rattle.std.proofs.lemmas.Result.{err_from_is_err_and}
use Rattle.std.proofs.lemmas.List.{length-take-le}
use Rattle.btr_top.proofs.HeardLemmas.{heard-none, heard-next, heard-all, heard-fault, heard-count}
use Rattle.btr_top.proofs.hear.hear_all.Goals as goal

pub loop-frame-init : goal.loop-frame-init
loop-frame-init g c = heard-none c.args.follower.now

pub returns-in_err-hear : goal.returns-in_err-hear
returns-in_err-hear g c =
    let p = err_from_is_err_and c.from_residual.result c.from_residual.ensures.1 in
    rw (p.1, p.2) (heard-fault c.args.frames.now c.loop-frame.frame-index c.frame-item.result c.args.follower.now c.loop-frame.follower c.hear.new.self c.loop-frame.counts c.in_err-hear.field-0.0
    c.loop-frame-test.true c.frame-item.is c.loop-frame.invariant c.in_err-hear.ensures.step c.in_err-hear.ensures.cause)

pub counted-counts-requires : goal.counted-counts-requires
counted-counts-requires g c =
    let i = c.loop-frame.frame-index in
    let all = heard-count (take i c.args.frames.now) c.args.follower.now c.loop-frame.follower c.loop-frame.counts c.loop-frame.invariant in
    let some : length (take i c.args.frames.now) ≡ i = length-take-le i c.args.frames.now (omega (arith, c.loop-frame-test.true)) in
    omega (arith, all, some, c.loop-frame-test.true)

pub loop-frame-preserved : goal.loop-frame-preserved
loop-frame-preserved g c =
    heard-next c.args.frames.now c.loop-frame.frame-index c.frame-item.result c.args.follower.now c.loop-frame.follower c.hear.new.self c.loop-frame.counts c.counted-counts.result c.in_ok-hear.field-0
    c.loop-frame-test.true c.frame-item.is c.loop-frame.invariant c.in_ok-hear.ensures.step c.in_ok-hear.ensures.heard c.counted-counts.ensures

pub returns : goal.returns
returns g c =
    heard-all c.args.frames.now c.loop-frame.frame-index c.args.follower.now c.loop-frame.follower c.loop-frame.counts c.loop-frame-test.false c.loop-frame.invariant
