use Rattle.std.proofs.Common.{subst}
use Rattle.std.proofs.lemmas.Result.{err_from_is_err_and}
use Rattle.btr_log.specs.Log.{log_device as disk_of}
use Rattle.btr_open.specs.Reading.{LogCause}
use Rattle.btr_open.proofs.WholeLemmas.{cause-of-start}
use Rattle.btr_open.proofs.LogWalkLemmas.{start-walked, walks-trans, cause-back, end-walked}
use Rattle.btr_open.proofs.log_walk.LogWalk.read_log.Goals as goal

pub returns-in_err-read_start-clause-cause : goal.returns-in_err-read_start-clause-cause
returns-in_err-read_start-clause-cause g c =
    let p = err_from_is_err_and c.from_residual.result c.from_residual.ensures.1 in
    let w = c.args.self.now in
    rw (p.1, p.2) (cause-of-start g.D.Disk g.J.Judge w.found (disk_of w.log) (disk_of c.read_start.new.self.log) c.in_err-read_start.field-0.0 c.in_err-read_start.ensures.cause)

pub loop-init : goal.loop-init
loop-init g c =
    let ok = c.in_ok-read_start.ensures in
    record {
      on = c.read_start.ensures.walks;
      walked = start-walked g.J.Judge c.args.self.now c.read_start.new.self c.args.judge.now c.read_start.ensures.walks ok.place ok.into ok.read c.requires.judge;
    }

pub returns-in_err-read_next-clause-walks : goal.returns-in_err-read_next-clause-walks
returns-in_err-read_next-clause-walks g c =
    walks-trans c.args.self.now c.loop.self c.read_next.new.self c.loop.invariant.on c.read_next.ensures.walks

pub returns-in_err-read_next-clause-cause : goal.returns-in_err-read_next-clause-cause
returns-in_err-read_next-clause-cause g c =
    let p = err_from_is_err_and c.from_residual-in_err-read_next.result c.from_residual-in_err-read_next.ensures.1 in
    let w = c.args.self.now in
    let l = c.loop.self in
    let on = c.loop.invariant.on in
    let cause = c.in_err-read_next.field-0.0 in
    let here = subst (λ s. LogCause g.D.Disk g.J.Judge s (disk_of l.log) (disk_of c.read_next.new.self.log) cause) on.same_super c.in_err-read_next.ensures.cause in
    rw (p.1, p.2) (cause-back g.J.Judge (disk_of w.log) (disk_of l.log) on.reads.reads w.found (disk_of c.read_next.new.self.log) cause here)

pub loop-preserved : goal.loop-preserved
loop-preserved g c = record {
  on = walks-trans c.args.self.now c.loop.self c.read_next.new.self c.loop.invariant.on c.read_next.ensures.walks;
  walked = c.in_ok-read_next.ensures.walked;
}

pub returns-clause-walks : goal.returns-clause-walks
returns-clause-walks g c =
    walks-trans c.args.self.now c.loop.self c.read_next.new.self c.loop.invariant.on c.read_next.ensures.walks

pub returns-clause-walked : goal.returns-clause-walked
returns-clause-walked g c =
    let ok = c.in_ok-read_next.ensures in
    end-walked g.J.Judge c.args.self.now c.loop.self c.read_next.new.self c.loop.judge c.read_next.new.judge c.loop.invariant.on c.read_next.ensures.walks ok.walked (ok.end c.if-branch.false)
