use Rattle.std.specs.Prelude.{IfOk, IfErr}
use Rattle.std.proofs.Common.{sym, subst}
use Rattle.btr_open.specs.Reads.{PartCause}
use Rattle.btr_open.specs.Seen.{IsJudgedLog, IsDamagedLogBy, first_reading}
use Rattle.btr_check.specs.Rule.{MayStand}
use Rattle.btr_check.specs.Checker.{HasSeen}
use Rattle.btr_check.specs.Checking.{VerdictBetween}
use Rattle.btr_check.proofs.CheckLemmas.{cause-verdict, verdict-along, checked-along}
use Rattle.btr_check.proofs.checking.check_store.Goals as goal

pub check_whole-verdict-requires-clause-read : goal.check_whole-verdict-requires-clause-read
check_whole-verdict-requires-clause-read g c =
    let a = c.args in
    checked-along g.D.Disk a.disk c.read_judged-disk.result.0 a.found c.read_judged-disk.new.judge c.in-Ok.whole c.read_judged-disk.ensures.reads
    (λ reported. subst (λ r. IfOk r (IsJudgedLog MayStand HasSeen (g.D.Disk.contents a.disk) (first_reading a.found) c.read_judged-disk.new.judge)) c.in-Ok.is (c.read_judged-disk.ensures.read reported))

pub returns-in-Ok-clause-verdict : goal.returns-in-Ok-clause-verdict
returns-in-Ok-clause-verdict g c =
    verdict-along g.D.Disk c.args.disk c.read_judged-disk.result.0 c.check_whole-verdict.result.1 c.read_judged-disk.ensures.reads c.check_whole-verdict.result.0 c.check_whole-verdict.ensures.verdict

pub returns-in-Err-clause-verdict : goal.returns-in-Err-clause-verdict
returns-in-Err-clause-verdict g c =
    let a = c.args in
    let new = c.read_judged-disk.result.0 in
    subst (VerdictBetween g.D.Disk a.disk new) (sym c.verdict_of_cause.ensures) (cause-verdict g.D.Disk a.disk new a.found c.in-Err.cause c.requires.chosen
    (subst (λ r. IfErr r (PartCause g.D.Disk (IsDamagedLogBy MayStand (g.D.Disk.contents a.disk) (first_reading a.found)) a.disk new)) c.in-Err.is c.read_judged-disk.ensures.cause))
