use Rattle.std.specs.Option.{IfSome}
use Rattle.std.proofs.Common.{◌<◌, subst}
use Rattle.btr_host.specs.LogEnd.{IsNextGate}
use Rattle.btr_host.proofs.LogEndLemmas.{walked-next, walked-last}
use Rattle.btr_host.proofs.log_end.last_from.Goals as goal

pub loop-next-preserved : goal.loop-next-preserved
loop-next-preserved g c =
    let disk = g.D.Disk in
    let l = c.loop-next in
    let ok = c.in_ok-next.ensures in
    let inside = subst (λ o. IfSome o (λ n. (l.gate < n) × (n < c.args.blocks))) c.in-Some.is ok.inside in
    walked-next disk c.args.start c.args.blocks c.args.disk.now l.disk c.next_gate.new.disk l.last l.gate l.invariant c.next_gate.ensures.counts c.next_gate.ensures.unwritten c.in-Some.next inside.1
    (λ seen. subst (IsNextGate (disk.contents l.disk) c.args.blocks l.gate) c.in-Some.is (ok.next seen))

pub returns-clause-last : goal.returns-clause-last
returns-clause-last g c seen =
    let disk = g.D.Disk in
    let l = c.loop-next in
    walked-last disk c.args.start c.args.blocks c.args.disk.now l.disk c.next_gate.new.disk l.last l.gate l.invariant seen
    (subst (IsNextGate (disk.contents l.disk) c.args.blocks l.gate) c.in_default.is (c.in_ok-next.ensures.next seen))
