use Rattle.std.specs.Prelude.{◌<◌, IfSome}
use Rattle.std.proofs.Common.{subst}
use Rattle.btr_verify.specs.Judging.{IsNextFrom}
use Rattle.btr_log.proofs.OnlyReading.{no-calls}
use Rattle.btr_verify.proofs.DownLemmas.{goes-nowhere, gone-end, gone-more}
use Rattle.btr_verify.proofs.descending.descend.Goals as goal

pub loop-child-init : goal.loop-child-init
loop-child-init g c =
    let disk = g.D.Disk in
    record {
      below = c.requires.below;
      reads = record {
        reads = no-calls c.args.disk.now (λ reported. g.met.D.Disk.only_now reported c.args.disk.now);
        can = c.requires.can;
      };
      down = λ reported pages h page wrong. goes-nowhere pages h (disk.contents c.args.disk.now) c.args.tail c.args.marks.now c.args.block page wrong;
    }

pub returns-in-None-clause-named : goal.returns-in-None-clause-named
returns-in-None-clause-named g c reported =
    let disk = g.D.Disk in
    let l = c.loop-child in
    gone-end disk c.args.tail c.args.marks.now c.args.block l.at c.args.disk.now l.disk l.piece l.invariant reported (subst (IsNextFrom (disk.contents l.disk) c.args.tail c.args.marks.now l.at) c.in-None.is (c.in_ok-wrong_child.ensures.child reported))

pub loop-child-preserved : goal.loop-child-preserved
loop-child-preserved g c =
    let disk = g.D.Disk in
    let l = c.loop-child in
    let lower = subst (λ o. IfSome o (λ child. child < l.at)) c.in-Some.is c.in_ok-wrong_child.ensures.lower in
    gone-more disk c.args.tail c.args.marks.now c.args.block l.at c.in-Some.child c.args.disk.now l.disk c.wrong_child.new.disk l.piece c.wrong_child.new.piece l.invariant lower c.wrong_child.ensures.reads (λ reported. subst (IsNextFrom (disk.contents l.disk) c.args.tail c.args.marks.now l.at) c.in-Some.is (c.in_ok-wrong_child.ensures.child reported))
