use Rattle.std.proofs.Common.{◌≡◌, ◌∙◌, length, rules, arith}
use Rattle.std.proofs.Math.Logic.{∥∥₁_map}
use Rattle.btr_disk.specs.Moments.{WroteNothing}
use Rattle.btr_disk.proofs.MomentLemmas.{one_more}
use Rattle.btr_shelf.proofs.BlockLemmas.{read-each}
use Rattle.btr_shelf.proofs.disk_nodes.DiskNodes.hold.Goals as goal

pub invariant_of-self-in-Ok : goal.invariant_of-self-in-Ok
invariant_of-self-in-Ok g c =
    let disk = g.D.Disk in
    let old = c.args.self.now in
    let new = c.read.new.self in
    let does = c.read.ensures in
    let long : length c.read.new.buf ≡ 4096 = search rules in
    record {
      kept = λ o block k e lt. read-each (disk.contents old.disk) (disk.contents new) c.args.block block k c.read.new.buf (c.in-Ok.ensures.reads o).bytes (does.reads o).same long e lt;
      counts = record {
        same_size = does.size ∙ old.counts.same_size;
        more_calls = omega (arith, old.counts.more_calls, does.calls.later);
        more_faults = omega (arith, old.counts.more_faults, does.cause.later);
      };
      stays = λ o k. (does.reads o).same k ∙ old.stays o k;
      nothing = ∥∥₁_map old.nothing (λ (before : disk.is_observable → WroteNothing disk.calls disk.contents disk.images_now disk.images_since old.start.value old.disk) o.
          one_more disk.calls disk.images_since disk.contents disk.images_now old.start.value old.disk new (before o) does.calls (does.reads o).same (does.reads o).images (does.reads o).time);
    }

pub invariant_of-self : goal.invariant_of-self
invariant_of-self g c =
    let disk = g.D.Disk in
    let old = c.args.self.now in
    let new = c.read.new.self in
    let does = c.read.ensures in
    record {
      kept = λ o block k e lt. absurd (cc);
      counts = record {
        same_size = does.size ∙ old.counts.same_size;
        more_calls = omega (arith, old.counts.more_calls, does.calls.later);
        more_faults = omega (arith, old.counts.more_faults, does.cause.later);
      };
      stays = λ o k. (does.reads o).same k ∙ old.stays o k;
      nothing = ∥∥₁_map old.nothing (λ (before : disk.is_observable → WroteNothing disk.calls disk.contents disk.images_now disk.images_since old.start.value old.disk) o.
          one_more disk.calls disk.images_since disk.contents disk.images_now old.start.value old.disk new (before o) does.calls (does.reads o).same (does.reads o).images (does.reads o).time);
    }
