use Rattle.std.proofs.Common.{rules}
use Rattle.std.proofs.lemmas.Result.{on_ok_weaker}
use Rattle.btr_disk.proofs.MomentLemmas.{composes, weakens}
use Rattle.btr_super.specs.Format.{IsFormatting}
use Rattle.btr_super.proofs.Writing.{formatted, while_bodies, while_gate}
use Rattle.btr_super.proofs.formatting.write_store.Goals as goal

pub returns-in_err-write_bodies-clause-writes : goal.returns-in_err-write_bodies-clause-writes
returns-in_err-write_bodies-clause-writes g c is_observable =
    let disk = g.D.Disk in
    let d0 = c.args.device.now in
    let d1 = c.write_bodies.new.device in
    let size = disk.size d0 in
    let old = disk.contents d0 in
    record {
      formatted = λ closed. search rules;
      synced = search rules;
      moments = λ closed settled.
          weakens disk.calls disk.images_since d0 d1 _ (IsFormatting size c.args.blocks old)
          (λ x two. while_bodies size c.args.blocks c.requires.blocks.least c.requires.blocks.greatest c.requires.inside old x closed two) (c.write_bodies.ensures.moments is_observable settled);
    }

pub returns-clause-writes : goal.returns-clause-writes
returns-clause-writes g c is_observable =
    let disk = g.D.Disk in
    let d0 = c.args.device.now in
    let d1 = c.write_bodies.new.device in
    let d2 = c.open_first_gate.new.device in
    let size = disk.size d0 in
    let old = disk.contents d0 in
    let least = c.requires.blocks.least in
    let greatest = c.requires.blocks.greatest in
    let bodies = c.in_ok-write_bodies.ensures in
    let stored = bodies.stored is_observable in
    record {
      formatted = λ closed.
          on_ok_weaker c.open_first_gate.result
          (formatted size c.args.blocks least greatest c.requires.inside old (disk.contents d1) (disk.contents d2) closed
          (bodies.elsewhere is_observable) stored.body stored.log (c.open_first_gate.ensures.elsewhere is_observable))
          (c.open_first_gate.ensures.gate is_observable);
      synced = c.open_first_gate.ensures.synced is_observable;
      moments = λ closed settled.
          composes disk.calls disk.images_since d0 d1 d2 (IsFormatting size c.args.blocks old)
          (weakens disk.calls disk.images_since d0 d1 _ (IsFormatting size c.args.blocks old)
          (λ x two. while_bodies size c.args.blocks least greatest c.requires.inside old x closed two) (bodies.moments is_observable settled))
          (weakens disk.calls disk.images_since d1 d2 _ (IsFormatting size c.args.blocks old)
          (λ x but. while_gate size c.args.blocks least greatest c.requires.inside old (disk.contents d1) x closed (bodies.elsewhere is_observable) stored.body stored.log but)
          (c.open_first_gate.ensures.moments is_observable (bodies.synced is_observable)));
    }
