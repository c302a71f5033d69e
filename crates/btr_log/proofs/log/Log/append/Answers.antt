use Rattle.std.specs.Prelude.{◌≡◌, ◌+◌, ◌*◌, ◌/◌, ◌++◌, ℕ, List, false, length, is_err}
use Rattle.std.proofs.Common.{rules, arith, sym, ◌∙◌, subst, length-append}
use Rattle.btr_disk.proofs.MomentLemmas.{weakens}
use Rattle.btr_disk.specs.Publish.{IsBeforeOrHasBody, Published}
use Rattle.btr_log.specs.Append.{body_in_run, IsMoment}
use Rattle.btr_log.proofs.AppendLemmas.{length-run}
use Rattle.btr_log.proofs.AppendImages.{from_ok, at_a_moment, at_the_end}
use Rattle.btr_log.proofs.log.Log.append.Goals as goal

pub returns-then-is_err-clause-moments : goal.returns-then-is_err-clause-moments
returns-then-is_err-clause-moments g c is_observable bodies rest =
    let disk = g.D.Disk in
    let log = c.args.self.now in
    let old = disk.contents log.disk in
    let run = c.args.prefix.now ++ g.S.Blocks.bytes c.args.rest.now in
    weakens disk.calls disk.images_since log.disk c.publish-written.new.device (IsBeforeOrHasBody old (4096 * (log.tail + 1)) run (4096 * log.tail)) (IsMoment old log.tail bodies (body_in_run run))
    (at_a_moment old log.tail bodies run c.requires.run rest.extents rest.closed)
    ((c.publish-written.ensures.publishes is_observable).moments rest.only)

pub returns-clause-moments : goal.returns-clause-moments
returns-clause-moments g c is_observable bodies rest =
    let disk = g.D.Disk in
    let log = c.args.self.now in
    let old = disk.contents log.disk in
    let run = c.args.prefix.now ++ g.S.Blocks.bytes c.args.rest.now in
    weakens disk.calls disk.images_since log.disk c.publish-written.new.device (IsBeforeOrHasBody old (4096 * (log.tail + 1)) run (4096 * log.tail)) (IsMoment old log.tail bodies (body_in_run run))
    (at_a_moment old log.tail bodies run c.requires.run rest.extents rest.closed)
    ((c.publish-written.ensures.publishes is_observable).moments rest.only)

pub returns-clause-at_rest : goal.returns-clause-at_rest
returns-clause-at_rest g c is_observable bodies rest =
    let disk = g.D.Disk in
    let log = c.args.self.now in
    let prefix = c.args.prefix.now in
    let blocks = g.S.Blocks.bytes c.args.rest.now in
    let new = c.publish-written.new.device in
    let ran : is_err c.publish-written.result ≡ false = sym c.is_err.ensures.value ∙ c.if-is_err.false in
    let needed : length prefix / 4096 + c.blocks-2.result ≡ length (prefix ++ blocks) / 4096 = omega (arith, c.blocks-2.ensures.whole, length-append prefix blocks) in
    rw c.len.ensures
    (rw needed
    (at_the_end (disk.contents log.disk) log.tail bodies (prefix ++ blocks) c.requires.run rest.extents (disk.contents new) (disk.images_now new)
    c.open_gate.result c.open_gate.ensures
    (from_ok c.publish-written.result _ ran (c.publish-written.ensures.publishes is_observable).published)
    (from_ok c.publish-written.result _ ran (c.publish-written.ensures.publishes is_observable).synced)))

pub returns-clause-appended : goal.returns-clause-appended
returns-clause-appended g c =
    let disk = g.D.Disk in
    let log = c.args.self.now in
    let run = c.args.prefix.now ++ g.S.Blocks.bytes c.args.rest.now in
    let new = disk.contents c.publish-written.new.device in
    let ran : is_err c.publish-written.result ≡ false = sym c.is_err.ensures.value ∙ c.if-is_err.false in
    record {
      tail = omega (arith, length-run run c.requires.run, c.len.ensures, c.blocks-2.ensures.whole, length-append c.args.prefix.now (g.S.Blocks.bytes c.args.rest.now));
      extents = search rules;
      calls = from_ok c.publish-written.result _ ran c.publish-written.ensures.calls.all;
      ran = search rules;
      runs = search rules;
      written = λ is_observable.
          subst (λ (gate : List ℕ). Published (disk.contents log.disk) (4096 * (log.tail + 1)) run (4096 * log.tail) gate new) c.open_gate.ensures
          (from_ok c.publish-written.result _ ran (c.publish-written.ensures.publishes is_observable).published);
    }
