use Rattle.std.proofs.Common.{◌≡◌, ◌+◌, [], subst, take, drop, length, set, refl, ap, ◌∙◌, arith}
use Rattle.std.proofs.lemmas.List.{take_min, drop_min, take_more_set, take_all, length-set}
use Rattle.btr_jobs.proofs.DoesLemmas.{does_none, does_then, does_implied}
use Rattle.btr_load.specs.Work.{OneBatchDid, AllBatchesDid}
use Rattle.btr_load.proofs.BatchLemmas.{SomeDone, done_none, done_step, done_all}
use Rattle.btr_load.proofs.stream.commit_batches.Goals as goal

pub loop-i-init : goal.loop-i-init
loop-i-init g c = record {
  at = c.requires.at;
  long = refl;
  does = does_none c.args.hall.now c.args.session.now
      (λ start log low own. SomeDone start log low c.args.stream c.args.batch c.args.points.now c.args.points.now [] own)
      (λ start log. done_none start log c.args.stream c.args.batch c.args.points.now);
}

pub loop-i-preserved : goal.loop-i-preserved
loop-i-preserved g c =
    let inv = c.loop-i.invariant in
    let size = c.min-size.ensures in
    let cut = c.split_at.ensures in
    let rest = c.loop-i.rest.now in
    let stream = c.args.stream in
    let points = c.args.points.now in
    let result = c.commit_batch.result in
    let reported = take c.loop-i.i c.loop-i.results in
    record {
      at = c.commit_batch.ensures.at;
      long = length-set c.loop-i.results c.loop-i.i result ∙ inv.long;
      does = does_then c.args.hall.now c.args.session.now c.loop-i.session c.commit_batch.new.session
          (λ start log low own. SomeDone start log low stream c.args.batch points rest reported own)
          (λ start log low own. OneBatchDid start log low stream c.split_at.result.0.now result own)
          (λ start log low own. SomeDone start log low stream c.args.batch points c.split_at.result.1.now (take (c.loop-i.i + 1) (set c.loop-i.results c.loop-i.i result)) own)
          c.commit_batch.ensures.at
          (λ start late early low a b on starts was one.
          done_step start late early low stream c.args.batch points rest c.split_at.result.0.now c.split_at.result.1.now reported (take (c.loop-i.i + 1) (set c.loop-i.results c.loop-i.i result)) result a b
          (cut.front ∙ ap (λ n. take n rest) size ∙ take_min c.args.batch rest)
          (cut.back ∙ ap (λ n. drop n rest) size ∙ drop_min c.args.batch rest)
          (take_more_set c.loop-i.results c.loop-i.i result (omega (arith, inv.long)))
          on was one)
          inv.does c.commit_batch.ensures.does;
    }

pub returns-clause-does : goal.returns-clause-does
returns-clause-does g c =
    let inv = c.loop-i.invariant in
    let stream = c.args.stream in
    let points = c.args.points.now in
    let reported = take c.loop-i.i c.loop-i.results in
    let whole : reported ≡ c.loop-i.results = take_all c.loop-i.i c.loop-i.results (omega (arith, inv.long)) in
    does_implied c.args.hall.now c.args.session.now c.loop-i.session
    (λ start log low own. SomeDone start log low stream c.args.batch points c.loop-i.rest.now reported own)
    (λ start log low own. AllBatchesDid start log low stream c.args.batch points c.args.results.now c.loop-i.results own)
    (λ start log low own was. subst (λ l. AllBatchesDid start log low stream c.args.batch points c.args.results.now l own) whole
    (done_all start log low stream c.args.batch points c.loop-i.rest.now c.args.results.now reported own (ap length whole ∙ inv.long) was))
    inv.does
