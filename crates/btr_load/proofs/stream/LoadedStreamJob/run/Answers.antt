use Rattle.std.proofs.Common.{◌≡◌, ◌∙◌, sym, ap, subst, take, drop, length, ◌++◌}
use Rattle.std.proofs.lemmas.List.{with_items_is}
use Rattle.btr_jobs.proofs.DoesLemmas.{does_none, does_implied}
use Rattle.btr_load.specs.declared.outcome.RowsOutcome.TheVariants.{Committed}
use Rattle.btr_load.specs.Batches.{last_version}
use Rattle.btr_load.specs.Work.{AllBatchesDid, CommitsStream}
use Rattle.btr_load.proofs.BatchLemmas.{works_still, works_done}
use Rattle.btr_load.proofs.stream.LoadedStreamJob.run.Goals as goal

pub returns-in_default : goal.returns-in_default
returns-in_default g c = record {
  at = c.requires.at;
  keeps = tt;
  does = does_none c.args.hall.now c.args.session.now (λ start log low own. CommitsStream start log low c.args.self.now c.args.self.now own)
      (λ start log. works_still start log log.history c.args.self.now c.in_default.not-Committed);
}

pub returns-in-Committed-clause-does : goal.returns-in-Committed-clause-does
returns-in-Committed-clause-does g c =
    let new = c.commit_batches.new.results in
    let was = c.args.self.now in
    let stream = c.in-Committed.stream in
    let whole = with_items_is c.results.inside.list new (c.commit_batches.auto.results ∙ c.deref_mut.ensures.len) in
    let seen : c.deref.result.now ≡ new = c.deref.ensures.value ∙ whole in
    let last : c.version_after.result ≡ last_version c.in-Committed.latest new = c.version_after.ensures ∙ ap (last_version c.in-Committed.latest) seen in
    let is : was.outcome ≡ Committed stream c.deref_mut.result.now c.in-Committed.latest =
    c.in-Committed.is ∙ ap (λ r. Committed stream r c.in-Committed.latest) (sym (c.deref_mut.ensures.value ∙ c.results.view_is)) in
    does_implied c.args.hall.now c.args.session.now c.commit_batches.new.session
    (λ start log low own. AllBatchesDid start log low stream was.batch c.points-points.result.now c.deref_mut.result.now new own)
    (λ start log low own. CommitsStream start log low was (record { rows = was.rows; batch = was.batch; outcome = Committed stream (take c.results.inside.list.len (new ++ drop (length new) c.results.inside.list.items)) c.version_after.result }) own)
    (λ start log low own did.
    subst (λ r. CommitsStream start log low was (record { rows = was.rows; batch = was.batch; outcome = Committed stream r c.version_after.result }) own) (sym whole)
    (works_done start log low was stream c.in-Committed.latest c.deref_mut.result.now new c.version_after.result own is last
    (subst (λ p. AllBatchesDid start log low stream was.batch p c.deref_mut.result.now new own) c.points-points.ensures did)))
    c.commit_batches.ensures.does
