use Rattle.std.proofs.lemmas.Option.{slice_get-get_or}
use Rattle.btr_streams.proofs.RestoringLemmas.{reads-push}
use Rattle.btr_streams.proofs.restoring.restored_reads.Goals as goal

pub loop-version-preserved : goal.loop-version-preserved
loop-version-preserved c =
    let i = c.loop-version.version-index in
    reads-push c.args.versions.now i _ c.loop-version.reads c.in_ok-reads.reads (slice_get-get_or c.args.versions.now i _ c.loop-version-test.true) c.loop-version.invariant c.in_ok-reads.ensures
