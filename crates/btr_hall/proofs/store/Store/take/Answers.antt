use Rattle.std.proofs.Common.{◌∙◌, refl}
use Rattle.btr_engine.proofs.Stepping.{same_at_home}
use Rattle.btr_engine.proofs.TravelLemmas.{HasMoments, taken_is, of_like, stopped_as, sealed_as, result_like, cause_like, refused_step}
use Rattle.btr_hall.proofs.TravelLemmas.{refused_adds}
use Rattle.btr_hall.proofs.store.Store.take.Given.{Over}
use Rattle.btr_hall.proofs.store.Store.take.Goals as goal

-- the laws of the device
laws : (g : Over) → HasMoments g.D.Disk
laws g = record {
  only_now = λ seen d. g.met.D.Disk.only_now seen d;
  counts_now = λ seen d. g.met.D.Disk.counts_now seen d;
}

pub returns-in-Err-clause-refused : goal.returns-in-Err-clause-refused
returns-in-Err-clause-refused g c =
    let s = c.args.self.now in
    let old = s.engine in
    let out = c.take_log.new.self in
    let like = c.take_log.ensures.like in
    let back = c.settle.ensures in
    let e = c.args.entry.now in
    let fault = c.in-Err.fault in
    let same = same_at_home c.settle.new.self old back.home c.requires.home (record {
      log = back.log_is ∙ taken_is old.place c.in-Some.log c.in-Some.ensures.is;
      board = back.board ∙ like.board;
      entries = back.entries ∙ like.entries;
      chosen = back.chosen ∙ like.chosen;
      synced = back.synced ∙ like.synced;
    }) in
    let has = result_like out old like e fault c.in-Err.ensures.refused in
    let step = refused_step (laws g) old c.settle.new.self e fault same c.requires.home (stopped_as out old like fault c.in-Err.ensures.stopped) (sealed_as out old like fault c.in-Err.ensures.sealed)
    has (λ h of. cause_like out old like h e fault c.in-Err.ensures.refused (c.in-Err.ensures.cause h (of_like out old like h of))) in
    refused_adds s (record { engine = c.settle.new.self; opening = s.opening; halted = s.halted }) e fault step has refl refl
