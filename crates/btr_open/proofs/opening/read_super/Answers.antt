use Rattle.std.specs.Prelude.{◌≡◌}
use Rattle.std.proofs.Common.{refl, sym, subst, arith}
use Rattle.btr_disk.specs.Causes.{KeepsCounts}
use Rattle.btr_disk.proofs.ByteLemmas.{Same-is}
use Rattle.btr_disk.proofs.MomentLemmas.{unwritten_synced}
use Rattle.btr_super.specs.Choose.{IsChosen}
use Rattle.btr_open.specs.Opening.{KeepsDisk, SyncsFirst}
use Rattle.btr_log.specs.Reads.{OnlyReads}
use Rattle.btr_open.proofs.Synced.{counts-trans, sync_done, reads_on}
use Rattle.btr_open.proofs.OpenCauses.{choice_along, OpenCauseHolds-along}
use Rattle.btr_open.proofs.opening.read_super.Given.{Over}
use Rattle.btr_open.proofs.opening.read_super.Goals.{After-choose, In_ok-sync}
use Rattle.btr_open.proofs.opening.read_super.Goals as goal

-- the sync counts its call, and writes nothing
synced_counts : (g : Over) (c : In_ok-sync g) → KeepsCounts g.D.Disk.size g.D.Disk.calls g.D.Disk.faults c.args.disk.now c.sync.new.self
synced_counts g c =
    record { same_size = c.sync.ensures.size; more_calls = c.sync.ensures.calls.later; more_faults = c.sync.ensures.cause.later }

-- and the choice only reads
chosen_reads : (g : Over) (c : After-choose g) → OnlyReads g.D.Disk c.sync.new.self c.choose.new.device
chosen_reads g c = record {
  counts = record { same_size = c.choose.ensures.size; more_calls = c.choose.ensures.calls.later; more_faults = c.choose.ensures.cause.later };
  nothing = λ reported. c.choose.ensures.nothing reported;
}

keeps : (g : Over) (c : After-choose g) → KeepsDisk g.D.Disk c.args.disk.now c.choose.new.device
keeps g c =
    let disk = g.D.Disk in
    let laws = g.met.D.Disk in
    let d0 = c.args.disk.now in
    record {
      counts = counts-trans disk d0 c.sync.new.self c.choose.new.device (synced_counts g (goal.at.After-choose g c).In_ok-sync) (chosen_reads g c).counts;
      unwritten = λ reported.
          unwritten_synced disk.calls disk.images_since disk.contents disk.images_now d0 c.sync.new.self c.choose.new.device (laws.only_now reported d0) (laws.reads_as_image reported d0)
          c.sync.ensures.calls (c.sync.ensures.time reported) (c.sync.ensures.contents reported) (c.in_ok-sync.ensures.synced reported) (c.choose.ensures.nothing reported);
    }

pub returns-in-Ok-clause-kept : goal.returns-in-Ok-clause-kept
returns-in-Ok-clause-kept g c = keeps g (goal.at.returns-in-Ok-clause-kept g c).After-choose

pub returns-in-Err-clause-kept : goal.returns-in-Err-clause-kept
returns-in-Err-clause-kept g c = keeps g (goal.at.returns-in-Err-clause-kept g c).After-choose

pub returns-in-Ok-clause-synced : goal.returns-in-Ok-clause-synced
returns-in-Ok-clause-synced g c =
    let disk = g.D.Disk in
    let laws = g.met.D.Disk in
    let mid = c.sync.new.self in
    let done = sync_done disk c.args.disk.now mid c.sync.ensures.calls (synced_counts g (goal.at.returns-in-Ok-clause-synced g c).In_ok-sync) (λ reported. laws.only_now reported mid) (λ reported. laws.counts_now reported mid) (λ reported. c.in_ok-sync.ensures.synced reported) in
    subst (λ s. SyncsFirst disk c.args.disk.now s c.choose.new.device) (sym c.of-synced.ensures)
    (reads_on disk c.args.disk.now mid mid c.choose.new.device done (chosen_reads g (goal.at.returns-in-Ok-clause-synced g c).After-choose) (λ reported. laws.counts_now reported c.choose.new.device))

pub returns-in-Ok-clause-chosen : goal.returns-in-Ok-clause-chosen
returns-in-Ok-clause-chosen g c is_observable =
    let disk = g.D.Disk in
    let d0 = c.args.disk.now in
    let d1 = c.sync.new.self in
    let found = c.in-Ok.found in
    let same : disk.contents d1 ≡ disk.contents d0 = Same-is (disk.contents d0) (disk.contents d1) (c.sync.ensures.contents is_observable) in
    subst (λ i. IsChosen (disk.size d0) i found) same (subst (λ n. IsChosen n (disk.contents d1) found) c.sync.ensures.size ((c.in-Ok.ensures.chosen is_observable (λ other. cc) found).0 refl))

pub returns-in-Err-clause-cause : goal.returns-in-Err-clause-cause
returns-in-Err-clause-cause g c =
    let disk = g.D.Disk in
    let d0 = c.args.disk.now in
    let d1 = c.sync.new.self in
    let d2 = c.choose.new.device in
    let here = choice_along disk.is_observable (disk.size d1) (disk.contents d1) (disk.faults d1) (disk.faults d2) c.choose.result c.choose.ensures.cause c.choose.ensures.not_a_store c.choose.ensures.damaged
    c.in-Err.fault c.cause_of_choice.result c.in-Err.is c.cause_of_choice.ensures.none c.cause_of_choice.ensures.damaged c.cause_of_choice.ensures.fault in
    OpenCauseHolds-along disk.is_observable disk.is_observable (disk.size d1) (disk.size d0) (disk.contents d1) (disk.contents d0) (disk.faults d0) (disk.faults d1) (disk.faults d2) (disk.faults d2) c.cause_of_choice.result
    (λ is_observable. is_observable) (λ is_observable. (c.sync.ensures.size, Same-is (disk.contents d0) (disk.contents d1) (c.sync.ensures.contents is_observable)))
    c.sync.ensures.cause.later (omega arith) here
