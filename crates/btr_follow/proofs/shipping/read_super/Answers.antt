-- The sync wrote nothing, and the choice only reads.
use Rattle.std.specs.Prelude.{◌≡◌}
use Rattle.std.proofs.Common.{refl, subst}
use Rattle.btr_disk.specs.Causes.{KeepsCounts}
use Rattle.btr_disk.proofs.ByteLemmas.{Same-is}
use Rattle.btr_disk.proofs.MomentLemmas.{unwritten_synced, Only-kept}
use Rattle.btr_super.specs.Choose.{IsChosen}
use Rattle.btr_open.specs.Opening.{KeepsDisk}
use Rattle.btr_log.specs.Reads.{OnlyReads}
use Rattle.btr_open.proofs.Synced.{counts-trans}
use Rattle.btr_follow.proofs.ShippingLemmas.{choice-cause}
use Rattle.btr_follow.proofs.shipping.read_super.Given.{Over}
use Rattle.btr_follow.proofs.shipping.read_super.Goals.{After-choose, In_ok-sync}
use Rattle.btr_follow.proofs.shipping.read_super.Goals as goal

-- the sync counts its call
synced_counts : (g : Over) (c : In_ok-sync g) → KeepsCounts g.D.Disk.size g.D.Disk.calls g.D.Disk.faults c.args.disk.now c.sync.new.self
synced_counts g c =
    record { same_size = c.sync.ensures.size; more_calls = c.sync.ensures.calls.later; more_faults = c.sync.ensures.cause.later }

-- the choice only reads
chosen_reads : (g : Over) (c : After-choose g) → OnlyReads g.D.Disk c.sync.new.self c.choose.new.device
chosen_reads g c = record {
  counts = record { same_size = c.choose.ensures.size; more_calls = c.choose.ensures.calls.later; more_faults = c.choose.ensures.cause.later };
  nothing = λ seen. c.choose.ensures.nothing seen;
}

keeps : (g : Over) (c : After-choose g) → KeepsDisk g.D.Disk c.args.disk.now c.choose.new.device
keeps g c =
    let disk = g.D.Disk in
    let laws = g.met.D.Disk in
    let d0 = c.args.disk.now in
    record {
      counts = counts-trans disk d0 c.sync.new.self c.choose.new.device (synced_counts g (goal.at.After-choose g c).In_ok-sync) (chosen_reads g c).counts;
      unwritten = λ seen.
          unwritten_synced disk.calls disk.images_since disk.contents disk.images_now d0 c.sync.new.self c.choose.new.device (laws.only_now seen d0) (laws.reads_as_image seen d0)
          c.sync.ensures.calls (c.sync.ensures.time seen) (c.sync.ensures.contents seen) (c.in_ok-sync.ensures.synced seen) (c.choose.ensures.nothing seen);
    }

pub returns-in-Ok-clause-kept : goal.returns-in-Ok-clause-kept
returns-in-Ok-clause-kept g c = keeps g (goal.at.returns-in-Ok-clause-kept g c).After-choose

pub returns-in-Err-clause-kept : goal.returns-in-Err-clause-kept
returns-in-Err-clause-kept g c = keeps g (goal.at.returns-in-Err-clause-kept g c).After-choose

pub returns-in-Ok-clause-durable : goal.returns-in-Ok-clause-durable
returns-in-Ok-clause-durable g c = λ seen.
    let disk = g.D.Disk in
    Only-kept disk.calls disk.images_since disk.contents disk.images_now c.sync.new.self c.choose.new.device (c.in_ok-sync.ensures.synced seen) (c.choose.ensures.nothing seen)

pub returns-in-Ok-clause-chosen : goal.returns-in-Ok-clause-chosen
returns-in-Ok-clause-chosen g c seen =
    let disk = g.D.Disk in
    let d0 = c.args.disk.now in
    let d1 = c.sync.new.self in
    let found = c.in-Ok.found in
    let same : disk.contents d1 ≡ disk.contents d0 = Same-is (disk.contents d0) (disk.contents d1) (c.sync.ensures.contents seen) in
    subst (λ i. IsChosen (disk.size d0) i found) same (subst (λ n. IsChosen n (disk.contents d1) found) c.sync.ensures.size ((c.in-Ok.ensures.chosen seen (λ other. cc) found).0 refl))

pub returns-in-Err-clause-cause : goal.returns-in-Err-clause-cause
returns-in-Err-clause-cause g c =
    let disk = g.D.Disk in
    let d0 = c.args.disk.now in
    let d1 = c.sync.new.self in
    choice-cause disk d0 d1 c.choose.new.device c.sync.ensures.size (λ seen. Same-is (disk.contents d0) (disk.contents d1) (c.sync.ensures.contents seen)) c.sync.ensures.cause.later
    c.choose.result c.choose.ensures.cause c.choose.ensures.not_a_store c.choose.ensures.damaged c.in-Err.fault c.fault_of_choice.result c.in-Err.is c.fault_of_choice.ensures.none c.fault_of_choice.ensures.damaged c.fault_of_choice.ensures.fault
