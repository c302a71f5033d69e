use Rattle.std.specs.Prelude.{◌≡◌, true}
use Rattle.std.proofs.Common.{refl, sym}
use Rattle.btr_log.specs.Reads.{OnlyReads}
use Rattle.btr_log.proofs.OnlyReading.{OnlyReads-trans, same-bytes}
use Rattle.btr_super.specs.Super.{has_seal}
use Rattle.btr_open.proofs.ShelfHeld.{opened-shelf, sealed-cause, choice-cause, sealed-stood}
use Rattle.btr_open.proofs.sealed.open_sealed.Given.{Over}
use Rattle.btr_open.proofs.sealed.open_sealed.Goals.{After-choose}
use Rattle.btr_open.proofs.sealed.open_sealed.Goals as goal

reads : (g : Over) (c : After-choose g) → OnlyReads g.D.Disk c.args.disk.now c.choose.new.device
reads g c = record {
  counts = record { same_size = c.choose.ensures.size; more_calls = c.choose.ensures.calls.later; more_faults = c.choose.ensures.cause.later };
  nothing = λ reported. c.choose.ensures.nothing reported;
}

pub returns-in-Err-clause-reads : goal.returns-in-Err-clause-reads
returns-in-Err-clause-reads g c = reads g (goal.at.returns-in-Err-clause-reads g c).After-choose

pub returns-in-Err-clause-cause : goal.returns-in-Err-clause-cause
returns-in-Err-clause-cause g c =
    choice-cause g.D.Disk c.args.disk.now c.choose.new.device c.choose.result c.choose.ensures.cause c.choose.ensures.not_a_store c.choose.ensures.damaged c.in-Err.fault c.fault_of_choice.result c.in-Err.is c.fault_of_choice.ensures.none c.fault_of_choice.ensures.damaged c.fault_of_choice.ensures.fault

pub returns-in-Ok-read_sealed-clause-opened : goal.returns-in-Ok-read_sealed-clause-opened
returns-in-Ok-read_sealed-clause-opened g c =
    let disk = g.D.Disk in
    let at = (goal.at.returns-in-Ok-read_sealed-clause-opened g c).After-choose in
    let found = c.in-Ok.found in
    let seal : has_seal found ≡ true = cc in
    opened-shelf disk c.args.disk.now c.choose.new.device found c.in-Ok-read_sealed.shelf (λ reported. (c.in-Ok.ensures.chosen reported (λ other. cc) found).0 refl) seal (λ reported. sym (same-bytes c.args.disk.now c.choose.new.device (reads g at) reported)) c.in-Ok-read_sealed.ensures.read

pub returns-in-Ok-read_sealed-clause-reads : goal.returns-in-Ok-read_sealed-clause-reads
returns-in-Ok-read_sealed-clause-reads g c =
    OnlyReads-trans c.args.disk.now c.choose.new.device c.read_sealed.new.disk (reads g (goal.at.returns-in-Ok-read_sealed-clause-reads g c).After-choose) c.read_sealed.ensures.reads

pub returns-in-Err-read_sealed-clause-cause : goal.returns-in-Err-read_sealed-clause-cause
returns-in-Err-read_sealed-clause-cause g c =
    let at = (goal.at.returns-in-Err-read_sealed-clause-cause g c).After-choose in
    let found = c.in-Ok.found in
    let seal : has_seal found ≡ true = cc in
    sealed-cause g.D.Disk c.args.disk.now c.choose.new.device c.read_sealed.new.disk found (λ reported. (c.in-Ok.ensures.chosen reported (λ other. cc) found).0 refl) seal c.choose.ensures.cause.later (λ reported. sym (same-bytes c.args.disk.now c.choose.new.device (reads g at) reported))
    c.in-Err-read_sealed.cause c.fault_of.result c.fault_of.ensures.damaged c.fault_of.ensures.fault c.fault_of.ensures.want c.in-Err-read_sealed.ensures.cause

pub returns-in-Err-read_sealed-clause-stood : goal.returns-in-Err-read_sealed-clause-stood
returns-in-Err-read_sealed-clause-stood g c reported h held =
    let at = (goal.at.returns-in-Err-read_sealed-clause-stood g c).After-choose in
    let found = c.in-Ok.found in
    let seal : has_seal found ≡ true = cc in
    sealed-stood g.D.Disk c.args.disk.now c.read_sealed.new.disk reported h held c.fault_of.result
    (sealed-cause g.D.Disk c.args.disk.now c.choose.new.device c.read_sealed.new.disk found (λ other. (c.in-Ok.ensures.chosen other (λ fault. cc) found).0 refl) seal c.choose.ensures.cause.later (λ other. sym (same-bytes c.args.disk.now c.choose.new.device (reads g at) other))
    c.in-Err-read_sealed.cause c.fault_of.result c.fault_of.ensures.damaged c.fault_of.ensures.fault c.fault_of.ensures.want c.in-Err-read_sealed.ensures.cause)
