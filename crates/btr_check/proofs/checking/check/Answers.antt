use Rattle.std.specs.Prelude.{◌≡◌, Err}
use Rattle.std.proofs.Common.{sym, subst}
use Rattle.btr_super.specs.declared.choosing.ChooseFault.TheVariants.{Fault}
use Rattle.btr_check.specs.Checking.{VerdictBetween}
use Rattle.btr_check.proofs.CheckLemmas.{choice-verdict, choice-reads, choice-chosen, verdict-along, chosen-along, exactly}
use Rattle.btr_check.proofs.checking.check.Goals as goal

pub check_store-requires-clause-chosen : goal.check_store-requires-clause-chosen
check_store-requires-clause-chosen g c =
    let disk = g.D.Disk in
    let old = c.args.disk in
    let chosen = c.choose.ensures in
    let reads = choice-reads disk old c.choose.new.device (c.choose.result ≡ Err Fault) chosen.size chosen.calls.later chosen.cause chosen.nothing in
    chosen-along disk old c.choose.new.device c.in-Ok.found reads (choice-chosen disk old c.choose.result c.in-Ok.found c.in-Ok.is chosen.chosen)

pub returns-in-Ok-clause-verdict : goal.returns-in-Ok-clause-verdict
returns-in-Ok-clause-verdict g c =
    let disk = g.D.Disk in
    let old = c.args.disk in
    let chosen = c.choose.ensures in
    let reads = choice-reads disk old c.choose.new.device (c.choose.result ≡ Err Fault) chosen.size chosen.calls.later chosen.cause chosen.nothing in
    verdict-along disk old c.choose.new.device c.check_store.result.disk reads c.check_store.result.verdict c.check_store.ensures.verdict

pub returns-in-Ok-clause-exactly : goal.returns-in-Ok-clause-exactly
returns-in-Ok-clause-exactly g c reported v is =
    let disk = g.D.Disk in
    let old = c.args.disk in
    let chosen = c.choose.ensures in
    let reads = choice-reads disk old c.choose.new.device (c.choose.result ≡ Err Fault) chosen.size chosen.calls.later chosen.cause chosen.nothing in
    let right = verdict-along disk old c.choose.new.device c.check_store.result.disk reads c.check_store.result.verdict c.check_store.ensures.verdict in
    exactly (disk.size old) (disk.contents old) disk.is_observable (disk.faults old) (disk.faults c.check_store.result.disk) v c.check_store.result.verdict reported right is

pub returns-in-Err-clause-verdict : goal.returns-in-Err-clause-verdict
returns-in-Err-clause-verdict g c =
    let disk = g.D.Disk in
    let old = c.args.disk in
    let chosen = c.choose.ensures in
    subst (VerdictBetween disk old c.choose.new.device) (sym c.verdict_of_choice.ensures)
    (choice-verdict disk old c.choose.new.device c.choose.result c.in-Err.fault c.in-Err.is chosen.cause chosen.not_a_store chosen.damaged)

pub returns-in-Err-clause-exactly : goal.returns-in-Err-clause-exactly
returns-in-Err-clause-exactly g c reported v is =
    let disk = g.D.Disk in
    let old = c.args.disk in
    let chosen = c.choose.ensures in
    let right = subst (VerdictBetween disk old c.choose.new.device) (sym c.verdict_of_choice.ensures) (choice-verdict disk old c.choose.new.device c.choose.result c.in-Err.fault c.in-Err.is chosen.cause chosen.not_a_store chosen.damaged) in
    exactly (disk.size old) (disk.contents old) disk.is_observable (disk.faults old) (disk.faults c.choose.new.device) v c.verdict_of_choice.result reported right is
