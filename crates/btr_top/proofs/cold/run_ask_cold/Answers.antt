-- If the input is not read, the device is not called.
use Rattle.btr_top.proofs.ColdCauses.{uncalled_kept}
use Rattle.btr_top.proofs.cold.run_ask_cold.Goals as goal

pub returns-in-Err-clause-kept : goal.returns-in-Err-clause-kept
returns-in-Err-clause-kept g c = uncalled_kept g.D.Disk c.args.disk (λ reported. g.met.D.Disk.only_now reported c.args.disk)
