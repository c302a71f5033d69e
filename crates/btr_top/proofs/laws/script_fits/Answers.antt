use Rattle.btr_top.proofs.ScriptFits.{script_fits}
use Rattle.btr_top.proofs.laws.script_fits.Goals as goal

pub returns : goal.returns
returns c = script_fits
