-- What is said is what became of the rows.
use Rattle.std.specs.Result.{result_ok}
use Rattle.std.proofs.Common.{sym, subst}
use Rattle.btr_store.specs.Load.{SaysLoaded}
use Rattle.btr_store.proofs.LoadLemmas.{says_loaded}
use Rattle.btr_store.proofs.load.say_loaded.Goals as goal

pub returns-in-Ok : goal.returns-in-Ok
returns-in-Ok c =
    subst (λ r. SaysLoaded (result_ok r) c.load_lines.result) (sym c.in-Ok.is) (says_loaded c.in-Ok.loaded c.load_lines.result c.load_lines.ensures)
