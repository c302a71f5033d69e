use Rattle.btr_check.proofs.LegalStands.{legal-stands}
use Rattle.btr_check.proofs.laws.legal_log_stands.Goals as goal

pub returns : goal.returns
returns c = legal-stands
