use Rattle.btr_hist.proofs.OutputLemmas.{legal-sound}
use Rattle.btr_hist.proofs.laws.points_lie_in_the_domain.Goals as goal

pub returns : goal.returns
returns c h stream version legal = (legal-sound h legal).in_domain stream version
