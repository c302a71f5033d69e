use Rattle.btr_verify.proofs.FirstWrongLemmas.{wrong-leads_not, one-wrong_in}
use Rattle.btr_verify.proofs.laws.first_wrong_is_one.Goals as goal

pub returns : goal.returns
returns c store h version block one rising wrong =
    (wrong-leads_not store h rising version block one wrong, λ other more. one-wrong_in store h rising version block one other wrong more)
