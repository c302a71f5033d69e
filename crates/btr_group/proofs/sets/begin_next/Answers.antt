use Rattle.std.proofs.Common.{sym, subst}
use Rattle.btr_hall.specs.declared.session.Session.{Session}
use Rattle.btr_hall.specs.Session.{Splits}
use Rattle.btr_group.proofs.SetLemmas.{back_again}
use Rattle.btr_group.proofs.sets.begin_next.Goals as goal

pub returns-in-Err-clause-refused : goal.returns-in-Err-clause-refused
returns-in-Err-clause-refused g c =
    back_again c.args.session.now c.split-other.new.self c.in-Err.other c.take_back.new.session
    (subst (λ (z : Session g.row.D.Denot g.D.Disk). Splits c.args.session.now c.split-other.new.self z) (sym c.in-Err.ensures.refused) c.split-other.ensures.splits) c.take_back.ensures.takes
