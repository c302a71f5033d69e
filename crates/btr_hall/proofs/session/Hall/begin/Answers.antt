use Rattle.std.proofs.Common.{refl, false}
use Rattle.btr_hall.proofs.StoreLemmas.{first_list, store_first, begins_of}
use Rattle.btr_hall.proofs.session.Hall.begin.Goals as goal

pub begin-requires-clause-of : goal.begin-requires-clause-of
begin-requires-clause-of g c =
    (first_list c.args.engine, c.args.engine, store_first c.args.engine c.of.result c.of.ensures c.requires.home)

pub returns-in-Ok-clause-begins : goal.returns-in-Ok-clause-begins
returns-in-Ok-clause-begins g c =
    let opened = c.in-Ok.ensures.opened in
    begins_of c.args.engine opened.0 _ _ (record { engine = c.args.engine; opening = c.of.result; halted = false }) c.in-Ok.ensures.own c.requires.home c.of-opening.ensures refl c.of.ensures refl opened.1 opened.2
