use Rattle.std.proofs.Common.{◌∙◌, rules}
use Rattle.btr_hall.specs.Session.{opening_of, seen_of}
use Rattle.btr_hall.proofs.TurnLemmas.{stopped_says}
use Rattle.btr_hall.proofs.session.Session.stopped.Goals as goal

pub returns-clause-engine : goal.returns-clause-engine
returns-clause-engine g c = search rules

pub returns-clause-entries : goal.returns-clause-entries
returns-clause-entries g c = λ h with_h.
    let x = opening_of c.args.hall.now in
    let l = seen_of c.standing-stopped.new.self in
    returns-clause-engine g c ∙ stopped_says h x l with_h c.standing-stopped.ensures.looks.trace
