use Rattle.btr_talk.specs.Turn.{Talking}
use Rattle.btr_talk.proofs.turns.Turns.run.Given as goal

abbrev pub invariant-loop : goal.invariant-loop
invariant-loop g l =
    (goal.iterator-loop g).can_next l.iterator' × (goal.iterator-loop g).is_finite l.iterator'
    × g.X.Desk.is_ready l.desk
    × Talking g.S.Source g.K.Sink g.X.Desk l.limit l.fn.source l.fn.sink l.fn.desk l.source l.sink l.desk l.self.lines l.self.moments.items l.self.asked.items
