use Rattle.btr_talk.proofs.TalkLemmas.{talk-starts, turned_on, turned_off}
use Rattle.btr_talk.proofs.turns.Turns.run.Goals as goal

pub loop-init : goal.loop-init
loop-init g c =
    (tt, tt, c.requires.ready, rw (c.requires.lines, c.requires.moments, c.requires.asked) (talk-starts g.S.Source g.K.Sink g.X.Desk g.met.X.Desk.stays g.met.X.Desk.later c.requires.new))

pub loop-preserved : goal.loop-preserved
loop-preserved g c = (
  tt,
  tt,
  c.turn.ensures.ready,
  turned_on g.S.Source g.K.Sink g.X.Desk g.met.X.Desk.stays g.met.X.Desk.later c.turn.new.self.lines c.in-Ok-true.field-0 c.in-Ok-true.field-0-test
      (c.in-Ok-true.ensures.turned c.args.source.now c.args.sink.now c.args.desk.now c.loop.invariant.3),
)

pub returns-in-Ok-false-clause-talks : goal.returns-in-Ok-false-clause-talks
returns-in-Ok-false-clause-talks g c =
    turned_off g.S.Source g.K.Sink g.X.Desk g.met.X.Desk.stays g.met.X.Desk.later c.turn.new.self.lines c.in-Ok-false.field-0 c.in-Ok-false.field-0-test
    (c.in-Ok-false.ensures.turned c.args.source.now c.args.sink.now c.args.desk.now c.loop.invariant.3)
