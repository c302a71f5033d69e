use Rattle.btr_talk.proofs.TalkLemmas.{no_talk}
use Rattle.btr_talk.proofs.turns.talk.Goals as goal

pub returns-in-Err-clause-talks : goal.returns-in-Err-clause-talks
returns-in-Err-clause-talks g c =
    rw (c.new-in-Err.ensures, c.new-in-Err-2.ensures) (no_talk g.S.Source g.K.Sink g.X.Desk g.met.X.Desk.stays g.met.X.Desk.later c.requires.new)
