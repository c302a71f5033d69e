use Rattle.std.proofs.Common.{refl, arith}
use Rattle.btr_follow.proofs.PlayLemmas.{play-shipped}
use Rattle.btr_follow.proofs.play.Play.ship.Goals as goal

pub returns : goal.returns
returns c = λ w of.
    let entries = c.entries.ensures w.leader of.leader in
    play-shipped w c.args.self.now _ c.args.number of (omega (arith, c.if-number-eq0.false)) (omega (arith, entries, c.if-number-entries.false)) refl c.in_ok-push.ensures.items refl refl
