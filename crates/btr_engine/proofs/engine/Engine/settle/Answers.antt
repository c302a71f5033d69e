use Rattle.std.specs.Prelude.{◌≡◌}
use Rattle.std.proofs.Common.{sym, ◌∙◌, ap, subst}
use Rattle.btr_streams.specs.Board.{Kept}
use Rattle.btr_engine.specs.Place.{log_in}
use Rattle.btr_engine.specs.Engine.{board_of, super_of}
use Rattle.btr_engine.specs.Travel.{settled_board, settled_super, written_in}
use Rattle.btr_engine.proofs.Settling.{Goes, goes, stopped_after}
use Rattle.btr_engine.proofs.engine.Engine.settle.Goals as goal

-- the engine has the board that was staged
pub invariant_of-self-in-Written : goal.invariant_of-self-in-Written
invariant_of-self-in-Written g c =
    let old = c.args.self.now in
    let board : settled_board (board_of old) (written_in c.args.how) ≡ c.accept.new.self = ap (λ h. settled_board (board_of old) (written_in h)) c.in-Written.is ∙ sym c.accept.ensures.next in
    let stopped : stopped_after old.stopped c.args.how ≡ old.stopped = ap (stopped_after old.stopped) c.in-Written.is in
    let chosen : settled_super (super_of old) (written_in c.args.how) ≡ c.super_after-self.result = ap (λ h. settled_super (super_of old) (written_in h)) c.in-Written.is ∙ sym c.super_after-self.ensures in
    let first = goes old c.args.log c.args.how c.requires.settles in
    let second = subst (λ s. Goes old s c.args.log (stopped_after old.stopped c.args.how) (settled_board (board_of old) (written_in c.args.how)).entries) chosen first in
    let third = subst (λ n. Goes old c.super_after-self.result c.args.log (stopped_after old.stopped c.args.how) n) (ap (λ (b : Kept). b.entries) board) second in
    let fourth = subst (λ s. Goes old c.super_after-self.result c.args.log s c.accept.new.self.entries) stopped third in
    subst (λ l. Goes old c.super_after-self.result l old.stopped c.accept.new.self.entries) (sym (ap log_in c.put_back.ensures)) fourth
