use Rattle.std.specs.Prelude.{◌≡◌, false, IfSome}
use Rattle.std.proofs.Common.{refl, sym, ◌∙◌, ap, subst, arith}
use Rattle.btr_log.specs.Extents.{need}
use Rattle.btr_log.specs.Append.{body_in_run}
use Rattle.btr_log.specs.Log.{log_room}
use Rattle.btr_super.specs.Super.{IsSuper}
use Rattle.btr_engine.specs.Engine.{log_of, device, board_of, tail_of, room_of, super_of, is_stopped}
use Rattle.btr_engine.specs.Travel.{run_of}
use Rattle.btr_engine.proofs.Appending.{needed}
use Rattle.btr_engine.proofs.RaiseLemmas.{raise_keeps}
use Rattle.btr_engine.proofs.PendingLemmas.{need_of_ready, extent_of_ready}
use Rattle.btr_engine.proofs.engine.Engine.stage.Given.{Over}
use Rattle.btr_engine.proofs.engine.Engine.stage.Goals.{After-room-left}
use Rattle.btr_engine.proofs.engine.Engine.stage.Goals as goal

-- the engine runs
runs : (g : Over) (c : After-room-left g) → is_stopped c.args.self.now ≡ false
runs g c = sym c.args.self.now.marked ∙ c.if-self.false

-- the blocks of the extent are those that it needs
blocks : (g : Over) (c : After-room-left g) → need (body_in_run (run_of c.in_ok-ready.ready)) ≡ c.blocks-need.result
blocks g c =
    let old = c.args.self.now in
    let next = c.in_ok-ready.ensures.next.next in
    let size = need_of_ready c.args.entry.now c.in_ok-ready.ready (omega (arith, next)) (omega (arith, next, old.counted, old.ends, (log_of old).tail_inside, (log_of old).addressable)) c.in_ok-ready.ensures.made in
    size.0 ∙ sym c.blocks-need.ensures

-- the room is that of the engine
room : (g : Over) (c : After-room-left g) → c.room-left.result ≡ room_of c.args.self.now
room g c = c.room-left.ensures ∙ ap log_room c.requires.log

pub returns-then-need-left-clause-cause : goal.returns-then-need-left-clause-cause
returns-then-need-left-clause-cause g c h of =
    let old = c.args.self.now in
    let a = (goal.at.returns-then-need-left-clause-cause g c).After-room-left in
    let staged = c.in_ok-ready.ensures.staged h of in
    let ready = c.in_ok-ready.ready in
    let size = needed h (log_of old) c.args.entry.now _ _ (run_of ready) (extent_of_ready h (board_of old) of (tail_of old) c.args.entry.now ready (run_of ready) c.in_ok-ready.ensures.made staged refl) in
    (runs g a, staged.allowed, sym (blocks g a) ∙ size, room g a, omega arith, refl)

pub returns-clause-ready : goal.returns-clause-ready
returns-clause-ready g c =
    let old = c.args.self.now in
    let a = (goal.at.returns-clause-ready g c).After-room-left in
    let next = c.in_ok-ready.ensures.next.next in
    let size = g.D.Disk.size (device old) in
    record {
      ready_for = record {
        made = c.in_ok-ready.ensures.made;
        some = omega (arith, next);
        behind = omega (arith, next, old.counted, old.ends);
        runs = runs g a;
        fits = omega (arith, blocks g a, room g a);
        keeps = subst (λ o. IfSome o (IsSuper size)) (sym c.in_ok-ready.ensures.next.raise)
            (raise_keeps size (super_of old) c.args.entry.now old.followable (omega (arith, old.large, old.same_blocks)) (omega (arith, (log_of old).addressable, old.same_blocks)) (omega (arith, (log_of old).inside, old.same_blocks)) (omega (arith, old.behind, (log_of old).tail_inside, old.same_blocks)));
      };
      next = next;
      raise = c.in_ok-ready.ensures.next.raise;
      unsealed = c.in_ok-ready.ensures.next.unsealed;
    }
