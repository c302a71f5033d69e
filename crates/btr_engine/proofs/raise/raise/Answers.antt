use Rattle.std.specs.Prelude.{◌≡◌, false, IfSome, is_err}
use Rattle.std.proofs.Common.{refl, sym, ◌∙◌, subst}
use Rattle.btr_disk.specs.Moments.{Leaves}
use Rattle.btr_log.specs.Log.{log_device}
use Rattle.btr_super.specs.declared.superblock.Super.{Super}
use Rattle.btr_super.specs.Super.{IsSuper}
use Rattle.btr_engine.specs.Holds.{HoldsHistory}
use Rattle.btr_engine.specs.Raise.{Raises, MayRaise}
use Rattle.btr_engine.proofs.Marking.{on_ok}
use Rattle.btr_engine.proofs.RaiseLemmas.{raise_followed, raise_prefix, raising, raised_now, nothing_raised}
use Rattle.btr_engine.proofs.raise.raise.Given.{Over}
use Rattle.btr_engine.proofs.raise.raise.Goals.{After-replace}
use Rattle.btr_engine.proofs.raise.raise.Goals as goal

-- the superblock of the raise keeps the table
keeps : (g : Over) (c : After-replace g) → IsSuper (g.D.Disk.size (log_device c.args.log.now)) c.in-Some.next
keeps g c =
    subst (λ o. IfSome o (IsSuper (g.D.Disk.size (log_device c.args.log.now)))) c.in-Some.is c.requires

raises : (g : Over) (c : After-replace g) (s : Super) → MayRaise s c.args.next.now → Raises s c.in-Some.next
raises g c s may = subst (MayRaise s) c.in-Some.is may

pub returns-in_default-clause-moments : goal.returns-in_default-clause-moments
returns-in_default-clause-moments g c is_observable h b s may now =
    nothing_raised h b s c.args.log.now now (g.met.D.Disk.only_now is_observable (log_device c.args.log.now))

pub returns-then-is_err-clause-moments : goal.returns-then-is_err-clause-moments
returns-then-is_err-clause-moments g c is_observable h b s may now =
    let a = (goal.at.returns-then-is_err-clause-moments g c).After-replace in
    let l = c.args.log.now in
    let raise = raises g a s may in
    let side = (keeps g a).has_side in
    subst (λ d. Leaves g.D.Disk.calls g.D.Disk.images_since (log_device l) d (λ x. HoldsHistory (g.D.Disk.size (log_device l)) x h)) (sym c.stop.ensures.device)
    (raising h b s c.in-Some.next l raise side now c.replace.new.device
    (c.replace.ensures.moments is_observable s (raise_followed h b s c.in-Some.next l raise side now) (raise_prefix h b s c.in-Some.next l raise side now)))

pub returns-clause-holds : goal.returns-clause-holds
returns-clause-holds g c is_observable h b s may now =
    let a = (goal.at.returns-clause-holds g c).After-replace in
    let l = c.args.log.now in
    let next = c.in-Some.next in
    let raise = raises g a s may in
    let side = (keeps g a).has_side in
    let done : is_err c.replace.result ≡ false = sym c.is_err.ensures.value ∙ c.if-is_err.false in
    let chosen = on_ok c.replace.result done (c.replace.ensures.replaced is_observable s (raise_followed h b s next l raise side now) (raise_prefix h b s next l raise side now)) in
    let only = on_ok c.replace.result done (c.replace.ensures.stored is_observable).synced in
    raised_now h b s next l raise side now _ c.args.next.now c.in-Some.is refl refl c.replace.ensures.size (c.replace.ensures.elsewhere is_observable) chosen only

pub returns-clause-moments : goal.returns-clause-moments
returns-clause-moments g c is_observable h b s may now =
    let a = (goal.at.returns-clause-moments g c).After-replace in
    let l = c.args.log.now in
    let raise = raises g a s may in
    let side = (keeps g a).has_side in
    raising h b s c.in-Some.next l raise side now c.replace.new.device
    (c.replace.ensures.moments is_observable s (raise_followed h b s c.in-Some.next l raise side now) (raise_prefix h b s c.in-Some.next l raise side now))
