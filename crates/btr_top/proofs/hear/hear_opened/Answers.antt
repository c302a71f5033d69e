-- What was heard was done on the device that the engine was opened on.
use Rattle.std.specs.Prelude.{List}
use Rattle.std.proofs.Common.{◌∙◌, ap, subst}
use Rattle.btr_engine.specs.Engine.{device}
use Rattle.btr_follow.specs.declared.frame.Frame.{Frame}
use Rattle.btr_top.specs.Hear.{HeardEach}
use Rattle.btr_top.proofs.HeardCauses.{heard_cause, heard_size}
use Rattle.btr_top.proofs.hear.hear_opened.Goals as goal

pub returns-clause-size : goal.returns-clause-size
returns-clause-size g c = λ old opened.
    let first = c.start-follower.result in
    let last = c.hear_all-heard.new.follower in
    heard_size g.D.Disk old c.into_parts-disk.result.0 c.as_slice.result.now c.args.engine first last c.hear_all-heard.result opened c.start-follower.ensures
    (c.into_parts-disk.ensures.disk ∙ ap (λ (e : _). device e) c.promote.ensures.engine) c.hear_all-heard.ensures

pub returns-clause-cause : goal.returns-clause-cause
returns-clause-cause g c = λ old opened.
    let first = c.start-follower.result in
    let last = c.hear_all-heard.new.follower in
    heard_cause g.D.Disk g.met.D.Disk.only_now g.met.D.Disk.counts_now old c.into_parts-disk.result.0 c.args.frames.now c.args.engine first last opened c.start-follower.ensures
    (c.into_parts-disk.ensures.disk ∙ ap (λ (e : _). device e) c.promote.ensures.engine)
    c.hear_all-heard.result
    (subst (λ (l : List Frame). HeardEach l first last c.hear_all-heard.result) c.as_slice.ensures c.hear_all-heard.ensures)
    c.ending_of-ending.result c.ending_of-ending.ensures
