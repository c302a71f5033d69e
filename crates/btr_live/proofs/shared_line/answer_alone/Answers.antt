-- The feeds are empty before and after a line that changes none.
use Rattle.std.proofs.Common.{ap, sym, subst}
use Rattle.btr_live.specs.Feeds.{FeedsValue, none_waiting, waiting_of}
use Rattle.btr_live.specs.Replies.{waiting_after, Means}
use Rattle.btr_live.specs.Serving.{LineAsks}
use Rattle.btr_live.proofs.ServeLemmas.{serves_implied}
use Rattle.btr_live.proofs.shared_line.answer_alone.Goals as goal

pub returns-clause-serves : goal.returns-clause-serves
returns-clause-serves g c =
    serves_implied c.args.hall.now c.args.session.now c.answer_line.new.session _ (LineAsks 1 none_waiting c.args.line c.answer_line.result none_waiting) c.answer_line.result
    (λ h of a m starts asks. (
      subst (λ (f : FeedsValue). Means f.batch a (waiting_of f) c.args.line m) c.new-feeds.ensures asks.0,
      ap (λ f. waiting_after none_waiting f m c.answer_line.result) (sym (c.requires.other a)),
    ))
    c.answer_line.ensures.line
