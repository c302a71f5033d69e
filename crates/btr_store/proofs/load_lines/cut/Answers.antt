-- The front and the back of the points.
use Rattle.std.proofs.Common.{ap, ◌∙◌, take, drop}
use Rattle.btr_store.proofs.LoadLineLemmas.{take_min, drop_min}
use Rattle.btr_store.proofs.load_lines.cut.Goals as goal

pub returns : goal.returns
returns c = record {
  here = c.split_at.ensures.front ∙ ap (λ n. take n c.args.points.now) c.min.ensures ∙ take_min c.args.batch c.args.points.now;
  after = c.split_at.ensures.back ∙ ap (λ n. drop n c.args.points.now) c.min.ensures ∙ drop_min c.args.batch c.args.points.now;
}
