use Rattle.std.proofs.Common.{ap, w64}
use Rattle.std.proofs.lemmas.Int.{to_z-of_z}
use Rattle.btr_base.specs.Bag.{within}
use Rattle.btr_hist.specs.declared.answer.Rows.TheVariants.{Points}
use Rattle.btr_hist.specs.History.{bag}
use Rattle.btr_hist.specs.Answer.{version_of, is_range}
use Rattle.btr_streams.proofs.Questions.{asked_range, bad_range, found}
use Rattle.btr_streams.proofs.asking.test_points.Goals as goal

pub returns-in-Err-clause-tested : goal.returns-in-Err-clause-tested
returns-in-Err-clause-tested g c h of =
    c.in-Err.ensures.refused h of (is_range c.args.from c.args.to) (λ b. Points (within c.args.from c.args.to b)) (bad_range c.args.from c.args.to (to_z-of_z w64 c.args.from c.ranges.from) (to_z-of_z w64 c.args.to c.ranges.to))

pub returns-clause-tested : goal.returns-clause-tested
returns-clause-tested g c h of =
    let s = c.args.asked.stream in
    let v = c.in-Ok.there.0 in
    let there = c.in-Ok.ensures.there h of in
    let range = asked_range c.args.from c.args.to (to_z-of_z w64 c.args.from c.ranges.from) (to_z-of_z w64 c.args.to c.ranges.to) c.in-Ok.there.1 c.in-Ok.ensures.range in
    found h s v (version_of h s c.args.asked.at) there (is_range c.args.from c.args.to) (λ b. Points (within c.args.from c.args.to b)) (Points (within c.in-Ok.there.1.from c.in-Ok.there.1.to (bag h s v))) range.good (ap (λ r. Points (within r.from r.to (bag h s v))) range.is)
