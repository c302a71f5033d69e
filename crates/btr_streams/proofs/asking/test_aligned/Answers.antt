use Rattle.std.proofs.Common.{◌&&◌, ap, arith, w64}
use Rattle.std.proofs.lemmas.Bool.{and_from, and_left, and_right, lt-leb}
use Rattle.std.proofs.lemmas.Int.{to_z-of_z}
use Rattle.btr_base.specs.declared.limits.TheConstants.{MAX_EXPONENT}
use Rattle.btr_base.specs.Windows.{aligned}
use Rattle.btr_hist.specs.declared.answer.Rows.TheVariants.{Cells}
use Rattle.btr_hist.specs.History.{bag}
use Rattle.btr_hist.specs.Answer.{version_of, is_range, is_power}
use Rattle.btr_streams.proofs.Questions.{asked_range, bad_range, found, refused, power_good}
use Rattle.btr_streams.proofs.asking.test_aligned.Goals as goal

pub returns-in-Err-clause-tested : goal.returns-in-Err-clause-tested
returns-in-Err-clause-tested g c h of =
    c.in-Err.ensures.refused h of (is_range c.args.from c.args.to && is_power c.args.p) (λ b. Cells (aligned c.args.p c.args.from c.args.to b))
    (λ bad. and_left (is_range c.args.from c.args.to) (is_power c.args.p) (bad_range c.args.from c.args.to (to_z-of_z w64 c.args.from c.ranges.from) (to_z-of_z w64 c.args.to c.ranges.to) bad))

pub returns-then-p-gt-MAX_EXPONENT-clause-tested : goal.returns-then-p-gt-MAX_EXPONENT-clause-tested
returns-then-p-gt-MAX_EXPONENT-clause-tested g c h of =
    let s = c.args.asked.stream in
    let bad = and_right (is_range c.args.from c.args.to) (is_power c.args.p) (lt-leb c.args.p MAX_EXPONENT c.if-p-gt-MAX_EXPONENT.true) in
    refused h s c.in-Ok.there.0 (version_of h s c.args.asked.at) (c.in-Ok.ensures.there h of) (is_range c.args.from c.args.to && is_power c.args.p) (λ b. Cells (aligned c.args.p c.args.from c.args.to b)) bad

pub returns-clause-tested : goal.returns-clause-tested
returns-clause-tested g c h of =
    let s = c.args.asked.stream in
    let v = c.in-Ok.there.0 in
    let there = c.in-Ok.ensures.there h of in
    let range = asked_range c.args.from c.args.to (to_z-of_z w64 c.args.from c.ranges.from) (to_z-of_z w64 c.args.to c.ranges.to) c.in-Ok.there.1 c.in-Ok.ensures.range in
    let good = and_from (is_range c.args.from c.args.to) (is_power c.args.p) range.good (power_good c.args.p (omega arith)) in
    found h s v (version_of h s c.args.asked.at) there (is_range c.args.from c.args.to && is_power c.args.p) (λ b. Cells (aligned c.args.p c.args.from c.args.to b)) (Cells (aligned c.args.p c.in-Ok.there.1.from c.in-Ok.there.1.to (bag h s v))) good (ap (λ r. Cells (aligned c.args.p r.from r.to (bag h s v))) range.is)
