use Rattle.std.proofs.Common.{◌&&◌, ap, arith, w64}
use Rattle.std.proofs.lemmas.Bool.{and_from, and_left}
use Rattle.std.proofs.lemmas.Int.{to_z-of_z}
use Rattle.btr_base.specs.Windows.{windows}
use Rattle.btr_hist.specs.declared.answer.Rows.TheVariants.{Cells}
use Rattle.btr_hist.specs.History.{bag}
use Rattle.btr_hist.specs.Answer.{version_of, is_range, is_width}
use Rattle.btr_streams.proofs.Questions.{asked_range, bad_range, found, width_good}
use Rattle.btr_streams.proofs.asking.test_windows.Goals as goal

pub returns-in-Err-clause-tested : goal.returns-in-Err-clause-tested
returns-in-Err-clause-tested g c h of =
    c.in-Err.ensures.refused h of (is_range c.args.from c.args.to && is_width c.args.width) (λ b. Cells (windows c.args.width c.args.from c.args.to b))
    (λ bad. and_left (is_range c.args.from c.args.to) (is_width c.args.width) (bad_range c.args.from c.args.to (to_z-of_z w64 c.args.from c.ranges.from) (to_z-of_z w64 c.args.to c.ranges.to) bad))

pub returns-clause-tested : goal.returns-clause-tested
returns-clause-tested g c h of =
    let s = c.args.asked.stream in
    let v = c.in-Ok.there.0 in
    let there = c.in-Ok.ensures.there h of in
    let range = asked_range c.args.from c.args.to (to_z-of_z w64 c.args.from c.ranges.from) (to_z-of_z w64 c.args.to c.ranges.to) c.in-Ok.there.1 c.in-Ok.ensures.range in
    let good = and_from (is_range c.args.from c.args.to) (is_width c.args.width) range.good (width_good c.args.width (omega arith) (omega arith)) in
    found h s v (version_of h s c.args.asked.at) there (is_range c.args.from c.args.to && is_width c.args.width) (λ b. Cells (windows c.args.width c.args.from c.args.to b)) (Cells (windows c.args.width c.in-Ok.there.1.from c.in-Ok.there.1.to (bag h s v))) good (ap (λ r. Cells (windows c.args.width r.from r.to (bag h s v))) range.is)
