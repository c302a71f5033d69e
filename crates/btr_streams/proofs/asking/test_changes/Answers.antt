use Rattle.std.proofs.Common.{◌&&◌, nat_le, min, List, ap, ◌∙◌, arith}
use Rattle.btr_base.specs.Changes.{changes}
use Rattle.btr_base.specs.declared.point.Point.{Point}
use Rattle.btr_hist.specs.declared.answer.Rows.{Rows}
use Rattle.btr_hist.specs.declared.answer.Rows.TheVariants.{Ranges}
use Rattle.btr_hist.specs.History.{bag}
use Rattle.btr_hist.specs.Answer.{answer_from, is_power}
use Rattle.btr_streams.proofs.asking.test_changes.Goals as goal

pub returns-in-Err-clause-tested : goal.returns-in-Err-clause-tested
returns-in-Err-clause-tested g c h of =
    let s = c.args.stream in
    let good = nat_le c.args.old c.args.new && is_power c.args.p in
    let rows : List Point → Rows = λ b. Ranges (changes c.args.p (bag h s c.args.old) b) in
    c.in-Err.ensures.refused h of (min c.args.old c.args.new) good rows ∙ ap (λ v. answer_from h s (min c.args.old c.args.new) v good rows) c.max.ensures

pub returns-clause-may : goal.returns-clause-may
returns-clause-may g c =
    (omega (arith, c.in_default.ensures.within, c.in_default.ensures.numbered, c.max.ensures), omega (arith, c.if-old-new.false), omega (arith, c.if-p-gt-MAX_EXPONENT.false))
