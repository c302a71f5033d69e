use Rattle.std.proofs.Common.{true}
use Rattle.btr_base.specs.declared.limits.TheConstants.{FIRST, END}
use Rattle.btr_base.specs.Agg.{agg_within}
use Rattle.btr_hist.specs.declared.answer.Rows.TheVariants.{Info}
use Rattle.btr_hist.specs.History.{is_output, read_by}
use Rattle.btr_hist.specs.Answer.{version_of}
use Rattle.btr_streams.proofs.asking.test_info.Goals as goal

pub returns-in-Err-clause-tested : goal.returns-in-Err-clause-tested
returns-in-Err-clause-tested g c h of =
    let s = c.args.asked.stream in
    c.in-Err.ensures.refused h of true (λ b. Info (is_output h s) (agg_within FIRST END b) (read_by h s (version_of h s c.args.asked.at)))
