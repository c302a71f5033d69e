use Rattle.std.proofs.Common.{true}
use Rattle.btr_base.specs.Nearest.{nearest}
use Rattle.btr_hist.specs.declared.answer.Rows.TheVariants.{Points}
use Rattle.btr_hist.specs.Answer.{list_of}
use Rattle.btr_streams.proofs.asking.test_nearest.Goals as goal

pub returns-in-Err-clause-tested : goal.returns-in-Err-clause-tested
returns-in-Err-clause-tested g c h of = c.in-Err.ensures.refused h of true (λ b. Points (list_of (nearest c.args.toward c.args.time b)))
