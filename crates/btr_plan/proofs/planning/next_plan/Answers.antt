-- What is planned for the sight is planned for the stream.
use Rattle.btr_plan.proofs.planning.next_plan.Goals as goal

pub returns : goal.returns
returns c = λ h of. c.next_of.ensures h c.args.stream of.follows (c.in-Some.ensures h of)
