use Rattle.std.proofs.Common.{sym, ◌∙◌}
use Rattle.btr_roll.proofs.LengthLemmas.{first-some, first-none}
use Rattle.btr_roll.proofs.lengths.first_length.Goals as goal

pub returns-then-has_firsts-clause-length : goal.returns-then-has_firsts-clause-length
returns-then-has_firsts-clause-length c first = first-some _ first (sym c.has_firsts.ensures ∙ c.if-has_firsts.true)

pub returns-else-has_firsts-clause-length : goal.returns-else-has_firsts-clause-length
returns-else-has_firsts-clause-length c first = first-none _ first (sym c.has_firsts.ensures ∙ c.if-has_firsts.false)
