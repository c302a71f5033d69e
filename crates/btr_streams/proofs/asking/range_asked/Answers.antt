use Rattle.btr_streams.proofs.asking.range_asked.Goals as goal

pub returns-in-Err-clause-refused : goal.returns-in-Err-clause-refused
returns-in-Err-clause-refused g c h of good rows bad = c.in-Err.ensures.refused h of good rows
