use Rattle.btr_open.proofs.sealed.find_at.Goals as goal

pub returns-clause-reads : goal.returns-clause-reads
returns-clause-reads g c = record { counts = c.find_extent.ensures.counts; nothing = λ reported. c.find_extent.ensures.unwritten reported }
