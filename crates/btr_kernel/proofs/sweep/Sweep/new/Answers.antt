use Rattle.btr_kernel.proofs.sweep.Sweep.new.Goals as goal

pub returns : goal.returns
returns c a b = record { first = c.before_all.ensures a; second = c.before_all-2.ensures b; sliding = c.new.ensures a }
