use Rattle.btr_base.proofs.RangeLemmas.{same_from-covered}
use Rattle.btr_base.proofs.laws.one_list_for_the_times.Goals as goal

pub returns : goal.returns
returns c =
    same_from-covered c.args.a.now c.args.b.now c.requires.a_cut c.requires.b_cut c.requires.times
