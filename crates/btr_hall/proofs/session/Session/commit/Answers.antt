use Rattle.std.specs.Prelude.{length}
use Rattle.std.proofs.Common.{◌∙◌, ap, arith}
use Rattle.btr_gate.specs.Gates.{view}
use Rattle.btr_gate.specs.Views.{turn_list, with_number}
use Rattle.btr_hall.proofs.CommitLemmas.{commits_of, alone_step}
use Rattle.btr_hall.proofs.session.Session.commit.Goals as goal

pub returns-clause-commits : goal.returns-clause-commits
returns-clause-commits g c =
    let hall = c.args.hall.now in
    let old = c.args.self.now in
    let w = view c.home_turn-turn.new.pass in
    let s = c.home_turn-turn.result.state in
    let gets = c.home_turn-turn.ensures.gets in
    let did = c.add_in.ensures.adds in
    commits_of hall old _ s did.new (turn_list w) c.args.entry.now c.add_in.result did.added gets.state gets.home did.adds did.seen
    (omega (arith, gets.turns, did.turns, ap length gets.mine)) gets.begins gets.alone
    (did.mine ∙ ap (λ m. with_number m (turn_list w) did.added) gets.mine)

pub returns-clause-alone : goal.returns-clause-alone
returns-clause-alone g c =
    alone_step c.args.hall.now c.args.self.now _ c.args.entry.now c.add_in.result (returns-clause-commits g c)
