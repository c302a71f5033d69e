use Rattle.std.proofs.Common.{◌∙◌, refl}
use Rattle.btr_group.proofs.ServeLemmas.{writes_of, commit_in}
use Rattle.btr_group.proofs.carry.commit_led.Goals as goal

pub returns-clause-commits : goal.returns-clause-commits
returns-clause-commits g c = record {
  first = refl;
  tickets = refl;
  points = c.points_of.ensures c.args.stream c.none.result c.from_points.result refl ∙ c.from_points.ensures;
  writes = writes_of c.args.hall.now c.args.led.session c.commit.new.self c.args.stream c.none.result c.from_points.result c.args.led.points.items c.commit.result c.outcome_of-outcome.result c.requires.hall c.commit.ensures.session c.commit.ensures.same c.commit.ensures.commits c.none.ensures c.from_points.ensures c.outcome_of-outcome.ensures;
}

pub returns-clause-commit : goal.returns-clause-commit
returns-clause-commit g c =
    commit_in c.args.hall.now c.args.led.session c.commit.new.self c.args.stream c.none.result c.from_points.result c.args.led.points.items c.commit.result c.outcome_of-outcome.result c.requires.hall c.commit.ensures.commits c.none.ensures c.from_points.ensures c.outcome_of-outcome.ensures
