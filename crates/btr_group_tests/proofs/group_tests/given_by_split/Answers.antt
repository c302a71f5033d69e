use Rattle.std.proofs.Common.{ap}
use Rattle.btr_gate.specs.Shares.{on_path}
use Rattle.btr_group.proofs.ShareLemmas.{shares_meet}
use Rattle.btr_group_tests.proofs.group_tests.given_by_split.Goals as goal

pub returns-clause-share : goal.returns-clause-share
returns-clause-share g c path =
    shares_meet path c.args.first.now c.split-second.new.self c.split-second.result c.given_by_two-given.new.first c.given_by_two-given.new.second c.meet.new.self c.split-second.ensures.splits
    (ap (on_path path) c.given_by_two-given.ensures.share.0) (ap (on_path path) c.given_by_two-given.ensures.share.1) c.meet.ensures.meets
