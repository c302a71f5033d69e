use Rattle.std.proofs.Common.{◌∙◌, ap}
use Rattle.btr_gate.specs.Shares.{on_path}
use Rattle.btr_group.proofs.ShareLemmas.{whole_alike}
use Rattle.btr_group_tests.proofs.group_tests.example.Goals as goal

pub close-requires-clause-whole : goal.close-requires-clause-whole
close-requires-clause-whole g c =
    whole_alike c.in_ok-hall.seat c.flush-flushed.new.self (λ path. ap (on_path path) c.flush-flushed.ensures.flushes.same.share ∙ c.given_by_split-given.ensures.share path) c.in_ok-hall.ensures.whole
