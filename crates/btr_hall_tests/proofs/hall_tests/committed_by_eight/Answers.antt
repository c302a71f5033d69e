use Rattle.std.proofs.Common.{ap, ◌∙◌}
use Rattle.btr_gate.specs.Shares.{on_path}
use Rattle.btr_hall.proofs.SessionLemmas.{alone_alike}
use Rattle.btr_hall_tests.proofs.hall_tests.committed_by_eight.Goals as goal

pub close-engine-requires-clause-alone : goal.close-engine-requires-clause-alone
close-engine-requires-clause-alone g c =
    alone_alike c.in_ok-hall.user c.tell_by_threads-user.result.0 (λ path. c.tell_by_threads-user.ensures.share path ∙ ap (on_path path) c.create-user.ensures.share) c.in_ok-hall.ensures.alone
