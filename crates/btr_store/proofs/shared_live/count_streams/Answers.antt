-- The rows are those of the streams of the history that the session has seen.
use Rattle.std.specs.Prelude.{◌≡◌, List, length}
use Rattle.std.proofs.Common.{ap, ◌∙◌}
use Rattle.btr_hist.specs.declared.answer.StreamRow.{StreamRow}
use Rattle.btr_hist.specs.History.{ids}
use Rattle.btr_hall.specs.Trace.{history_of}
use Rattle.btr_hall.specs.Session.{seen_of}
use Rattle.btr_store.proofs.StreamLemmas.{rows_length}
use Rattle.btr_store.proofs.shared_live.count_streams.Goals as goal

pub returns-clause-streams : goal.returns-clause-streams
returns-clause-streams g c = λ h of.
    let seen = history_of h (seen_of c.admit.new.self) in
    let are = c.as_slice-count.ensures ∙ c.in_ok-streams.ensures seen (c.in_ok-snapshot.ensures.snapshot h of) in
    ap (λ (rows : List StreamRow). length rows) are ∙ rows_length seen 0 (ids seen)
